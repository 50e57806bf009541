use Rattle.std.proofs.Common.{◌≡◌, ◌∙◌, ℕ, List, All, refl, ap, subst, sym}
use Rattle.cube_actions.specs.Stakes.{Terms}
use Rattle.turn_rule.proofs.Monotone.{same-stakes}
use Rattle.turn_rule.specs.Games.{game_of}
use Rattle.turn_rule.specs.States.{AreNoLooser}
use Rattle.turn_rule.specs.Turn.{rounds}
use Rattle.turn_rule.specs.declared.game.Game.{Game}
use Rattle.interval_words.specs.WordLists.{AreClosed, WordList, source_of, words_in_list}
use Rattle.record_analysis.specs.Analyses.{IsBestFor, analysis_of, losses_alone}
use Rattle.record_analysis.specs.Truth.{IsNoLooserAnalysis, IsTrueAnalysis}
use Rattle.record_analysis.proofs.Analysed.{alone-tight, alone-true}
use Rattle.record_analysis.specs.declared.analysis.Judged.{Judged}
use Rattle.worker_sweep.proofs.LastLemmas.{last-asked}
use Rattle.record_study.specs.Studies.{AreStudied, game_of_record}
use Rattle.record_study.proofs.Records.{can-be-judged, decisions-of, if-ok, no_starts}
use Rattle.record_study.proofs.studying.study.Goals as goal

pub analysis_by-requires-clause-can : goal.analysis_by-requires-clause-can
analysis_by-requires-clause-can g c =
    let rec = c.args.rec.now in
    let words = c.words-words.result.now in
    let game : words.game ≡ game_of_record rec = ap (λ (w : WordList). w.game) c.words-words.ensures.words ∙ c.in_ok-closed.ensures.game ∙ ap (λ (t : Terms). game_of rec.checkers t) c.stakes_of-stakes.ensures in
    can-be-judged c.right_decisions_can_be_judged.ensures rec c.requires.plain no_starts c.args.decisions c.requires.right (source_of words) words.game.stakes
    (ap (λ (g : Game). g.checkers) game) (ap (λ (g : Game). g.stakes) game) c.right.ensures.game.stakes (record { kinds = refl; bound = refl })

pub returns : goal.returns
returns g c =
    let rec = c.args.rec.now in
    let words = c.words-words.result.now in
    let decisions = c.args.decisions in
    let stakes = words.game.stakes in
    let u = words_in_list words in
    let game : words.game ≡ game_of_record rec = ap (λ (w : WordList). w.game) c.words-words.ensures.words ∙ c.in_ok-closed.ensures.game ∙ ap (λ (t : Terms). game_of rec.checkers t) c.stakes_of-stakes.ensures in
    let closed : AreClosed words = rw c.words-words.ensures.words c.words-words.ensures.closed in
    let many : words.rounds ≡ c.args.rounds = ap (λ (w : WordList). w.rounds) c.words-words.ensures.words ∙ last-asked _ _ _ _ c.in_ok-closed.ensures.rounds in
    let can = can-be-judged c.right_decisions_can_be_judged.ensures rec c.requires.plain no_starts decisions c.requires.right (source_of words) stakes
    (ap (λ (g : Game). g.checkers) game) (ap (λ (g : Game). g.stakes) game) c.right.ensures.game.stakes (record { kinds = refl; bound = refl }) in
    let are = decisions-of words decisions can in
    let tight : AreNoLooser words.game u (rounds stakes c.args.rounds) = subst (λ (n : ℕ). AreNoLooser words.game u (rounds stakes n)) many closed.tight in
    let studied : (list : List Judged) → (losses_alone list ≡ analysis_of stakes u decisions) × All (IsBestFor stakes u) list → AreStudied words.game c.args.rounds decisions list = λ list is. record {
      true = alone-true words.game list (subst (IsTrueAnalysis words.game) (sym is.0) (c.analyses_enclose_what_is_lost.ensures.sound words.game c.right.ensures.game u closed.sound decisions are));
      tight = alone-tight list (analysis_of stakes (rounds stakes c.args.rounds) decisions) (subst (λ (js : List Judged). IsNoLooserAnalysis js (analysis_of stakes (rounds stakes c.args.rounds) decisions)) (sym is.0) (c.tighter_words_give_tighter_analyses.ensures.pairs words.game c.right.ensures.game stakes (same-stakes stakes) u (rounds stakes c.args.rounds) tight decisions are));
      best = (u, closed.sound, is.1);
    } in
    if-ok (λ (list : List Judged). (losses_alone list ≡ analysis_of stakes u decisions) × All (IsBestFor stakes u) list) (AreStudied (game_of_record rec) c.args.rounds decisions) c.analysis_by.result
    (λ list is. subst (λ (g : Game). AreStudied g c.args.rounds decisions list) game (studied list is)) c.analysis_by.ensures
