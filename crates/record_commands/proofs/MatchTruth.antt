-- What the files of a match's scores enclose, where their words are sound and their start pairs true.
use Rattle.std.proofs.Common.{◌≡◌, ◌∙◌, ◌≤◌, ℕ, max, List, [], ◌∷◌, get_or, true, All, IfSome, Option, Some, None, ap, sym, subst, refl, arith}
use Rattle.std.proofs.lemmas.List.Elements.{All-cons, All-head, All-tail}
use Rattle.directed_fixed.specs.Bounds.{Bounds}
use Rattle.outside_log.specs.Files.{Contents}
use Rattle.cube_actions.specs.Matches.{terms_of}
use Rattle.cube_actions.specs.Scores.{MatchScore, IsScore}
use Rattle.cube_actions.specs.Stakes.{Terms}
use Rattle.cube_actions.specs.Starts.{Covers}
use Rattle.cube_actions.specs.declared.name.StakesName.{StakesName}
use Rattle.cube_actions.specs.declared.name.StakesName.TheVariants.{Match}
use Rattle.game_record.specs.declared.decision.Decision.{Decision}
use Rattle.game_record.specs.RightDecisions.{IsRightDecision}
use Rattle.game_record.specs.Turns.{has_match}
use Rattle.game_record.specs.declared.record.Record.{Record as RecordRead}
use Rattle.game_record.specs.declared.record.RecordStakes.{RecordStakes}
use Rattle.game_record.specs.declared.record.RecordStakes.TheVariants.{Unlimited, Match as OfMatch}
use Rattle.turn_rule.specs.declared.game.Game.{Game}
use Rattle.turn_rule.specs.Games.{IsGame, game_of}
use Rattle.turn_rule.specs.Truth.{AreSoundFrom}
use Rattle.match_scores.specs.Ladders.{EncloseStarts, IsScoredMatch, game_at_score as score_game}
use Rattle.match_scores.specs.Payoffs.{ScoredMatch}
use Rattle.record_analysis.specs.Analyses.{lost}
use Rattle.record_analysis.specs.Truth.{IsDecisionOf}
use Rattle.record_analysis.specs.declared.analysis.Judged.{Judged}
use Rattle.record_study.specs.Keeping.{IsDecisionInMatch, decisions_in}
use Rattle.record_study.specs.Matches.{EnclosesLossAt, IsTrueMatch}
use Rattle.record_study.proofs.Matches.{PayoffsLieWithin, if-given, loss-encloses}
use Rattle.record_study.proofs.Records.{Law, in-match}
use Rattle.cube_actions.specs.Matches.{stakes_named}
use Rattle.base_head.specs.Heads.{AreStartsBefore, AreStartsOf, FileHead, IsHead, stakes_of}
use Rattle.database_file.specs.Texts.{game_in}
use Rattle.equity_report.specs.declared.text.GameName.{GameName}
use Rattle.run_endings.specs.Loads.{game_told}
use Rattle.run_endings.specs.Pages.{OfHeld}
use Rattle.run_endings.specs.Scores.{score_file}
use Rattle.record_commands.specs.ByFile.{IsDecisionFor, JudgesOne, front_head}
use Rattle.record_commands.specs.MatchAnalyses.{HasTrueFile, HoldsTruth, IsJudgedByFile, game_at}
use Rattle.record_commands.specs.Records.{match_length}
use Rattle.record_commands.proofs.Recorded.{each-decision}

-- ---- decisions of a match

-- the stakes of a match are those of its length
match-stakes : (stakes : RecordStakes) → has_match stakes ≡ true → stakes ≡ OfMatch (match_length stakes)
match-stakes (Unlimited rule) is = cc
match-stakes (OfMatch points) is = refl

-- the decisions of a record of a match are of it
pub all-in-match : Law → (rec : RecordRead) → has_match rec.stakes ≡ true → (list : List Judged) → All (IsRightDecision rec) (decisions_in list) → All (λ (one : Judged). IsDecisionInMatch rec.checkers (match_length rec.stakes) one.decision) list
all-in-match law rec is list right = each-decision (IsDecisionInMatch rec.checkers (match_length rec.stakes)) list (in-match law rec (match_length rec.stakes) (match-stakes rec.stakes is) (decisions_in list) right)

-- the game of a score's file

module _ (rec : RecordRead) (score : MatchScore) (head : FileHead) (is : game_told head ≡ game_at rec score) where
  told-checkers : head.checkers ≡ rec.checkers
  told-checkers = ap (λ (g : GameName). g.checkers) is

  told-name : head.name ≡ Match score
  told-name = ap (λ (g : GameName). g.stakes) is

  told-stakes : stakes_of head ≡ terms_of score head.starts
  told-stakes = ap (λ (n : StakesName). stakes_named n head.starts) told-name

  told-game : game_in head ≡ score_game rec.checkers score head.starts
  told-game = ap (λ (n : ℕ). game_of n (stakes_of head)) told-checkers ∙ ap (λ (t : Terms). game_of rec.checkers t) told-stakes

-- the decisions at a score are of its game
pub decision-at : (rec : RecordRead) (points : ℕ) (score : MatchScore) (decision : Decision) → IsDecisionInMatch rec.checkers points decision → decision.score ≡ Some score → IsDecisionFor (game_at rec score) decision
decision-at rec points score decision in_match here head is game =
    let both : Some in_match.score ≡ Some score = sym in_match.at ∙ here in
    let same : in_match.score ≡ score = cc in
    let told = told-game rec score head is in
    let made : IsDecisionOf (score_game rec.checkers score head.starts) decision = subst (λ (s : MatchScore). IsGame (score_game rec.checkers s head.starts) → IsDecisionOf (score_game rec.checkers s head.starts) decision) same (in_match.made head.starts) (subst IsGame told game) in
    subst (λ (g : Game). IsDecisionOf g decision) (sym told) made

-- ---- what it encloses

-- from some number of turns on, a decision's pair encloses what it loses exactly
abbrev pub IsTrueOne : ℕ → Judged → Type 0
IsTrueOne checkers one =
    (enough : ℕ) × ((scored : ScoredMatch) → IsScoredMatch checkers scored → enough ≤ scored.turns → (left : ℕ) → enough ≤ left
    → IfSome one.decision.score (λ score. IfSome one.loss (λ pair. EnclosesLossAt scored left one.decision pair score)))

-- so there is one number for all of them
pub all-true : (checkers : ℕ) (list : List Judged) → All (IsTrueOne checkers) list → IsTrueMatch checkers list
all-true checkers [] all = (0, λ scored is_scored late left more i d below. absurd (omega arith))
all-true checkers (one ∷ list) all =
    let first = All-head (IsTrueOne checkers) one list all in
    let rest = all-true checkers list (All-tail (IsTrueOne checkers) one list all) in (
      max first.0 rest.0,
      λ scored is_scored late left more.
          All-cons (λ (judged : Judged). IfSome judged.decision.score (λ score. IfSome judged.loss (λ pair. EnclosesLossAt scored left judged.decision pair score))) one list
          (first.1 scored is_scored (omega (arith, late)) left (omega (arith, more))) (rest.1 scored is_scored (omega (arith, late)) left (omega (arith, more))),
    )

module _ (payoffs : PayoffsLieWithin) (rec : RecordRead) (points : ℕ) where
  covers-of : (head : FileHead) (score : MatchScore) → IsHead head → head.name ≡ Match score → Covers head.starts score
  covers-of head score right named =
      let before : AreStartsBefore score head.starts = subst (λ (n : StakesName). AreStartsOf n head.starts) named right.starts in
      let held = before.held in
      record { listed = before.listed; held = omega (arith, held) }

  one-true : (score : MatchScore) (bytes : List ℕ) (one : Judged) → IsDecisionInMatch rec.checkers points one.decision → one.decision.score ≡ Some score → JudgesOne (game_at rec score) bytes one → HoldsTruth bytes → IsTrueOne rec.checkers one
  one-true score bytes one in_match at judges truth =
      let head = front_head bytes in
      let told = told-game rec score head judges.file.game in
      let checkers = told-checkers rec score head judges.file.game in
      let stakes = told-stakes rec score head judges.file.game in
      let u = truth.words in
      let both : Some in_match.score ≡ Some score = sym in_match.at ∙ at in
      let same : in_match.score ≡ score = cc in
      let is_score : IsScore score = subst IsScore same in_match.of_match.valid in
      let game : IsGame (score_game rec.checkers score head.starts) = subst IsGame told judges.file.valid in
      let of : IsDecisionOf (score_game rec.checkers score head.starts) one.decision = subst (λ (s : MatchScore). IsGame (score_game rec.checkers s head.starts) → IsDecisionOf (score_game rec.checkers s head.starts) one.decision) same (in_match.made head.starts) game in
      let sound : AreSoundFrom (score_game rec.checkers score head.starts) truth.sound.0 u = subst (λ (g : Game). AreSoundFrom g truth.sound.0 u) told truth.sound.1 in
      let loss : one.loss ≡ Some (lost (terms_of score head.starts) u one.decision) = judges.over u truth.pairs ∙ ap (λ (t : Terms). Some (lost t u one.decision)) stakes in (
        max truth.sound.0 truth.starts.0,
        λ scored is_scored late left more.
            (let is_scored' : IsScoredMatch head.checkers scored = subst (λ (n : ℕ). IsScoredMatch n scored) (sym checkers) is_scored in
            let encloses : EncloseStarts scored head.starts = truth.starts.1 scored is_scored' (omega (arith, late)) in
            let enclosed = loss-encloses payoffs rec.checkers scored is_scored head.starts judges.file.head.valid encloses score is_score (covers-of head score judges.file.head (told-name rec score head judges.file.game)) game truth.sound.0 u sound left (omega (arith, more)) one.decision of in
            if-given (λ (s : MatchScore). IfSome one.loss (λ pair. EnclosesLossAt scored left one.decision pair s)) one.decision.score score at
            (if-given (λ (pair : Bounds). EnclosesLossAt scored left one.decision pair score) one.loss (lost (terms_of score head.starts) u one.decision) loss enclosed)),
      )

  some-of : {X : Type 0} (P : X → Type 0) (o : Option X) (x : X) → o ≡ Some x → IfSome o P → P x
  some-of P o x is h = subst (λ (o : Option _). IfSome o P) is h

  pub match-true : (prefix : List ℕ) (held : Contents) (list : List Judged) → All (λ (one : Judged). IsDecisionInMatch rec.checkers points one.decision) list → All (IsJudgedByFile prefix rec held) list → All (HasTrueFile prefix held) list → IsTrueMatch rec.checkers list
  match-true prefix held list right judged truth = all-true rec.checkers list (λ i d below. each (get_or list i d) (right i d below) (judged i d below) (truth i d below)) where
    each : (one : Judged) → IsDecisionInMatch rec.checkers points one.decision → IsJudgedByFile prefix rec held one → HasTrueFile prefix held one → IsTrueOne rec.checkers one
    each one in_match by_file truth =
        by_held (held (score_file prefix in_match.score))
        (some-of (λ (s : MatchScore). OfHeld (held (score_file prefix s)) (λ bytes. JudgesOne (game_at rec s) bytes one)) one.decision.score in_match.score in_match.at by_file)
        (some-of (λ (s : MatchScore). OfHeld (held (score_file prefix s)) HoldsTruth) one.decision.score in_match.score in_match.at truth) where
          by_held : (file : Option (List ℕ)) → OfHeld file (λ bytes. JudgesOne (game_at rec in_match.score) bytes one) → OfHeld file HoldsTruth → IsTrueOne rec.checkers one
          by_held None judges truth = absurd judges
          by_held (Some bytes) judges truth = one-true in_match.score bytes one in_match in_match.at judges truth
