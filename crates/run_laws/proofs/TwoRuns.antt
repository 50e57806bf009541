-- What is advised from a file that was solved.
use Rattle.std.proofs.Common.{◌≡◌, ◌∙◌, ℕ, List, Bool, Option, Some, None, true, false, refl, sym, subst, arith}
use Rattle.roll_table.specs.Rolls.{Dice}
use Rattle.cube_actions.specs.Starts.{AreStarts}
use Rattle.cube_actions.specs.declared.name.StakesName.TheVariants.{Unlimited}
use Rattle.outside_log.specs.Log.{Event, standing}
use Rattle.outside_log.specs.Sink.{Output}
use Rattle.outside_log.proofs.Written.{stands}
use Rattle.turn_rule.specs.Truth.{AreSound, InTheEnd}
use Rattle.interval_words.specs.WordLists.{WordList, words_in_list}
use Rattle.play_analyser.specs.Advised.{ActionLosesAtMost, FirstLosesAtMost}
use Rattle.word_pages.specs.declared.version.Version.TheVariants.{Three}
use Rattle.base_head.specs.Fronts.{head_in}
use Rattle.base_head.specs.Heads.{FileHead, IsHead, no_starts}
use Rattle.database_file.specs.Faults.{header_of_file}
use Rattle.run_endings.proofs.Loaded.{three-takes}
use Rattle.database_file.specs.Texts.{IsText, game_in}
use Rattle.command_line.specs.declared.command.Solve.{Solve as SolveTask}
use Rattle.command_line.specs.Right.{IsRightSolve}
use Rattle.command_line.specs.declared.command.Advise.{Advise as AdviseTask}
use Rattle.equity_report.specs.declared.refusal.Refusal.{Refusal}
use Rattle.whole_file_commands.specs.Verifies.{MayRefuseVerifying}
use Rattle.run_endings.specs.Endings.{IsOutside, IsPut}
use Rattle.solve_commands.specs.Solves.{AreSolved, HasSolved, head_of, solved_file}
use Rattle.base_commands.specs.Advises.{HasAdvised, HasAdvisedOn}
use Rattle.run_endings.specs.Games.{IsKindAsked}
use Rattle.run_endings.specs.Pages.{OfHeld}
use Rattle.record_commands.specs.Analyses.{HasAnalysed, JudgesBy, JudgesPlain}
use Rattle.record_commands.specs.Records.{report_shown}
use Rattle.record_commands.specs.declared.record.Replayed.{Replayed}
use Rattle.outside_log.specs.Files.{Contents}
use Rattle.game_record.specs.Turns.{has_match}
use Rattle.game_record.specs.declared.decision.Decision.{Decision}
use Rattle.game_record.specs.declared.record.Record.{Record}
use Rattle.record_analysis.specs.Truth.{IsTrueAnalysis}
use Rattle.record_analysis.specs.declared.analysis.Judged.{Judged}
use Rattle.command_line.specs.declared.command.Analyse.{Analyse}
use Rattle.run_laws.specs.Headline.{PrintsGoodAdvice, PrintsGoodFor, PrintsTrueLosses}
use Rattle.run_laws.proofs.HeldWords.{Law, held-consistent, held-head, held-pairs, held-sound}

-- ---- the text that a solve writes

none-before : AreStarts no_starts
none-before = record { from = omega arith; to = omega arith; room = omega arith; within = λ k d lt. absurd (omega (arith, lt)) }

solved-head : (solve : SolveTask) (words : WordList) → IsRightSolve solve → AreSolved solve words → IsHead (head_of solve words.rounds)
solved-head solve words right solved = record {
  some = right.some;
  few = right.few;
  begun = solved.last.some;
  ended = omega (arith, solved.last.most, right.ended);
  valid = none-before;
  starts = refl;
}

pub solved-text : (solve : SolveTask) (words : WordList) → IsRightSolve solve → AreSolved solve words → IsText Three (head_of solve words.rounds) words (solved_file solve words)
solved-text solve words right solved = record {
  valid = solved-head solve words right solved;
  takes = three-takes (Unlimited solve.rule);
  fitting = solved.fitting;
  right = solved.right;
  text = refl;
}

-- ---- what is printed of files that hold a text

module _ (law : Law) (head : FileHead) (words : WordList) (bytes : List ℕ) (text : IsText Three head words bytes) (sound : AreSound words.game (words_in_list words)) where
  sound-in : (there : FileHead) → there ≡ head_in (header_of_file bytes) bytes → AreSound (game_in there) (words_in_list words)
  sound-in there is = subst (λ (h : FileHead). AreSound (game_in h) (words_in_list words)) (sym is) (held-sound law head words bytes text sound)

  good-for : (advise : AdviseTask) (IsPrinted : List ℕ → Type 0) (roll : Option Dice) → HasAdvisedOn roll advise true (Some bytes) IsPrinted → PrintsGoodFor roll head advise IsPrinted
  good-for advise IsPrinted (Some roll) has =
      let ranks = has.file refl in
      let is = ranks.state.asked.head_is in
      let same = is ∙ held-head law head words bytes text in
      record {
        kind = has.kind;
        ranking = has.ranking;
        asked = subst (λ (h : FileHead). IsKindAsked h advise.kind has.kind) same ranks.state.asked.kind_is;
        printed = has.report;
        loses = subst (λ (h : FileHead). InTheEnd (game_in h) (λ scoring turns. FirstLosesAtMost (game_in h) scoring turns advise.position has.kind.number roll has.ranking.rows.items has.ranking.loss_bound)) same
            (ranks.losses (words_in_list words) (held-pairs law head words bytes text) (sound-in has.head is));
      }
  good-for advise IsPrinted None has =
      let advises = has.file refl in
      let is = advises.state.asked.head_is in
      let same = is ∙ held-head law head words bytes text in
      record {
        kind = has.kind;
        advice = has.advice;
        asked = subst (λ (h : FileHead). IsKindAsked h advise.kind has.kind) same advises.state.asked.kind_is;
        printed = has.report;
        loses = subst (λ (h : FileHead). InTheEnd (game_in h) (λ scoring turns. ActionLosesAtMost (game_in h) scoring turns advise.position has.kind.number has.advice.action)) same
            (advises.losses (words_in_list words) (held-pairs law head words bytes text) (sound-in has.head is));
      }

  -- advice that was taken from what is held
  pub good-from : (advise : AdviseTask) (IsPrinted : List ℕ → Type 0) (held : Option (List ℕ)) → held ≡ Some bytes → HasAdvised advise true held IsPrinted → PrintsGoodAdvice head advise IsPrinted
  good-from advise IsPrinted held is has = good-for advise IsPrinted advise.roll (subst (λ (file : Option (List ℕ)). HasAdvised advise true file IsPrinted) is has)

  true-for : (rec : Record) (decisions : List Decision) (list : List Judged) → JudgesPlain rec decisions list bytes → IsTrueAnalysis (game_in head) list
  true-for rec decisions list judges =
      subst (λ (h : FileHead). IsTrueAnalysis (game_in h) list) (held-head law head words bytes text) (judges.true (words_in_list words) (held-pairs law head words bytes text) (sound-in _ refl))

-- a record outside a match is judged by what stands under the name
plainly : (name : List ℕ) (replayed : Replayed) (held : Contents) (list : List Judged) (file : List ℕ) → has_match replayed.rec.stakes ≡ false → held name ≡ Some file → JudgesBy (has_match replayed.rec.stakes) name replayed held list
    → JudgesPlain replayed.rec replayed.decisions list file
plainly name replayed held list file plain stand judges =
    subst (λ (there : Option (List ℕ)). OfHeld there (JudgesPlain replayed.rec replayed.decisions list)) stand (subst (λ (b : Bool). JudgesBy b name replayed held list) plain judges)

-- ---- the laws

pub good-advice : Law
    → (solve : SolveTask) (advise : AdviseTask) (before after : List Event) (put_before put_after old new : Output) → IsRightSolve solve → (solved : HasSolved solve before after put_before put_after)
    → HasAdvised advise true (standing after solve.file) (λ text. IsPut old new text) → PrintsGoodAdvice (head_of solve solved.words.rounds) advise (λ text. IsPut old new text)
good-advice law solve advise before after put_before put_after old new right solved advised =
    let words = solved.words in
    good-from law (head_of solve words.rounds) words (solved_file solve words) (solved-text solve words right solved.solved) solved.solved.sound advise (λ text. IsPut old new text) (standing after solve.file)
    (stands solve.file (solved_file solve words) before after solved.file) advised

pub solved-consistent : Law → (solve : SolveTask) (before after : List Event) (put_before put_after : Output) (refusal : Refusal) → IsRightSolve solve → HasSolved solve before after put_before put_after
    → MayRefuseVerifying Three solve.file true (standing after solve.file) refusal → IsOutside refusal
solved-consistent law solve before after put_before put_after refusal right solved not =
    let words = solved.words in
    held-consistent law (head_of solve words.rounds) words (solved_file solve words) (solved-text solve words right solved.solved) solved.solved.consistent solve.file refusal
    (subst (λ (held : Option (List ℕ)). MayRefuseVerifying Three solve.file true held refusal) (stands solve.file (solved_file solve words) before after solved.file) not)

pub true-losses : Law
    → (solve : SolveTask) (analyse : Analyse) (held : Contents) (before after : List Event) (put_before put_after old new : Output) → IsRightSolve solve → (solved : HasSolved solve before after put_before put_after)
    → held analyse.base ≡ standing after solve.file → (analysed : HasAnalysed analyse true held (λ text. IsPut old new text)) → has_match analysed.analysed.replayed.rec.stakes ≡ false → PrintsTrueLosses (head_of solve solved.words.rounds) (report_shown analyse.shown analyse.board analysed.analysed.replayed.rec.stakes) (λ text. IsPut old new text)
true-losses law solve analyse held before after put_before put_after old new right solved finds analysed plain =
    let words = solved.words in
    let replayed = analysed.analysed.replayed in
    let stand = finds ∙ stands solve.file (solved_file solve words) before after solved.file in
    record {
      list = analysed.list;
      printed = analysed.report;
      true = true-for law (head_of solve words.rounds) words (solved_file solve words) (solved-text solve words right solved.solved) solved.solved.sound replayed.rec replayed.decisions analysed.list
          (plainly analyse.base replayed held analysed.list (solved_file solve words) plain stand (analysed.analysed.base_files refl));
    }
