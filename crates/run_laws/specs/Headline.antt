-- Two runs: a game or a match is solved, and then advice is taken from the files that were written, or a recorded game is analysed by them.
use Rattle.std.specs.Prelude.{◌≡◌, ◌<◌, ℕ, List, Option, Some, None}
use Rattle.outside_log.specs.Files.{Contents}
use Rattle.cube_actions.specs.Starts.{StartPairs}
use Rattle.roll_table.specs.Rolls.{Dice}
use Rattle.turn_rule.specs.Truth.{InTheEnd}
use Rattle.play_analyser.specs.declared.advice.CubeAdvice.{CubeAdvice}
use Rattle.play_analyser.specs.declared.ranking.Ranking.{Ranking}
use Rattle.play_analyser.specs.Advised.{ActionLosesAtMost, FirstLosesAtMost}
use Rattle.base_head.specs.Heads.{FileHead}
use Rattle.database_file.specs.Texts.{game_in}
use Rattle.base_reports.specs.Advice.{cube_report, ranking_text}
use Rattle.match_scores.specs.Ladders.{starts_till}
use Rattle.record_analysis.specs.Truth.{IsTrueAnalysis}
use Rattle.record_analysis.specs.declared.analysis.Judged.{Judged}
use Rattle.record_study.specs.Matches.{IsTrueMatch}
use Rattle.command_line.specs.declared.command.Ladder.{Ladder as LadderTask}
use Rattle.run_endings.specs.declared.asked.AskedKind.{AskedKind}
use Rattle.command_line.specs.declared.command.Advise.{Advise as AdviseTask}
use Rattle.match_plan.specs.Plans.{plan_text}
use Rattle.whole_file_commands.specs.Plans.{HoldsInTheEnd}
use Rattle.run_endings.specs.Games.{IsKindAsked}
use Rattle.solve_commands.specs.Ladders.{SolvedScore, file_of, score_bytes, score_head, ladder_score, scores_in}

-- The plays of a roll were printed from the best to the worst, and in the game of the head, of enough turns and however its unfinished end is
-- scored, the first of them loses at most the printed bound.
pub record PrintsGoodPlay (head : FileHead) (advise : AdviseTask) (roll : Dice)
    (IsPrinted : List ℕ → Type 0) : Type 0 where
  pub kind : AskedKind
  pub ranking : Ranking
  pub asked : IsKindAsked head advise.kind kind
  pub printed : IsPrinted (ranking_text advise.board advise.position roll kind.name ranking)
  pub loses :
      InTheEnd (game_in head) (λ scoring turns.
      FirstLosesAtMost (game_in head) scoring turns advise.position kind.number roll
      ranking.rows.items ranking.loss_bound)

-- An offer and an answer were printed, where there is a double, and in the game of the head, of enough turns and however its unfinished end is
-- scored, each loses at most its printed bound.
pub record PrintsGoodActions (head : FileHead) (advise : AdviseTask)
    (IsPrinted : List ℕ → Type 0) : Type 0 where
  pub kind : AskedKind
  pub advice : CubeAdvice
  pub asked : IsKindAsked head advise.kind kind
  pub printed : IsPrinted (cube_report advise.board advise.take advise.position kind.name advice)
  pub loses :
      InTheEnd (game_in head) (λ scoring turns.
      ActionLosesAtMost (game_in head) scoring turns advise.position kind.number
      advice.action)

abbrev pub PrintsGoodFor : Option Dice → FileHead → AdviseTask → (List ℕ → Type 0) → Type 0
PrintsGoodFor (Some roll) head advise IsPrinted = PrintsGoodPlay head advise roll IsPrinted
PrintsGoodFor None head advise IsPrinted = PrintsGoodActions head advise IsPrinted

-- the play of the roll, or, where there is none, the cube action that is advised loses at most its printed bound
abbrev pub PrintsGoodAdvice : FileHead → AdviseTask → (List ℕ → Type 0) → Type 0
PrintsGoodAdvice head advise = PrintsGoodFor advise.roll head advise

-- ---- analyses

-- A report on the losses of a recorded game's decisions was printed, and from some number of turns on each pair encloses what its decision loses
-- exactly in the game of the head, however its unfinished end is scored.
pub record PrintsTrueLosses (head : FileHead) (report_on : List Judged → List ℕ)
    (IsPrinted : List ℕ → Type 0) : Type 0 where
  pub list : List Judged
  pub printed : IsPrinted (report_on list)
  pub true : IsTrueAnalysis (game_in head) list

-- the same of a match of so many checkers a side, with the payoffs of the match, from one number of turns on for all its games
pub record PrintsTrueMatch (checkers : ℕ) (report_on : List Judged → List ℕ)
    (IsPrinted : List ℕ → Type 0) : Type 0 where
  pub list : List Judged
  pub printed : IsPrinted (report_on list)
  pub true : IsTrueMatch checkers list

-- The take points and gammon prices of a match were printed, and from some number of turns on they enclose those of the match itself.
pub record PrintsTruePlan (checkers : ℕ) (IsPrinted : List ℕ → Type 0) : Type 0 where
  pub plan : StartPairs
  pub printed : IsPrinted (plan_text plan)
  pub holds : HoldsInTheEnd checkers plan

-- ---- the files of a match

-- the head of the file of the score at a place, for these start pairs
abbrev pub ladder_head : LadderTask → StartPairs → ℕ → FileHead
ladder_head task starts place = score_head task (ladder_score task place) (starts_till starts place)

-- the file of the score at a place, as it was written for these start pairs
abbrev pub ladder_file : LadderTask → StartPairs → (ℕ → SolvedScore) → ℕ → List ℕ
ladder_file task starts scores place =
    score_bytes task (ladder_score task place) (starts_till starts place) (scores place).words

-- the files of a match's scores hold what solving it wrote
abbrev pub HoldLadder : (task : LadderTask) → StartPairs → (ℕ → SolvedScore) → Contents → Type 0
HoldLadder task starts scores held =
    (place : ℕ) → place < scores_in task
    → held (file_of task place) ≡ Some (ladder_file task starts scores place)
