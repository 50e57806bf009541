-- Which records and files are right for what is asked of them: nothing refuses it then but a fault of the files or want of memory.
use Rattle.std.specs.Prelude.{◌≡◌, List, ℕ, All, Bool, true, false, IfSome, Option, None}
use Rattle.outside_log.specs.Files.{Contents}
use Rattle.game_record.specs.Turns.{has_match}
use Rattle.game_record.specs.declared.decision.Decision.{Decision}
use Rattle.game_record.specs.declared.record.Record.{Record as RecordRead}
use Rattle.turn_rule.specs.Games.{IsGame}
use Rattle.turn_rule.specs.States.{IsState}
use Rattle.database_file.specs.Faults.{fault_before_pages, whole}
use Rattle.database_file.specs.Texts.{game_in}
use Rattle.equity_report.specs.declared.text.GameName.{GameName}
use Rattle.command_line.specs.declared.command.Analyse.{Analyse}
use Rattle.command_line.specs.declared.command.Study.{Study}
use Rattle.run_endings.specs.Loads.{game_told}
use Rattle.run_endings.specs.Pages.{AreOnRightPages, OfHeld}
use Rattle.run_endings.specs.Scores.{score_file}
use Rattle.record_commands.specs.ByFile.{MayFollowIn, front_head}
use Rattle.record_commands.specs.MatchAnalyses.{game_at}
use Rattle.record_commands.specs.Records.{HoldsRecord, game_recorded}
use Rattle.record_commands.specs.declared.record.Replayed.{Replayed}

-- the file is of the game that is wanted, and nothing is wrong with what stands before its pages
pub record HasRightFrontFor (wanted : GameName) (bytes : List ℕ) : Type 0 where
  pub front : fault_before_pages (whole bytes) ≡ None
  pub game : game_told (front_head bytes) ≡ wanted

-- so it is, and the pages are right on which it rests what the decision loses
pub record CanJudge (wanted : GameName) (decision : Decision) (bytes : List ℕ) : Type 0 where
  pub front : HasRightFrontFor wanted bytes
  pub pages : AreOnRightPages bytes (MayFollowIn bytes decision)

-- the same, and each state of its game stands on a right page
pub record HasRightPages (wanted : GameName) (bytes : List ℕ) : Type 0 where
  pub front : HasRightFrontFor wanted bytes
  pub game : IsGame (game_in (front_head bytes))
  pub pages : AreOnRightPages bytes (IsState (game_in (front_head bytes)))

-- the file can judge each of these decisions of its game
pub record CanJudgeAll (wanted : GameName) (decisions : List Decision)
    (bytes : List ℕ) : Type 0 where
  pub front : HasRightFrontFor wanted bytes
  pub each : All (λ decision. CanJudge wanted decision bytes) decisions

-- the file of the score of its game can judge a decision
abbrev pub CanJudgeAtScore : List ℕ → RecordRead → Contents → Decision → Type 0
CanJudgeAtScore prefix rec held decision =
    IfSome decision.score (λ score.
    OfHeld (held (score_file prefix score)) (CanJudge (game_at rec score) decision))

-- The decisions of a record can be judged: in a match by the files of its scores, whose names begin so, and else by the file of this name.
abbrev pub CanJudgeBy : Bool → List ℕ → Replayed → Contents → Type 0
CanJudgeBy true prefix replayed held =
    All (CanJudgeAtScore prefix replayed.rec held) replayed.decisions
CanJudgeBy false name replayed held =
    OfHeld (held name) (CanJudgeAll (game_recorded replayed.rec) replayed.decisions)

-- the file holds a record that breaks no rule
abbrev pub IsRightForStudying : Study → Option (List ℕ) → Type 0
IsRightForStudying task held =
    (replayed : Replayed) × OfHeld held (λ bytes. HoldsRecord bytes replayed)

-- the same, and its decisions can be judged
pub record IsRightForAnalysing (task : Analyse) (held : Contents) : Type 0 where
  pub replayed : Replayed
  pub record_file : OfHeld (held task.rec) (λ bytes. HoldsRecord bytes replayed)
  pub base_files : CanJudgeBy (has_match replayed.rec.stakes) task.base replayed held
