-- What the decisions of a recorded game lose, by files of bounds.
use Rattle.std.specs.Prelude.{◌≡◌, ◌⊎◌, ℕ, List, All, Bool, true, false, IsTrue, Option, None, Result, Ok, Err}
use Rattle.outside_log.specs.Files.{Contents}
use Rattle.outside_log.specs.Sink.{Output}
use Rattle.game_record.specs.Turns.{has_match}
use Rattle.game_record.specs.declared.decision.Decision.{Decision}
use Rattle.game_record.specs.declared.record.Record.{Record as RecordRead}
use Rattle.turn_rule.specs.Truth.{AreSound}
use Rattle.turn_rule.specs.Turn.{Words}
use Rattle.record_analysis.specs.Truth.{IsTrueAnalysis}
use Rattle.record_analysis.specs.declared.analysis.Judged.{Judged}
use Rattle.record_study.specs.Keeping.{decisions_in}
use Rattle.database_file.specs.Texts.{game_in}
use Rattle.command_line.specs.declared.command.Analyse.{Analyse}
use Rattle.equity_report.specs.declared.refusal.Refusal.{Refusal}
use Rattle.run_endings.specs.Endings.{Ending, IsOutside, Tells}
use Rattle.run_endings.specs.Pages.{HavePairsOf, OfHeld}
use Rattle.record_commands.specs.ByFile.{IsFileOf, JudgesOne, RefusesFile, front_head}
use Rattle.record_commands.specs.MatchAnalyses.{JudgesMatch, RefusesMatch}
use Rattle.record_commands.specs.Records.{HoldsRecord, RefusesRecord, game_recorded, report_shown}
use Rattle.record_commands.specs.declared.record.Replayed.{Replayed}

-- ---- what decisions lose

-- A file judges the decisions of a record outside a match: it is of the record's game, and judges each. Where words that have the pairs of the file's
-- right pages are sound, from some number of turns on, one for all decisions, each pair encloses what its decision loses exactly.
pub record JudgesPlain (rec : RecordRead) (decisions : List Decision) (list : List Judged)
    (bytes : List ℕ) : Type 0 where
  pub file : IsFileOf (game_recorded rec) bytes
  pub decisions_are : decisions_in list ≡ decisions
  pub judged : All (JudgesOne (game_recorded rec) bytes) list
  pub true : (u : Words) → HavePairsOf bytes u → AreSound (game_in (front_head bytes)) u
      → IsTrueAnalysis (game_in (front_head bytes)) list

-- The decisions of a record are judged: in a match by the files of its scores, whose names begin so, and else by the file of this name.
abbrev pub JudgesBy : Bool → List ℕ → Replayed → Contents → List Judged → Type 0
JudgesBy true name replayed held list =
    JudgesMatch name replayed.rec replayed.decisions held list
JudgesBy false name replayed held list =
    OfHeld (held name) (JudgesPlain replayed.rec replayed.decisions list)

-- This is the analysis of a recorded game: where all answers were faithful, one of them holds a record that breaks no rule, and the others judge its
-- decisions so.
pub record IsAnalysed (task : Analyse) (told : Bool) (held : Contents)
    (list : List Judged) : Type 0 where
  pub replayed : Replayed
  pub record_file : IsTrue told → OfHeld (held task.rec) (λ bytes. HoldsRecord bytes replayed)
  pub base_files : IsTrue told
      → JudgesBy (has_match replayed.rec.stakes) task.base replayed held list

-- The report of an analysis was put, in this way.
pub record HasAnalysed (task : Analyse) (told : Bool) (held : Contents)
    (IsReport : List ℕ → Type 0) : Type 0 where
  pub list : List Judged
  pub analysed : IsAnalysed task told held list
  pub report : IsReport (report_shown task.shown task.board analysed.replayed.rec.stakes list)

-- ---- why nothing is told of it

-- The decisions of a record can't be judged: in a match by the files of its scores, and else by the file of this name.
abbrev pub RefusesBy : Bool → List ℕ → Replayed → Refusal → Contents → Type 0
RefusesBy true name replayed refusal held =
    RefusesMatch name replayed.rec replayed.decisions refusal held
RefusesBy false name replayed refusal held =
    RefusesFile (game_recorded replayed.rec) name None replayed.decisions refusal (held name)

-- The record breaks no rule, and can't be judged. A fault of the files or of memory says nothing of the files that judge it.
pub record RefusesReplayed (task : Analyse) (refusal : Refusal) (held : Contents) : Type 0 where
  pub replayed : Replayed
  pub record_file : OfHeld (held task.rec) (λ bytes. HoldsRecord bytes replayed)
  pub cause : IsOutside refusal
      ⊎ RefusesBy (has_match replayed.rec.stakes) task.base replayed refusal held

-- An analysis is refused: the record is, or it breaks no rule and can't be judged by the file, or in a match by the files of its scores.
abbrev pub RefusesAnalysis : Analyse → Refusal → Contents → Type 0
RefusesAnalysis task refusal held =
    RefusesRecord task.rec refusal (held task.rec) ⊎ RefusesReplayed task refusal held

-- this refuses an analysis, of the files that stood there where all answers were faithful
abbrev pub MayRefuseAnalysis : Analyse → Bool → Contents → Refusal → Type 0
MayRefuseAnalysis task told held refusal = IsTrue told → RefusesAnalysis task refusal held

-- how analysing a recorded game ends
abbrev pub TellsAnalysis : Analyse → Bool → Contents → Output → Output → Ending → Type 0
TellsAnalysis task told held = Tells (HasAnalysed task told held) (MayRefuseAnalysis task told held)

-- ---- what judging may answer

-- the decisions of a record outside a match are judged by the file of this name, or this refuses that
abbrev pub AnswersPlain : List ℕ → RecordRead → List Decision → Option (List ℕ)
    → Result (List Judged) Refusal → Type 0
AnswersPlain name rec decisions held (Ok list) = OfHeld held (JudgesPlain rec decisions list)
AnswersPlain name rec decisions held (Err refusal) =
    RefusesFile (game_recorded rec) name None decisions refusal held

-- the decisions of a record are judged, or this refuses that
abbrev pub AnswersJudging : List ℕ → Replayed → Contents → Result (List Judged) Refusal → Type 0
AnswersJudging name replayed held (Ok list) =
    JudgesBy (has_match replayed.rec.stakes) name replayed held list
AnswersJudging name replayed held (Err refusal) = IsOutside refusal
    ⊎ RefusesBy (has_match replayed.rec.stakes) name replayed refusal held
