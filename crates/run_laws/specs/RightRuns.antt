-- Which files are right for a command: a run over them is done, but where reading or writing failed or there was no memory.
use Rattle.std.specs.Prelude.{◌≡◌, ◌⊎◌, ◌<◌, ℕ, List, sum, IsTrue, IsFalse, ⊤}
use Rattle.hyper_outside.specs.Causes.{Rose}
use Rattle.outside_log.specs.Files.{Contents}
use Rattle.outside_log.specs.Log.{Event, failures}
use Rattle.outside_log.specs.Reading.{begins_otherwise}
use Rattle.outside_log.specs.Readings.{is_faithful, read_faults}
use Rattle.outside_log.specs.Sink.{Output}
use Rattle.race_table.specs.Races.{IsRaceOf}
use Rattle.record_commands.specs.Makes.{title_line}
use Rattle.word_pages.specs.declared.version.Version.TheVariants.{Three}
use Rattle.base_head.specs.Headers.{magic}
use Rattle.command_line.specs.declared.command.Command.{Command}
use Rattle.command_line.specs.declared.command.Command.TheVariants.{Bound, Race, Solve, Show, ShowList, Migrate, Advise, AdviseList, Verify, Ladder, Analyse, Study, Make, Plan, Scan, Reply, Board}
use Rattle.command_line.specs.declared.command.Ladder.{Ladder as LadderTask}
use Rattle.whole_file_commands.specs.Plans.{first_file}
use Rattle.run_laws.specs.RightFiles.{IsRightForAdvising, IsRightForMigrating, IsRightForPlanning, IsRightForReplying, IsRightForScanning, IsRightForListing, IsRightForShowing, IsRightForVerifying}
use Rattle.solve_commands.specs.Ladders.{file_of, scores_in}
use Rattle.run_laws.specs.RightRecords.{IsRightForAnalysing, IsRightForStudying}

-- ---- right files

-- nothing stands there, or a file that begins so, or one without a byte
abbrev pub MayBeReplaced : List ℕ → Contents → List ℕ → Type 0
MayBeReplaced start held name = IsFalse (begins_otherwise start (held name))

-- no file of a score stands in the way of a ladder
abbrev pub IsRightForLadder : LadderTask → Contents → Type 0
IsRightForLadder task held =
    (place : ℕ) → place < scores_in task → MayBeReplaced magic held (file_of task place)

-- What stands under the names of a command is right for what it asks. What asks for no file asks for a position that fits its words; any may be drawn.
abbrev pub IsRightFor : Command → Contents → Type 0
IsRightFor (Bound task) held = sum task.position.mover ≡ task.checkers
IsRightFor (Race task) held = IsRaceOf task.checkers task.position
IsRightFor (Solve task) held = MayBeReplaced magic held task.file
IsRightFor (Show task) held = IsRightForShowing task (held task.file)
IsRightFor (ShowList task) held = IsRightForListing task.file task.list held
IsRightFor (Migrate task) held = IsRightForMigrating task held
IsRightFor (Advise task) held = IsRightForAdvising task (held task.file)
IsRightFor (AdviseList task) held = IsRightForListing task.file task.list held
IsRightFor (Verify task) held = IsRightForVerifying Three (held task.file)
IsRightFor (Ladder task) held = IsRightForLadder task held
IsRightFor (Analyse task) held = IsRightForAnalysing task held
IsRightFor (Study task) held = IsRightForStudying task (held task.rec)
IsRightFor (Make task) held = MayBeReplaced title_line held task.file
IsRightFor (Plan task) held = IsRightForPlanning task (held (first_file task))
IsRightFor (Scan task) held = IsRightForScanning task (held task.file)
IsRightFor (Reply task) held = IsRightForReplying task (held task.file)
IsRightFor (Board task) held = ⊤

-- ---- runs over them

-- each call was answered what stood there, and since then none that reads failed
pub record AreAnswered (before after : List Event) : Type 0 where
  pub faithful : IsTrue (is_faithful after)
  pub unfailed : ¬ Rose (read_faults before) (read_faults after)

-- a call that writes a file, or a write of the output, failed
abbrev pub WritingFailed : List Event → List Event → Output → Output → Type 0
WritingFailed before after old new =
    Rose (failures before) (failures after) ⊎ Rose old.faults new.faults

-- the status is 0, or 7 where writing failed, or 8 for want of memory
abbrev pub IsDoneUnlessHindered : List Event → List Event → Output → Output → ℕ → Type 0
IsDoneUnlessHindered before after old new status =
    (status ≡ 0) ⊎ ((status ≡ 7) × WritingFailed before after old new) ⊎ (status ≡ 8)
