-- What a run does, by what its words ask for.
use Rattle.std.specs.Prelude.{◌≡◌, ℕ, Bool, true, false, List, String, Result, Ok, Err, ◌⊎◌, OnErr, ⊤}
use Rattle.std.specs.declared.alloc.Global.{Global}
use Rattle.hyper_outside.specs.Causes.{Rose}
use Rattle.outside_log.specs.Log.{Event, LeavesPlaces, failures, standing}
use Rattle.outside_log.specs.Readings.{ReadsOn, is_faithful, read_faults}
use Rattle.outside_log.specs.Sink.{Output}
use Rattle.word_forms.specs.Clap.{bytes_of}
use Rattle.command_line.specs.declared.command.Command.{Command}
use Rattle.command_line.specs.declared.command.Command.TheVariants.{Bound, Race, Solve, Show, ShowList, Migrate, Advise, AdviseList, Verify, Ladder, Analyse, Study, Make, Plan, Scan, Reply, Board}
use Rattle.command_line.specs.declared.stop.WordsFault.{WordsFault}
use Rattle.command_line.specs.declared.stop.WordsStop.{WordsStop}
use Rattle.command_line.specs.declared.stop.WordsStop.TheVariants.{Bad, NoMemory}
use Rattle.command_line.specs.Words.{reading}
use Rattle.equity_report.specs.declared.refusal.Refusal.{Refusal}
use Rattle.equity_report.specs.declared.refusal.Refusal.TheVariants.{Read, Memory, Condition}
use Rattle.run_endings.specs.declared.ending.RunStop.TheVariants.{Refused, NotWritten}
use Rattle.run_endings.specs.Endings.{Ending, EndsBy, IsOfAnalysing, IsOfBounding, IsOfListing, IsOfMigrating, IsOfRacing, IsOfReplaying, IsOfScanning, IsOfShowing, IsOfVerifying, IsOfWriting, PutsEnding, status_at}
use Rattle.run_endings.specs.Notes.{PutsTally}
use Rattle.base_commands.specs.Advises.{TellsAdvice}
use Rattle.base_commands.specs.Lists.{words_refusal}
use Rattle.whole_file_commands.specs.Migrates.{Migrates}
use Rattle.whole_file_commands.specs.Plans.{TellsPlan, first_file}
use Rattle.whole_file_commands.specs.Replies.{TellsReply}
use Rattle.whole_file_commands.specs.Scans.{TellsScan}
use Rattle.base_commands.specs.AdviseLists.{AdvisesLine}
use Rattle.base_commands.specs.ListAnswers.{TellsListed}
use Rattle.base_commands.specs.ShowLists.{ShowsLine}
use Rattle.base_commands.specs.Shows.{TellsShown}
use Rattle.whole_file_commands.specs.Verifies.{TellsVerified}
use Rattle.solve_commands.specs.Ladders.{SolvesLadder}
use Rattle.solve_commands.specs.Races.{TellsRace}
use Rattle.solve_commands.specs.Solves.{Solves}
use Rattle.solve_commands.specs.Truth.{TellsBound}
use Rattle.record_commands.specs.Analyses.{TellsAnalysis}
use Rattle.record_commands.specs.Makes.{Makes}
use Rattle.record_commands.specs.Studies.{TellsStudy}
use Rattle.top_call.specs.Boards.{TellsBoard}

-- ---- what is asked for

-- what the program's words ask for, or what is wrong with them
abbrev pub asked : List (String Global) → Result Command WordsFault
asked words = reading (bytes_of words)

-- the refusal of words that weren't read, where there may have been no memory for them
abbrev pub unread_refusal : WordsStop → Refusal
unread_refusal (Bad fault) = words_refusal fault
unread_refusal NoMemory = Memory

-- ---- how it may end

-- the refusals that may come of each command
abbrev pub Ends : Command → Ending → Type 0
Ends (Bound task) ending = EndsBy IsOfBounding ending
Ends (Race task) ending = EndsBy IsOfRacing ending
Ends (Solve task) ending = EndsBy IsOfWriting ending
Ends (Show task) ending = EndsBy IsOfShowing ending
Ends (ShowList task) ending = EndsBy IsOfListing ending
Ends (Migrate task) ending = EndsBy IsOfMigrating ending
Ends (Advise task) ending = EndsBy IsOfShowing ending
Ends (AdviseList task) ending = EndsBy IsOfListing ending
Ends (Verify task) ending = EndsBy IsOfVerifying ending
Ends (Ladder task) ending = EndsBy IsOfWriting ending
Ends (Analyse task) ending = EndsBy IsOfAnalysing ending
Ends (Study task) ending = EndsBy IsOfReplaying ending
Ends (Make task) ending = EndsBy IsOfWriting ending
Ends (Plan task) ending = EndsBy IsOfShowing ending
Ends (Scan task) ending = EndsBy IsOfScanning ending
Ends (Reply task) ending = EndsBy IsOfShowing ending
Ends (Board task) ending = EndsBy (λ refusal. ⊥) ending

-- ---- what is done

-- What was asked for was done, by what calls were made and answered before and until after it, and by what was put. What is said of a file holds
-- of what stood under its name before, where each call was answered what stood there.
abbrev pub HasRun : Command → List Event → List Event → Output → Output → Ending → Type 0
HasRun (Bound task) before after old new ending = TellsBound task old new ending
HasRun (Race task) before after old new ending = TellsRace task old new ending
HasRun (Solve task) before after old new ending =
    Solves task (is_faithful after) (standing before task.file) before after old new ending
HasRun (Show task) before after old new ending =
    TellsShown task (is_faithful after) (standing before task.file) old new ending
HasRun (ShowList task) before after old new ending =
    TellsListed task.file task.list ShowsLine (is_faithful after) (standing before) old new ending
HasRun (Migrate task) before after old new ending =
    Migrates task (is_faithful after) (standing before) before after old new ending
HasRun (Advise task) before after old new ending =
    TellsAdvice task (is_faithful after) (standing before task.file) old new ending
HasRun (AdviseList task) before after old new ending =
    TellsListed task.file task.list (AdvisesLine task.file task.kind)
    (is_faithful after) (standing before) old new ending
HasRun (Verify task) before after old new ending =
    TellsVerified task (is_faithful after) (standing before task.file) old new ending
HasRun (Ladder task) before after old new ending =
    SolvesLadder task before after old new ending
HasRun (Study task) before after old new ending =
    TellsStudy task (is_faithful after) (standing before task.rec) old new ending
HasRun (Make task) before after old new ending =
    Makes task (is_faithful after) (standing before task.file) before after old new ending
HasRun (Analyse task) before after old new ending =
    TellsAnalysis task (is_faithful after) (standing before) old new ending
HasRun (Plan task) before after old new ending =
    TellsPlan task (is_faithful after) (standing before (first_file task)) old new ending
HasRun (Scan task) before after old new ending =
    TellsScan task (is_faithful after) (standing before task.file) old new ending
HasRun (Reply task) before after old new ending =
    TellsReply task (is_faithful after) (standing before task.file) old new ending
HasRun (Board task) before after old new ending = TellsBoard task old new ending

-- No file took a name's place but where all was done, and but those of the scores that a ladder had solved; which these are is said with what it
-- has done. Where nothing is to be written, calls that read were made alone.
abbrev pub KeepsFiles : Command → List Event → List Event → Ending → Type 0
KeepsFiles (Solve task) before after ending = OnErr ending (LeavesPlaces before after)
KeepsFiles (Migrate task) before after ending = OnErr ending (LeavesPlaces before after)
KeepsFiles (Make task) before after ending = OnErr ending (LeavesPlaces before after)
KeepsFiles (Ladder task) before after ending = ⊤
KeepsFiles _ before after ending = ReadsOn before after

-- A command was done, or ended before: which refusals may come, what was done and put, that a failed write or reading comes only where a call of
-- the files, or for a write of the output, failed, and what stays of the files.
pub record Does (command : Command) (before after : List Event) (old new : Output)
    (ending : Ending) : Type 0 where
  pub ends : Ends command ending
  pub has_run : HasRun command before after old new ending
  pub cause : ending ≡ Err NotWritten
      → Rose (failures before) (failures after) ⊎ Rose old.faults new.faults
  pub read_cause : ending ≡ Err (Refused Read) → Rose (read_faults before) (read_faults after)
  pub kept : KeepsFiles command before after ending

-- the words are refused so, and nothing was done
pub record RefusesWords (refusal : Refusal) (before after : List Event) (old new : Output)
    (ending : Ending) : Type 0 where
  pub refused : ending ≡ Err (Refused refusal)
  pub no_call : after ≡ before
  pub nothing : new ≡ old

-- what the words ask for was done, or they are refused
abbrev pub DoesAsked : Result Command WordsFault → List Event → List Event → Output → Output
    → Ending → Type 0
DoesAsked (Ok command) before after old new ending = Does command before after old new ending
DoesAsked (Err fault) before after old new ending =
    RefusesWords (words_refusal fault) before after old new ending

-- A run: what the words ask for was done, or there was no memory for them; then the line of the refusal was put, where one is due, and the status
-- is that of the ending.
pub record RunsAsAsked (expected : Result Command WordsFault) (before after : List Event)
    (old new : Output) (status : ℕ) (ending : Ending) : Type 0 where
  pub behind : Output
  pub does : DoesAsked expected before after old behind ending
      ⊎ RefusesWords Memory before after old behind ending
  pub line : PutsEnding ending behind new
  pub is_status : status ≡ status_at ending

-- no call of the files is made: a pair, a race or a board is asked for, or a search by what is no condition
abbrev pub LeavesFiles : Command → Ending → Type 0
LeavesFiles (Bound task) ending = ⊤
LeavesFiles (Race task) ending = ⊤
LeavesFiles (Board task) ending = ⊤
LeavesFiles (Scan task) ending = (word : ℕ) × (ending ≡ Err (Refused (Condition word)))
LeavesFiles _ ending = ⊥

-- or the words are refused
abbrev pub LeavesAllFiles : Result Command WordsFault → Ending → Type 0
LeavesAllFiles (Ok command) ending = LeavesFiles command ending
LeavesAllFiles (Err fault) ending = ⊤

-- ---- notes

-- whether a command goes through a list
abbrev pub is_list : Command → Bool
is_list (ShowList task) = true
is_list (AdviseList task) = true
is_list _ = false

abbrev pub asks_list : Result Command WordsFault → Bool
asks_list (Ok command) = is_list command
asks_list (Err fault) = false

-- what is noted before a refusal is told: the tally of a list
abbrev pub NotesBefore : Bool → Ending → Output → Output → Type 0
NotesBefore true ending old new = PutsTally ending old new
NotesBefore false ending old new = new ≡ old
