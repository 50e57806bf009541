-- How a run may end.
use Rattle.std.specs.Prelude.{◌≡◌, ℕ, ◌≤◌, List, [], ◌∷◌, ◌++◌, Result, Ok, Err, ◌⊎◌, OnOk, OnErr, ⊤}
use Rattle.hyper_outside.specs.Causes.{Rose}
use Rattle.hyper_outside.specs.declared.outside.Failed.{Failed}
use Rattle.hyper_outside.specs.declared.outside.WordsKind.TheVariants.{Word}
use Rattle.outside_log.specs.Log.{Event, Finished, GivenUp, CompletesFile, LeavesPlaces, event_of, failures}
use Rattle.outside_log.specs.Sink.{Output, Puts}
use Rattle.equity_report.specs.declared.refusal.Refusal.{Refusal}
use Rattle.equity_report.specs.declared.refusal.Refusal.TheVariants.{Words, Missing, File, Record, Read, Write, Memory, Base, Inconsistent, Condition, Contact, Other}
use Rattle.equity_report.specs.Refusals.{status_of, refusal_text}
use Rattle.run_endings.specs.declared.ending.RunStop.{RunStop}
use Rattle.run_endings.specs.declared.ending.RunStop.TheVariants.{Refused, NotWritten}

-- what a command answers: all was done, or why it ended before
abbrev pub Ending : Type 0
Ending = Result (Unit {0}) RunStop

-- ---- which refusals a command may answer

-- all was done, or writing failed, or one of these refusals is due
abbrev pub EndsBy : (Refusal → Type 0) → Ending → Type 0
EndsBy IsOne (Ok done) = ⊤
EndsBy IsOne (Err NotWritten) = ⊤
EndsBy IsOne (Err (Refused refusal)) = IsOne refusal

-- the position has another number of checkers than is asked for, or there was no memory
abbrev pub IsOfBounding : Refusal → Type 0
IsOfBounding (Base wanted found) = ⊤
IsOfBounding Memory = ⊤
IsOfBounding _ = ⊥

-- the same, or the position isn't a race
abbrev pub IsOfRacing : Refusal → Type 0
IsOfRacing Contact = ⊤
IsOfRacing (Base wanted found) = ⊤
IsOfRacing Memory = ⊤
IsOfRacing _ = ⊥

-- a refusal of a file that is to be loaded: it isn't there, isn't right, or couldn't be read, or there was no memory for it
abbrev pub IsOfLoading : Refusal → Type 0
IsOfLoading (Missing name) = ⊤
IsOfLoading (File bad) = ⊤
IsOfLoading Read = ⊤
IsOfLoading Memory = ⊤
IsOfLoading _ = ⊥

-- a refusal of a file in which a position is to be looked up: one of loading, or the file is of another game
abbrev pub IsOfShowing : Refusal → Type 0
IsOfShowing (Base wanted found) = ⊤
IsOfShowing refusal = IsOfLoading refusal

-- a refusal of a list of positions, or of the file in which they are to be looked up: one of loading, or the list is too long
abbrev pub IsOfListing : Refusal → Type 0
IsOfListing (Record bad) = ⊤
IsOfListing refusal = IsOfLoading refusal

-- a refusal of a file whose words are to be checked: one of loading, or they aren't consistent
abbrev pub IsOfVerifying : Refusal → Type 0
IsOfVerifying (Inconsistent unheld) = ⊤
IsOfVerifying refusal = IsOfLoading refusal

-- a refusal of a file whose states are to be searched: one of loading, or the condition's text is none
abbrev pub IsOfScanning : Refusal → Type 0
IsOfScanning (Condition word) = ⊤
IsOfScanning refusal = IsOfLoading refusal

-- a refusal of a file that holds a recorded game: it isn't there, a line of it is wrong, or it couldn't be read, or there was no memory for it
abbrev pub IsOfReplaying : Refusal → Type 0
IsOfReplaying (Missing name) = ⊤
IsOfReplaying (Record bad) = ⊤
IsOfReplaying Read = ⊤
IsOfReplaying Memory = ⊤
IsOfReplaying _ = ⊥

-- a refusal of a recorded game that is to be judged by a file: of either file, or the file is of another game
abbrev pub IsOfAnalysing : Refusal → Type 0
IsOfAnalysing (Record bad) = ⊤
IsOfAnalysing refusal = IsOfShowing refusal

-- a refusal to begin a file under a name: what stands there can't be looked at, or is of another kind
abbrev pub IsOfBeginning : Refusal → Type 0
IsOfBeginning Read = ⊤
IsOfBeginning (Other name) = ⊤
IsOfBeginning _ = ⊥

-- a refusal of a run that writes a file: the name can't be looked at, a file of another kind stands there, or there was no memory
abbrev pub IsOfWriting : Refusal → Type 0
IsOfWriting Read = ⊤
IsOfWriting (Other name) = ⊤
IsOfWriting Memory = ⊤
IsOfWriting _ = ⊥

-- a refusal of a file that is to be written anew: of either name, or its words aren't consistent
abbrev pub IsOfMigrating : Refusal → Type 0
IsOfMigrating (Other name) = ⊤
IsOfMigrating refusal = IsOfVerifying refusal

-- a fault of the files or of memory, which says nothing of what files hold
abbrev pub IsOutside : Refusal → Type 0
IsOutside Read = ⊤
IsOutside Memory = ⊤
IsOutside refusal = ⊥

-- ---- what was put

-- this text was put
abbrev pub IsPut : Output → Output → List ℕ → Type 0
IsPut old new text = Puts {T = Unit {0}} {E = Failed} old new text (Ok tt)

-- putting this text failed: a front of it was put
abbrev pub WasCut : Output → Output → List ℕ → Type 0
WasCut old new text = (failed : Failed) × Puts {T = Unit {0}} old new text (Err failed)

-- this text was put, or a front of it where putting failed
abbrev pub WasPut : Output → Output → List ℕ → Type 0
WasPut old new text = (answer : Result (Unit {0}) Failed) × Puts old new text answer

-- How a command ends that only reads, and tells what it finds: the report of that was put; or putting it failed; or it was refused, and
-- nothing was put.
abbrev pub Tells : ((List ℕ → Type 0) → Type 0) → (Refusal → Type 0) → Output → Output → Ending
    → Type 0
Tells HasFound Refuses old new (Ok done) = HasFound (IsPut old new)
Tells HasFound Refuses old new (Err NotWritten) = HasFound (WasCut old new)
Tells HasFound Refuses old new (Err (Refused refusal)) = Refuses refusal × (new ≡ old)

-- ---- what was written

-- neither of two counts of faults falls, and a failure is told only where one of them rose
pub record HasEitherCause {T E : Type 0} (files_before files_now puts_before puts_now : ℕ)
    (result : Result T E) : Type 0 where
  pub files_later : files_before ≤ files_now
  pub puts_later : puts_before ≤ puts_now
  pub failed : OnErr result (Rose files_before files_now ⊎ Rose puts_before puts_now)

-- How a text is added to the file that was begun for a name, a report on it put, and the name's place taken: all is done, or no file took a
-- place, and nothing or a front of the report was put, or all of it.
pub record Completes {T E : Type 0} (name text report : List ℕ) (before after : List Event)
    (old new : Output) (result : Result T E) : Type 0 where
  pub file : OnOk result (CompletesFile name text before after)
  pub told : OnOk result (IsPut old new report)
  pub leaves : OnErr result (LeavesPlaces before after)
  pub front : OnErr result ((new ≡ old) ⊎ WasPut old new report)
  pub cause : HasEitherCause (failures before) (failures after) old.faults new.faults result

-- What was begun for a name took its place where the report on it was put, or that call failed; else it was given up.
abbrev pub Settles : List ℕ → Result (Unit {0}) Failed → List Event → List Event
    → Result (Unit {0}) Failed → Type 0
Settles name (Ok put) before after result =
    after ≡ before ++ event_of (Finished name) name result ∷ []
Settles name (Err failed) before after result =
    (after ≡ before ++ GivenUp name ∷ []) × (result ≡ Err failed)

-- ---- the end of a run

-- its number: 0, that of a failed write, or that of the refusal
abbrev pub status_at : Ending → ℕ
status_at (Ok done) = 0
status_at (Err NotWritten) = status_of Write
status_at (Err (Refused refusal)) = status_of refusal

-- the line of the refusal was put, or a front of it where putting failed; where none is due, no more
abbrev pub PutsEnding : Ending → Output → Output → Type 0
PutsEnding (Ok done) old new = new ≡ old
PutsEnding (Err NotWritten) old new = WasPut old new (refusal_text Write)
PutsEnding (Err (Refused refusal)) old new = WasPut old new (refusal_text refusal)

-- 0, or the number of some refusal
abbrev pub IsStatus : ℕ → Type 0
IsStatus status = (status ≡ 0) ⊎ ((refusal : Refusal) × (status ≡ status_of refusal))

-- some word isn't text: which one can't be told
abbrev pub no_text : Refusal
no_text = Words (record { kind = Word; place = 0 })
