-- Files in memory that fail on demand.
use Rattle.std.specs.Prelude.{ℕ, ◌≤◌, Bool, List, [], ◌∷◌, ◌++◌, length, min, is_some, Option, None, IfSome}
use Rattle.std.specs.Option.{option_map_or}
use Rattle.outside_log.specs.Files.{bytes_from}
use Rattle.outside_log.specs.Log.{Event, Started, Appended, Finished, Failed, standing}
use Rattle.memory_files.specs.Calls.{CallList, no_calls, called, listed}

pub record DemandingFiles : Type 0 where
  pub log : List Event
  pub most : Option ℕ  -- how many bytes a read gives at most
  pub calls : CallList

-- no files, no limit, no call
abbrev pub no_files : DemandingFiles
no_files = record { log = []; most = None; calls = no_calls }

-- the next call is to fail
abbrev pub is_listed : DemandingFiles → Bool
is_listed files = is_some (listed (called files.calls))

-- with this event at the end of the log
abbrev pub told_more : DemandingFiles → Event → DemandingFiles
told_more files event = record files { log = files.log ++ event ∷ [] }

-- after a call that failed and isn't counted
abbrev pub after_failure : DemandingFiles → List ℕ → DemandingFiles
after_failure files name = told_more files (Failed name)

-- after a call that is counted, with its event
abbrev pub after_call : DemandingFiles → Event → DemandingFiles
after_call files event = record files {
  log = files.log ++ event ∷ [];
  calls = called files.calls;
}

-- the same but for the log
abbrev pub with_log : DemandingFiles → List Event → DemandingFiles
with_log files log = record files { log = log }

-- a file that is written whole, in one piece
abbrev pub file_events : List ℕ → List ℕ → List Event
file_events name bytes = Started name ∷ Appended name bytes ∷ Finished name ∷ []

-- how many bytes can be read of a name from this place on
abbrev pub length_from : ℕ → List Event → List ℕ → ℕ
length_from at log name = length (bytes_from at (standing log name))

-- so many, or the most where there is a limit
abbrev pub at_most : Option ℕ → ℕ → ℕ
at_most limit n = option_map_or (λ most. min most n) limit n

-- the limit leaves something
abbrev pub LeavesSome : Option ℕ → Type 0
LeavesSome limit = IfSome limit (λ most. 1 ≤ most)
