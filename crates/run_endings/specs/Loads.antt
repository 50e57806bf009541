-- What commands know of a file of bounds that they load whole, and how what stops a reading is told.
use Rattle.std.specs.Prelude.{◌≡◌, ℕ, List, Bool, IsTrue, Option, Some, None, Result, Ok, Err, ⊤}
use Rattle.std.specs.Option.{option_map}
use Rattle.hyper_outside.specs.declared.outside.LookStop.{LookStop}
use Rattle.hyper_outside.specs.declared.outside.LookStop.TheVariants as looks
use Rattle.word_pages.specs.declared.version.Version.{Version}
use Rattle.word_pages.specs.declared.version.Version.TheVariants.{Three}
use Rattle.base_head.specs.Fronts.{bad_of}
use Rattle.base_head.specs.Heads.{FileHead}
use Rattle.database_file.specs.declared.stop.LoadStop.{LoadStop}
use Rattle.database_file.specs.declared.stop.LoadStop.TheVariants as stops
use Rattle.database_file.specs.Bases.{AnswersFrom}
use Rattle.database_file.specs.Faults.{Read as FileRead, fault_from, whole}
use Rattle.database_file.specs.FileBases.{FileBase}
use Rattle.equity_report.specs.declared.text.GameName.{GameName}
use Rattle.equity_report.specs.declared.refusal.Refusal.{Refusal}
use Rattle.equity_report.specs.declared.refusal.Refusal.TheVariants.{Missing, File, Read, Memory}

-- the game of a head, as it is told
abbrev pub game_told : FileHead → GameName
game_told head = record {
  checkers = head.checkers;
  stakes = head.name;
  match_length = head.starts.match_length;
}

-- Something is so of the file that was read: of the one that is held, where all answers were faithful, and else of some that could be read.
abbrev pub OfFile : Bool → Option (List ℕ) → (Option FileRead → Type 0) → Type 0
OfFile told held P =
    (file : Option FileRead) × (IsTrue told → file ≡ option_map whole held) × P file

-- the refusal that tells why a file of this name was not loaded
abbrev pub TellsStop : List ℕ → LoadStop → Refusal → Type 0
TellsStop name stops.Missing (Missing missing) = missing.bytes ≡ name
TellsStop name stops.Missing _ = ⊥
TellsStop name (stops.BadFile bad) refusal = refusal ≡ File bad
TellsStop name stops.ReadFault refusal = refusal ≡ Read
TellsStop name stops.NoMemory refusal = refusal ≡ Memory

-- the refusal of a look-up that stopped
abbrev pub look_refusal : LookStop → Refusal
look_refusal looks.ReadFault = Read
look_refusal (looks.BadPage fault at) = File (bad_of (record { fault = fault; at = at }))
look_refusal looks.NoMemory = Memory

-- a file of this name is refused, where the versions from `oldest` on are read: there is none, or this
-- is wrong with it first; a fault of the files or of memory says nothing of it
abbrev pub RefusesFrom : Version → List ℕ → Refusal → Option FileRead → Type 0
RefusesFrom oldest name (Missing missing) file = (missing.bytes ≡ name) × (file ≡ None)
RefusesFrom oldest name (File bad) (Some file) = fault_from oldest file ≡ Some bad
RefusesFrom oldest name Read file = ⊤
RefusesFrom oldest name Memory file = ⊤
RefusesFrom oldest name _ _ = ⊥

-- the same of all commands but `migrate`
abbrev pub RefusesLoading : List ℕ → Refusal → Option FileRead → Type 0
RefusesLoading name refusal file = RefusesFrom Three name refusal file

-- a head and words were read from a file of this name, or this refuses it
abbrev pub AnswersLoading : Version → List ℕ → Result FileBase Refusal → Option FileRead → Type 0
AnswersLoading oldest name (Ok base) file = AnswersFrom oldest file (Ok base)
AnswersLoading oldest name (Err refusal) file = RefusesFrom oldest name refusal file
