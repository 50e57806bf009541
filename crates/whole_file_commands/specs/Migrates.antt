-- What a file that is written anew leaves.
use Rattle.std.specs.Prelude.{◌≡◌, ◌⊎◌, ℕ, List, Option, Ok, Err, Bool}
use Rattle.outside_log.specs.Files.{Contents}
use Rattle.outside_log.specs.Log.{Event}
use Rattle.outside_log.specs.Readings.{WritesFile}
use Rattle.outside_log.specs.Sink.{Output}
use Rattle.word_pages.specs.declared.version.Version.TheVariants.{One, Three}
use Rattle.base_head.specs.Heads.{FileHead}
use Rattle.base_head.specs.Headers.{magic, text_length}
use Rattle.database_file.specs.Bases.{AnswersFrom}
use Rattle.database_file.specs.FileBases.{FileBase}
use Rattle.database_file.specs.Texts.{file_text}
use Rattle.command_line.specs.declared.command.Migrate.{Migrate}
use Rattle.equity_report.specs.declared.refusal.Refusal.{Refusal}
use Rattle.whole_file_reports.specs.Files.{migrated_text}
use Rattle.run_endings.specs.Beginnings.{MayRefuseBeginning, MayTakePlace}
use Rattle.run_endings.specs.Loads.{OfFile, game_told}
use Rattle.whole_file_commands.specs.Verifies.{AreVerified, MayRefuseVerifying}
use Rattle.run_endings.specs.declared.ending.RunStop.TheVariants.{NotWritten, Refused}
use Rattle.run_endings.specs.Endings.{Ending, IsPut, WasPut}

-- a head and words in version 3
abbrev pub latest_file : FileBase → List ℕ
latest_file base = file_text Three base.head base.words.list

-- the report on a file with this head
abbrev pub migrated_report : Migrate → FileHead → List ℕ
migrated_report task head =
    migrated_text (game_told head) head.rounds task.new (text_length Three head)

-- The file was written anew: a head and consistent words were read from the old one, of any version, a file with both in version 3 was written, and
-- the report on them was put.
pub record HasMigrated (task : Migrate) (told : Bool) (held : Option (List ℕ))
    (before after : List Event) (old new : Output) : Type 0 where
  pub base : FileBase
  pub read : OfFile told held (λ file. AnswersFrom One file (Ok base))
  pub verified : AreVerified base.words
  pub file : WritesFile task.new (latest_file base) before after
  pub report : IsPut old new (migrated_report task base.head)

-- a head and consistent words were read from the old file, and the report on them was put, or a front of it
pub record HasToldMigrating (task : Migrate) (told : Bool) (held : Option (List ℕ))
    (old new : Output) : Type 0 where
  pub base : FileBase
  pub read : OfFile told held (λ file. AnswersFrom One file (Ok base))
  pub verified : AreVerified base.words
  pub report : WasPut old new (migrated_report task base.head)

-- writing a file anew is refused: nothing is written under the new name, or the old file can't be loaded or its words aren't consistent
abbrev pub MayRefuseMigrating : Migrate → Bool → Contents → Refusal → Type 0
MayRefuseMigrating task told held refusal =
    MayRefuseBeginning magic task.new told (held task.new) refusal
    ⊎ MayRefuseVerifying One task.old told (held task.old) refusal

-- How writing a file anew ends: it was written anew, and took its name's place; or writing failed; or it was refused, and nothing was put.
abbrev pub Migrates : Migrate → Bool → Contents → List Event → List Event → Output → Output
    → Ending → Type 0
Migrates task told held before after old new (Ok done) =
    HasMigrated task told (held task.old) before after old new
    × MayTakePlace magic told (held task.new)
Migrates task told held before after old new (Err NotWritten) =
    (new ≡ old) ⊎ HasToldMigrating task told (held task.old) old new
Migrates task told held before after old new (Err (Refused refusal)) =
    MayRefuseMigrating task told held refusal × (new ≡ old)
