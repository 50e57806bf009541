-- What loading a file of bounds may answer.
use Rattle.std.specs.Prelude.{◌≡◌, List, drop, Option, None, Some, Result, Ok, Err, ⊤, ℕ}
use Rattle.interval_words.specs.WordLists.{list_of}
use Rattle.word_pages.specs.declared.version.Version.{Version}
use Rattle.word_pages.specs.declared.version.Version.TheVariants.{Three}
use Rattle.base_head.specs.Fronts.{head_in}
use Rattle.base_head.specs.Heads.{FileHead}
use Rattle.base_head.specs.Headers.{front_length}
use Rattle.database_file.specs.declared.stop.LoadStop.{LoadStop}
use Rattle.database_file.specs.declared.stop.LoadStop.TheVariants.{Missing, BadFile as Bad, ReadFault}
use Rattle.database_file.specs.Pages.{words_listed}
use Rattle.database_file.specs.Texts.{game_in}
use Rattle.database_file.specs.FileBases.{FileBase}
use Rattle.database_file.specs.Faults.{Read, fault_from, header_of_file, pages_in_file}

-- the words of a list, of the head's game after its rounds
abbrev pub base_with : FileHead → List ℕ → FileBase
base_with head list = record { head = head; words = list_of (game_in head) head.rounds list }

-- the words behind the starts
abbrev pub words_of_file : List ℕ → List ℕ
words_of_file bytes =
    words_listed (pages_in_file bytes) (drop (front_length (header_of_file bytes)) bytes)

-- nothing is wrong, where the versions from `oldest` on are read, and this is what the file holds
pub record IsBaseFrom (oldest : Version) (file : Read) (base : FileBase) : Type 0 where
  pub right : fault_from oldest file ≡ None
  pub holds : base ≡ base_with (head_in (header_of_file file.bytes) file.bytes) (words_of_file
      file.bytes)

-- what may be answered of a file, or where there is none; a fault of the files or of memory says nothing of it
abbrev pub AnswersFrom : Version → Option Read → Result FileBase LoadStop → Type 0
AnswersFrom oldest None (Err Missing) = ⊤
AnswersFrom oldest None (Err ReadFault) = ⊤
AnswersFrom oldest None _ = ⊥
AnswersFrom oldest (Some file) (Ok base) = IsBaseFrom oldest file base
AnswersFrom oldest (Some file) (Err (Bad bad)) = fault_from oldest file ≡ Some bad
AnswersFrom oldest (Some file) (Err Missing) = ⊥
AnswersFrom oldest (Some file) (Err _) = ⊤

-- the same of all commands but `migrate`
abbrev pub IsBaseOf : Read → FileBase → Type 0
IsBaseOf file base = IsBaseFrom Three file base

abbrev pub AnswersBase : Option Read → Result FileBase LoadStop → Type 0
AnswersBase file result = AnswersFrom Three file result
