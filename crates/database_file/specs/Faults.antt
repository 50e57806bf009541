-- What is wrong first with a file of bounds.
use Rattle.std.specs.Prelude.{◌≡◌, ℕ, ◌*◌, nat_lt, List, [], ◌∷◌, length, drop, Option, None, Some, Result, Ok, Err, ⊤}
use Rattle.std.specs.Option.{option_map, option_or}
use Rattle.cube_actions.specs.Stakes.{bound_of}
use Rattle.base_head.specs.declared.fault.BadFile.{BadFile}
use Rattle.base_head.specs.declared.fault.FileFault.TheVariants as faults
use Rattle.base_head.specs.declared.header.Header.{Header}
use Rattle.base_head.specs.Faults.{check, first_wrong}
use Rattle.base_head.specs.Fronts.{bad_of, digest_in, head_in, starts_fault}
use Rattle.base_head.specs.Headers.{front_length}
use Rattle.base_head.specs.HeaderFaults.{fields_of, header_fault, header_in}
use Rattle.word_pages.specs.declared.version.Version.{Version}
use Rattle.word_pages.specs.declared.version.Version.TheVariants.{Three}
use Rattle.database_file.specs.declared.front.Front.{Front}
use Rattle.database_file.specs.declared.stop.LoadStop.{LoadStop}
use Rattle.database_file.specs.declared.stop.LoadStop.TheVariants.{Missing, BadFile as Bad, ReadFault}
use Rattle.database_file.specs.declared.pages.Pages.{Pages}
use Rattle.database_file.specs.Pages.{flaw_in}
use Rattle.database_file.specs.Texts.{words_a_page}

-- a file that is said to have so many bytes, and of which these could be read
pub record Read : Type 0 where
  pub size : ℕ
  pub bytes : List ℕ

-- a file of which all could be read
abbrev pub whole : List ℕ → Read
whole bytes = record { size = length bytes; bytes = bytes }

-- what its first bytes say
abbrev pub header_of_file : List ℕ → Header
header_of_file bytes = header_in (fields_of bytes)

-- the pages behind the starts, where the head has this digest
abbrev pub pages_behind : Header → List ℕ → Pages
pages_behind header digest = record {
  version = header.version;
  digest = digest;
  bound = bound_of header.name;
  at = front_length header;
  size = words_a_page header.kinds;
  count = 2 * header.kinds * header.positions;
}

-- the pages of a file
abbrev pub pages_in_file : List ℕ → Pages
pages_in_file bytes =
    pages_behind (header_of_file bytes) (digest_in (header_of_file bytes) bytes)

-- the bytes end before this place
abbrev pub ends_before : ℕ → List ℕ → Option BadFile
ends_before place bytes =
    first_wrong (check faults.Short (length bytes) (nat_lt (length bytes) place) ∷ [])

-- it is too short for a header, or fewer bytes of it were there
abbrev pub short_fault : Read → Option BadFile
short_fault file = option_or (first_wrong (check faults.Short file.size (nat_lt file.size 64) ∷ []))
    (ends_before 64 file.bytes)

-- the bytes end before the pages, or what stands behind the header is wrong
abbrev pub starts_wrong : Header → List ℕ → Option BadFile
starts_wrong header bytes =
    option_or (ends_before (front_length header) bytes) (starts_fault header bytes)

-- what is wrong first up to the pages, where the versions from `oldest` on are read
abbrev pub front_fault_from : Version → Read → Option BadFile
front_fault_from oldest file =
    option_or (short_fault file)
    (option_or (header_fault oldest file.size file.bytes)
    (starts_wrong (header_of_file file.bytes) file.bytes))

-- what is wrong first with the pages
abbrev pub pages_fault : Read → Option BadFile
pages_fault file = option_map bad_of
    (flaw_in (pages_in_file file.bytes)
    (drop (front_length (header_of_file file.bytes)) file.bytes))

-- what is wrong first
abbrev pub fault_from : Version → Read → Option BadFile
fault_from oldest file = option_or (front_fault_from oldest file) (pages_fault file)

-- All commands but `migrate` read version 3 alone: an older file has the fault `Version`.
abbrev pub fault_before_pages : Read → Option BadFile
fault_before_pages file = front_fault_from Three file

abbrev pub file_fault : Read → Option BadFile
file_fault file = fault_from Three file

-- nothing is wrong up to the pages, and this is what stands there
pub record IsFrontFrom (oldest : Version) (file : Read) (front : Front) : Type 0 where
  pub right : front_fault_from oldest file ≡ None
  pub header : front.header ≡ header_of_file file.bytes
  pub head : front.head ≡ head_in (header_of_file file.bytes) file.bytes
  pub digest : front.digest ≡ digest_in (header_of_file file.bytes) file.bytes

-- what may be answered of what stands before the pages; a fault of the files says nothing of a file
abbrev pub AnswersFront : Version → Option Read → Result Front LoadStop → Type 0
AnswersFront oldest None (Err Missing) = ⊤
AnswersFront oldest None (Err ReadFault) = ⊤
AnswersFront oldest None _ = ⊥
AnswersFront oldest (Some file) (Ok front) = IsFrontFrom oldest file front
AnswersFront oldest (Some file) (Err (Bad bad)) = front_fault_from oldest file ≡ Some bad
AnswersFront oldest (Some file) (Err ReadFault) = ⊤
AnswersFront oldest (Some file) _ = ⊥
