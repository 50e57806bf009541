-- Which bytes a file begins with, up to its pages.
use Rattle.std.specs.Prelude.{◌≡◌, ℕ, List, take, Option}
use Rattle.std.specs.Option.{option_or}
use Rattle.word_pages.specs.declared.version.Version.{Version}
use Rattle.base_head.specs.Fronts.{front_text, starts_fault}
use Rattle.base_head.specs.Heads.{FileHead, IsHead, HasText}
use Rattle.base_head.specs.Headers.{front_length, header_of}
use Rattle.base_head.specs.HeaderFaults.{fields_of, header_fault, header_in}
use Rattle.base_head.specs.declared.fault.BadFile.{BadFile}

-- what is wrong first before the pages of a file of this size, which begins with these bytes: with the
-- header, else with what follows it; the versions from `oldest` on are read
abbrev pub front_fault : Version → ℕ → List ℕ → Option BadFile
front_fault oldest size bytes =
    option_or (header_fault oldest size bytes) (starts_fault (header_in (fields_of bytes)) bytes)

-- bytes begin with the front of a version and a head
pub record IsFront (version : Version) (head : FileHead) (bytes : List ℕ) : Type 0 where
  pub valid : IsHead head
  pub takes : HasText version head
  pub text : take (front_length (header_of version head)) bytes ≡ front_text version head
