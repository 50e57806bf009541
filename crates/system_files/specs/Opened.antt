-- What is known of what was opened: all of the bytes that something gave which is no file.
use Rattle.std.specs.Prelude.{◌≡◌, ℕ, List, Bool, true, false, length, Some}
use Rattle.outside_log.specs.Files.{Reads}
use Rattle.system_files.specs.declared.opened.Source.{Source}
use Rattle.system_files.specs.declared.opened.Source.TheVariants.{File, Given}

-- its bytes are there once
abbrev pub is_source_given : {F : Type 0} → Source F → Bool
is_source_given (File file) = false
is_source_given (Given bytes) = true

-- where its bytes were given they are so many
abbrev pub HasSize : {F : Type 0} → Source F → ℕ → Type 0
HasSize (File file) size = Unit
HasSize (Given bytes) size = size ≡ length bytes.items

-- where its bytes were given, those from this place on are read
abbrev pub GivesFrom : {F : Type 0} → Source F → ℕ → List ℕ → List ℕ → ℕ → Type 0
GivesFrom (File file) at old new count = Unit
GivesFrom (Given bytes) at old new count = Reads (Some bytes.items) at old new count
