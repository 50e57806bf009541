-- The bytes that stand under each name, and what a read of them gives. A name that isn't there has none.
use Rattle.std.specs.Prelude.{◌≡◌, ℕ, ◌<◌, ◌≤◌, List, [], length, take, drop, min, Option, Some, None}

-- the bytes under each name
abbrev pub Contents : Type 0
Contents = List ℕ → Option (List ℕ)

-- every file is as it was
abbrev pub SameFiles : Contents → Contents → Type 0
SameFiles old new = (name : List ℕ) → new name ≡ old name

-- what can be read from this place on
abbrev pub bytes_from : ℕ → Option (List ℕ) → List ℕ
bytes_from at None = []
bytes_from at (Some bytes) = drop at bytes

-- the front of the buffer has the file's bytes from this place on, some where there is room and are any
pub record Reads (file : Option (List ℕ)) (at : ℕ) (old new : List ℕ) (count : ℕ) : Type 0 where
  pub room : count ≤ length old
  pub there : count ≤ length (bytes_from at file)
  pub some : 0 < length old → 0 < length (bytes_from at file) → 0 < count
  pub front : take count new ≡ take count (bytes_from at file)

-- the front of the buffer has the file's bytes from this place on, as many as there are and have room
pub record Fills (file : Option (List ℕ)) (at : ℕ) (old new : List ℕ) (count : ℕ) : Type 0 where
  pub count_is : count ≡ min (length old) (length (bytes_from at file))
  pub front : take count new ≡ take count (bytes_from at file)
