-- What reading a file leaves and answers.
use Rattle.std.specs.Prelude.{◌≡◌, ℕ, ◌+◌, ◌<◌, ◌≤◌, nat_lt, Bool, ◌&&◌, not, false, List, ◌++◌, length, take, ⊤, Option, None, Some, IfSome, Result, Ok, Err}
use Rattle.std.specs.Str.{bytes_eq}
use Rattle.std.specs.Io.KnownBytes.{Consumes, Keeps}
use Rattle.std.specs.declared.vec.Vec.{Vec}
use Rattle.std.specs.declared.alloc.Global.{Global}
use Rattle.outside_log.specs.declared.reading.WholeStop.{WholeStop}
use Rattle.outside_log.specs.declared.reading.WholeStop.TheVariants.{Missing, TooLong, ReadFault, NoMemory}
use Rattle.hyper_outside.specs.Causes.{Rose}

-- so many of these bytes stand behind the first `done`, some where there is room and are any
pub record AddsRead (there : List ℕ) (done : ℕ) (old new : List ℕ) (count : ℕ) : Type 0 where
  pub enough : count ≤ length there
  pub some : done < length old → 0 < length there → 0 < count
  pub front : take (done + count) new ≡ take done old ++ take count there

-- a reader went to a place of its bytes, and had these from there on, as far as it tells its place and its bytes
abbrev pub ReadFrom : {R : Type 0} → (R → Option ℕ) → (R → Option (List ℕ)) → (R → Option (List ℕ))
    → ℕ → R → R → List ℕ → Type 0
ReadFrom {R} place_of bytes_of remaining at old new had =
    (there : R) × IfSome (place_of old) (λ _. place_of there ≡ Some at)
    × Keeps (bytes_of old) (bytes_of there) × Consumes (remaining there) (remaining new) had

-- what reading a whole file of at most so many bytes answers: all of its bytes, or why not
abbrev pub IsWhole : Option (List ℕ) → ℕ → Result (Vec ℕ Global) WholeStop → Type 0
IsWhole file most (Ok bytes) = (file ≡ Some bytes.items) × (length bytes.items ≤ most)
IsWhole file most (Err Missing) = file ≡ None
IsWhole file most (Err TooLong) = (bytes : List ℕ) × (file ≡ Some bytes) × (most < length bytes)
IsWhole file most (Err NoMemory) = (bytes : List ℕ) × (file ≡ Some bytes) × (length bytes ≤ most)
IsWhole file most (Err ReadFault) = ⊤

-- the count of faults doesn't fall, and a read fault is told only where it rose
pub record HasReadCause (before now : ℕ) (result : Result (Vec ℕ Global) WholeStop) : Type 0 where
  pub later : before ≤ now
  pub failed : result ≡ Err ReadFault → Rose before now

-- a file is there, has a byte, and these aren't its first ones
abbrev pub begins_otherwise : List ℕ → Option (List ℕ) → Bool
begins_otherwise start None = false
begins_otherwise start (Some bytes) =
    nat_lt 0 (length bytes) && not (bytes_eq (take (length start) bytes) start)
