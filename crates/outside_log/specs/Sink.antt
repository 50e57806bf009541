-- What a sink was given, and what a call of it does.
use Rattle.std.specs.Prelude.{◌≡◌, ℕ, List, ◌++◌, Option, Some, None, Result, Ok, Err}
use Rattle.hyper_outside.specs.Causes.{HasCause}

-- what contracts see of a sink at one moment: the bytes that were put, where it tells them, and how often it has failed
pub record Output : Type 0 where
  pub told : Option (List ℕ)
  pub faults : ℕ

-- a sink that doesn't tell its bytes, and has failed so often
abbrev pub untold : ℕ → Output
untold faults = record { told = None; faults = faults }

-- where bytes are told: all of these were added, or, after a failure, a front of them
abbrev pub Gains : {T E : Type 0} → Option (List ℕ) → Option (List ℕ) → List ℕ → Result T E → Type 0
Gains None new bytes result = new ≡ None
Gains (Some old) new bytes (Ok x) = new ≡ Some (old ++ bytes)
Gains (Some old) new bytes (Err e) =
    (front : List ℕ) × (rest : List ℕ) × (bytes ≡ front ++ rest) × (new ≡ Some (old ++ front))

-- a put of these bytes: they were added, or, after a failure, a front of them; and it fails only where the count of faults rose
pub record Puts {T E : Type 0} (old new : Output) (bytes : List ℕ)
    (result : Result T E) : Type 0 where
  pub gains : Gains old.told new.told bytes result
  pub cause : HasCause old.faults new.faults result
