-- Files that are written aside.
use Rattle.std.specs.Prelude.{◌≡◌, ℕ, List, Option, Some, None, string_bytes}
use Rattle.system_files.specs.declared.real_files.Part.{Part}

-- one was begun, and is to take the place of this path
abbrev pub IsFor : {F : Type 0} → Option (Part F) → List ℕ → Type 0
IsFor None path = ⊥
IsFor (Some part) path = string_bytes part.path ≡ path
