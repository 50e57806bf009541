-- A front and what is left.
use Rattle.std.proofs.Common.{◌≡◌, ℕ, List, [], ◌++◌, drop, Option, Some, None, sym}
use Rattle.std.proofs.lemmas.List.{take-append-drop, append-nil}
use Rattle.memory_files.specs.Calls.{front_of}

-- what a failing call leaves out
pub front-rest : (failing : Option ℕ) (bytes : List ℕ) → (rest : List ℕ) × (bytes ≡ front_of failing bytes ++ rest)
front-rest None bytes = ([], sym (append-nil bytes))
front-rest (Some n) bytes = (drop n bytes, sym (take-append-drop n bytes))
