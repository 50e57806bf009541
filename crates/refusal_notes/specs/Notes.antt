-- How a sentence is made.
use Rattle.std.specs.Prelude.{◌≡◌, ℕ, List, ◌++◌}

-- a sentence goes on: what stood in it stays in front
abbrev pub GoesOn : List ℕ → List ℕ → Type 0
GoesOn old new = (more : List ℕ) × (new ≡ old ++ more)
