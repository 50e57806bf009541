-- What is left of a text of which parts were cut off.
use Rattle.std.specs.Prelude.{ℕ, List, [], Option, Some, None}
use Rattle.plain_record.specs.Plain.{parts}

-- the parts behind the first one, of the text behind it
abbrev pub parts_left : ℕ → Option (List ℕ) → List (List ℕ)
parts_left byte None = []
parts_left byte (Some rest) = parts byte rest
