-- What a choice loses against the best of what else could be chosen.
use Rattle.std.specs.Prelude.{ℤ, pos, ◌-ℤ◌, List, [], ◌∷◌, map}
use Rattle.std.specs.Int.{int_max}
use Rattle.directed_fixed.specs.Bounds.{Bounds}
use Rattle.turn_rule.specs.Turn.{least}

-- what could be chosen: the one that was, and the others
pub record Options (X : Type 0) : Type 0 where
  pub chosen : X
  pub others : List X

-- by how much the best of some values is above one, and nothing where none is
abbrev pub ahead : List ℤ → ℤ → ℤ
ahead [] mine = pos 0
ahead (value ∷ values) mine = int_max (value -ℤ mine) (ahead values mine)

-- the regret of a choice: by how much the best of the others is worth more, and nothing where none is
abbrev pub regret : Options ℤ → ℤ
regret options = ahead options.others options.chosen

abbrev pub lower_ends : List Bounds → List ℤ
lower_ends pairs = map (λ (pair : Bounds). pair.lower) pairs

abbrev pub upper_ends : List Bounds → List ℤ
upper_ends pairs = map (λ (pair : Bounds). pair.upper) pairs

-- what it is at least and at most where pairs are known: the best of the others' lower ends against the chosen one's upper end, and the best
-- of their upper ends against its lower end
abbrev pub loss : Options Bounds → Bounds
loss options = record {
  lower = ahead (lower_ends options.others) options.chosen.upper;
  upper = ahead (upper_ends options.others) options.chosen.lower;
}

-- at each end the least of a pair and of some others
abbrev pub least_pair : Bounds → List Bounds → Bounds
least_pair pair others = record {
  lower = least pair.lower (lower_ends others);
  upper = least pair.upper (upper_ends others);
}
