-- Positions of worked examples.
use Rattle.std.specs.Prelude.{ℕ, List}
use Rattle.position_rank.specs.Placement.{Placement}
use Rattle.position_rank.specs.Packed.{counts_of}

abbrev pub off : ℕ
off = 0

abbrev pub bar : ℕ
bar = 25

-- the mover's checkers and the other side's on these places, each in its own numbering
abbrev pub placed : List ℕ → List ℕ → Placement
placed mover other = record { mover = counts_of mover; other = counts_of other }
