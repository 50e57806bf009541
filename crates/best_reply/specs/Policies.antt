-- Ways to play.
use Rattle.std.specs.Prelude.{ℕ}
use Rattle.position_rank.specs.Placement.{Placement}
use Rattle.roll_table.specs.Rolls.{Dice}
use Rattle.move_rules.specs.Sequences.{IsLegalEnd}

-- a way to play: what the play leaves that is made with a roll, for each position and kind
abbrev pub Policy : Type 0
Policy = Placement → ℕ → Dice → Placement

-- each of its plays is legal
abbrev pub IsLegalPolicy : Policy → Type 0
IsLegalPolicy policy = (p : Placement) (k : ℕ) (roll : Dice) → IsLegalEnd p roll (policy p k roll)
