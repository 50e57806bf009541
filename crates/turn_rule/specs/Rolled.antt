-- The legal ends of every roll of a position.
use Rattle.std.specs.Prelude.{◌≡◌, ◌<◌, ℕ, List, length, map, All}
use Rattle.position_rank.specs.Placement.{Placement}
use Rattle.roll_table.specs.Rolls.{Dice, all_rolls}
use Rattle.turn_rule.specs.Looks.{AreEndsInOrder}
use Rattle.turn_rule.specs.declared.ends.OneRoll.{OneRoll}

-- a roll, and in how many ways it comes
abbrev pub weighted : OneRoll → Dice × ℕ
weighted one = (one.roll, one.times)

-- the ends are those of the position's legal plays of the roll, in their order
pub record HasEnds (p : Placement) (one : OneRoll) : Type 0 where
  pub some : 0 < length one.ends.items
  pub ends : AreEndsInOrder p one.roll one.ends.items

-- every roll, with its ends
pub record AreRolled (p : Placement) (kept : List OneRoll) : Type 0 where
  pub rolls : map weighted kept ≡ all_rolls
  pub ends : All (HasEnds p) kept
