-- Plays in races, in which nothing of the other side stands in the mover's way: so they leave the same, wherever the other side stands.
use Rattle.std.specs.Prelude.{◌≡◌, ◌<◌, ◌↔◌, ℕ, List, length, map, slice_index_or, All}
use Rattle.std.specs.List.{Contains}
use Rattle.position_rank.specs.Placement.{Placement}
use Rattle.position_rank.specs.Ranks.{layouts}
use Rattle.roll_table.specs.Rolls.{Dice, all_rolls}
use Rattle.move_rules.specs.Sequences.{IsLegalEnd}
use Rattle.turn_rule.specs.Layouts.{HasRank}
use Rattle.race_table.specs.declared.free_plays.FreeRoll.{FreeRoll}
use Rattle.race_table.specs.declared.free_plays.FreeSide.{FreeSide}
use Rattle.race_table.specs.Races.{IsRace}

-- these checkers of the mover against those of the other side
abbrev pub against : List ℕ → List ℕ → Placement
against other mover = record { mover = mover; other = other }

-- a roll, and in how many ways it comes
abbrev pub weighted_turns : FreeRoll → Dice × ℕ
weighted_turns one = (one.roll, one.times)

-- in each race of these checkers of the mover, the legal plays of the roll leave these of his, and the other side as it stands
abbrev pub AreFreeEnds : List ℕ → Dice → List (List ℕ) → Type 0
AreFreeEnds mover roll ends =
    (other : List ℕ) → IsRace (against other mover)
    → (q : Placement) → Contains (map (against other) ends) q
    ↔ IsLegalEnd (against other mover) roll q

abbrev pub HasFreeEnds : List ℕ → FreeRoll → Type 0
HasFreeEnds mover one = AreFreeEnds mover one.roll one.ends.items

-- every roll, with what its plays leave in races
pub record AreFreeRolls (mover : List ℕ) (kept : List FreeRoll) : Type 0 where
  pub rolls : map weighted_turns kept ≡ all_rolls
  pub ends : All (HasFreeEnds mover) kept

-- a side's checkers by their rank, with what its plays leave in races
pub record IsFreeSide (checkers rank : ℕ) (side : FreeSide) : Type 0 where
  pub layout : HasRank checkers rank side.layout
  pub rolls : AreFreeRolls side.layout side.rolls.items

-- every side's checkers, by rising rank
pub record AreFreeSides (checkers : ℕ) (sides : List FreeSide) : Type 0 where
  pub many : length sides ≡ layouts checkers
  pub each :
      (rank : ℕ) (none : FreeSide) → rank < length sides
      → IsFreeSide checkers rank (slice_index_or sides rank none)
