-- The sums over all rolls of a column.
use Rattle.std.specs.Prelude.{◌≡◌, ◌≤◌, ◌<◌, ◌-◌, ◌^◌, ℕ, ℤ, pos, ◌+ℤ◌, ◌*ℤ◌, List, [], ◌∷◌, length, Option, slice_index, slice_index_or, ◌==◌, if◌then◌else◌}
use Rattle.position_rank.specs.Placement.{Placement}
use Rattle.roll_table.specs.Rolls.{Dice}
use Rattle.directed_fixed.specs.declared.bounds.End.{End}
use Rattle.directed_fixed.specs.Bounds.{IsWithinUnits}
use Rattle.column_sums.specs.Cascade.{best_sum}
use Rattle.column_sums.specs.Cells.{cell_placement}
use Rattle.column_sums.specs.Tables.{IsNeededRow, IsRightAt}
use Rattle.column_sums.specs.Worths.{cells_at}
use Rattle.column_sums.specs.declared.best.Bests.{Bests}
use Rattle.column_sums.specs.declared.cells.Reach.{Reach}
use Rattle.column_sums.specs.declared.moves.DieList.{DieList}
use Rattle.column_sums.specs.declared.moves.Moves.{Moves}

-- the list of a die
abbrev pub die_list : Moves → ℕ → DieList → DieList
die_list moves die none = slice_index_or moves.lists (die - 1) none

-- in the cells of the first few of these, the greatest value that these dice lead to
abbrev pub AreRightTo : (Placement → ℤ) → List ℕ → Moves → List (Option ℤ) → List Reach → ℕ → Type 0
AreRightTo value dice moves table reaches end =
    (i : ℕ) (none : Reach) → i < end
    → IsRightAt value dice moves.steps moves.layers table (slice_index_or reaches i none).cell

-- in all cells that this die is listed for, the greatest value that it leads to
abbrev pub AreRightEach : (Placement → ℤ) → Moves → ℕ → List (Option ℤ) → Type 0
AreRightEach value moves die table =
    (none : DieList) → AreRightTo value (die
    ∷ []) moves table (die_list moves die none).reaches.items
    (length (die_list moves die none).reaches.items)

-- a table of each die, at this end: the best with this die to play
abbrev pub AreOnes : End → (Placement → ℤ) → Moves → List (List Bests) → Type 0
AreOnes end value moves ones = (die : ℕ) (none : List Bests) → 1 ≤ die → die ≤ 6
    → AreRightEach value moves die (cells_at end (slice_index_or ones (die - 1) none))

-- in how many ways a roll comes
abbrev pub ways : Dice → ℕ
ways roll = if roll.high == roll.low then 1 else 2

-- the best with two and with three dice of one number to play
pub record AreTwoAndThree (value : Placement → ℤ) (moves : Moves) (die : ℕ)
    (two three : List (Option ℤ)) : Type 0 where
  pub twice : (none : DieList)
      → AreRightTo value (die ∷ die ∷ []) moves two (die_list moves die none).reaches.items
      (die_list moves die none).second
  pub thrice : (none : DieList)
      → AreRightTo value (die ∷ die ∷ die ∷ []) moves three (die_list moves die none).reaches.items
      (length moves.listing)

-- where the checkers stand as a turn of the column begins
abbrev pub mover_placement : Moves → ℕ → Placement
mover_placement moves i = cell_placement moves.steps moves.layers (slice_index moves.listing i)

-- a value was added so many times
pub record IsAdded (times : ℕ) (right : ℤ → Type 0) (old new : ℤ) : Type 0 where
  pub best : ℤ
  pub small : IsWithinUnits (pos (2 ^ 36)) best
  pub sum : new ≡ old +ℤ pos times *ℤ best
  pub is : right best

abbrev pub sum_at : List ℤ → ℕ → ℤ
sum_at sums i = slice_index_or sums i (pos 0)

-- to the sum of each mover, the best play of a roll was added so many times: its value is right where the tables are
abbrev pub IsRollAdded : Moves → ℕ → ((Placement → ℤ) → Type 0) → ((Placement → ℤ) → Placement → ℤ)
    → List ℤ → List ℤ → Type 0
IsRollAdded moves times tables roll old new = (i : ℕ) → i < moves.movers
    → IsAdded times (λ best. (value : Placement → ℤ) → tables value
    → best ≡ roll value (mover_placement moves i)) (sum_at old i) (sum_at new i)

-- each of these is small enough for all rolls to be added
abbrev pub AreSmall : List ℤ → ℕ → Type 0
AreSmall sums many = (i : ℕ) → i < many → IsWithinUnits (pos (2 ^ 42)) (sum_at sums i)

-- the sum over some rolls for each mover
abbrev pub AreSums : (Placement → ℤ) → Moves → List (Dice × ℕ) → List ℤ → Type 0
AreSums value moves rolls sums =
    (i : ℕ) → i < moves.movers → sum_at sums i ≡ best_sum rolls value (mover_placement moves i)

-- the tables that a double needs are right
pub record DoubleTables (value : Placement → ℤ) (moves : Moves) (die : ℕ)
    (row one two three : List (Option ℤ)) : Type 0 where
  pub none : IsNeededRow value moves.steps moves.layers moves.needed.items row
  pub once : AreRightEach value moves die one
  pub more : AreTwoAndThree value moves die two three

-- the tables that two unequal dice need are right
pub record PairTables (value : Placement → ℤ) (moves : Moves) (high low : ℕ)
    (row after_high after_low : List (Option ℤ)) : Type 0 where
  pub none : IsNeededRow value moves.steps moves.layers moves.needed.items row
  pub higher : AreRightEach value moves high after_high
  pub lower : AreRightEach value moves low after_low

-- at this end the row is right, and the tables of the dice
pub record RollTables (end : End) (value : Placement → ℤ) (moves : Moves) (row : List Bests)
    (ones : List (List Bests)) : Type 0 where
  pub none : IsNeededRow value moves.steps moves.layers moves.needed.items (cells_at end row)
  pub each : AreOnes end value moves ones
