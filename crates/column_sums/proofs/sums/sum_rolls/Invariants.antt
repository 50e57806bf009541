use Rattle.std.proofs.Common.{◌<◌, ◌*◌, ◌^◌, ℕ, ℤ, pos, take}
use Rattle.position_rank.specs.Placement.{Placement}
use Rattle.roll_table.specs.Rolls.{all_rolls}
use Rattle.directed_fixed.specs.declared.bounds.End.{End}
use Rattle.directed_fixed.specs.Bounds.{IsWithinUnits}
use Rattle.turn_rule.proofs.Greatest.{total}
use Rattle.column_sums.specs.Tables.{IsNeededRow}
use Rattle.column_sums.specs.Sums.{AreSums, sum_at}
use Rattle.column_sums.specs.Worths.{cells_at, worths_at}
use Rattle.column_sums.proofs.sums.sum_rolls.Given as goal

abbrev pub invariant-loop-i : goal.invariant-loop-i
invariant-loop-i l = record {
  small : (end : End) (k : ℕ) → k < l.moves.movers → IsWithinUnits (pos (total (take l.i all_rolls) * 2 ^ 36)) (sum_at (worths_at end l.sums) k);
  sums : (end : End) (value : Placement → ℤ) → IsNeededRow value l.moves.steps l.moves.layers l.moves.needed.items (cells_at end l.row) → AreSums value l.moves (take l.i all_rolls) (worths_at end l.sums);
}
