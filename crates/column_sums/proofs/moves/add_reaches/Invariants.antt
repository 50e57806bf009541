use Rattle.std.proofs.Common.{◌≡◌, ◌<◌, ℕ, length, slice_index_or, vec_capacity}
use Rattle.column_sums.specs.declared.cells.Reach.{Reach}
use Rattle.column_sums.specs.MoveLists.{AreReaches}
use Rattle.column_sums.proofs.moves.add_reaches.Given as goal

abbrev pub invariant-loop-i : goal.invariant-loop-i
invariant-loop-i l = record {
  done : AreReaches l.steps l.layers l.die l.cells l.reaches.items;
  many : length l.reaches.items ≡ l.i;
  kept : (i : ℕ) (none : Reach) → i < length l.fn.reaches.items → slice_index_or l.reaches.items i none ≡ slice_index_or l.fn.reaches.items i none;
  capacity : vec_capacity l.reaches ≡ vec_capacity l.fn.reaches;
}
