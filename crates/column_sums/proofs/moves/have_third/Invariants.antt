use Rattle.std.proofs.Common.{◌<◌, ℕ, All, slice_index_or}
use Rattle.column_sums.specs.declared.moves.DieList.{DieList}
use Rattle.column_sums.specs.Tables.{HasNoThird}
use Rattle.column_sums.proofs.moves.have_third.Given as goal

abbrev pub invariant-loop-list : goal.invariant-loop-list
invariant-loop-list l = (i : ℕ) (none : DieList) → i < l.list-index → All HasNoThird (slice_index_or l.lists i none).reaches.items
