use Rattle.std.proofs.Common.{◌≡◌, ◌<◌, ◌≤◌, ℕ, All, length, get_or, vec_capacity}
use Rattle.position_rank.specs.Placement.{IsLive}
use Rattle.column_turns.specs.Turns.{at_rank}
use Rattle.column_turns.proofs.movers.list_movers.Given as goal

-- those of the layouts so far
abbrev pub invariant-loop-rank : goal.invariant-loop-rank
invariant-loop-rank l = record {
  room : vec_capacity l.movers ≡ vec_capacity l.fn.movers;
  few : length l.movers.items ≤ l.rank;
  within : All (λ (rank : ℕ). rank < length l.column.layouts) l.movers.items;
  live : (i : ℕ) → i < length l.movers.items → IsLive (at_rank l.column.layouts l.other (get_or l.movers.items i 0));
  all : (rank : ℕ) → rank < l.rank → IsLive (at_rank l.column.layouts l.other rank) → (i : ℕ) × (i < length l.movers.items) × (get_or l.movers.items i 0 ≡ rank);
}
