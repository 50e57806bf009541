use Rattle.std.proofs.Common.{◌≡◌, ◌<◌, ℕ, map, get_or}
use Rattle.best_reply.specs.Tables.{RollAt, weighted_kept}
use Rattle.best_reply.proofs.position_lefts.fill_all.Given as goal

abbrev pub invariant-loop-one : goal.invariant-loop-one
invariant-loop-one l = record {
  rolls : map weighted_kept l.kept ≡ map weighted_kept l.fn.kept;
  position : (k : ℕ) (none : RollAt) → k < l.one-index → (get_or l.kept k none).position ≡ l.position;
}
