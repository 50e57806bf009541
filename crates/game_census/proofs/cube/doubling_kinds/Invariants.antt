use Rattle.std.proofs.Common.{◌≡◌, ◌≤◌, ◌<◌, ℕ, All, length}
use Rattle.std.specs.List.{filter, range_with_len}
use Rattle.game_census.specs.Censuses.{may_double_in}
use Rattle.game_census.proofs.cube.doubling_kinds.Given as goal

-- those among the kinds before this one were found
abbrev pub invariant-loop-kind : goal.invariant-loop-kind
invariant-loop-kind l = record {
  few : length l.found.items ≤ l.kind;
  there : All (λ (kind : ℕ). kind < l.kind) l.found.items;
  found : l.found.items ≡ filter (may_double_in l.stakes) (range_with_len 0 l.kind);
}
