use Rattle.std.proofs.Common.{◌≡◌, length}
use Rattle.base_head.proofs.fields.match_kind_count.Given as goal

-- a pair for each score so far
abbrev pub invariant-loop : goal.invariant-loop
invariant-loop l = record { so_far : length l.starts.pairs ≡ l.counter; same : l.starts.match_length ≡ l.fn.match_length }
