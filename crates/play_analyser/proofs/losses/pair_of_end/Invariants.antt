use Rattle.std.proofs.Common.{◌≢◌, All, take}
use Rattle.play_analyser.specs.declared.ranking.PlayRow.{PlayRow}
use Rattle.play_analyser.proofs.losses.pair_of_end.Given as goal

-- none so far leaves it
abbrev pub invariant-loop-row : goal.invariant-loop-row
invariant-loop-row l = All (λ (row : PlayRow). row.entry.end ≢ l.end) (take l.row-index l.rows)
