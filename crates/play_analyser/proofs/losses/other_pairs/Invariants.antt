use Rattle.std.proofs.Common.{◌≡◌, ◌≤◌, take, length}
use Rattle.play_analyser.specs.Rankings.{other_pairs}
use Rattle.play_analyser.proofs.losses.other_pairs.Given as goal

-- the pairs of those so far that leave another position
abbrev pub invariant-loop-row : goal.invariant-loop-row
invariant-loop-row l = record {
  few : length l.others.items ≤ l.row-index;
  others : l.others.items ≡ other_pairs l.end (take l.row-index l.rows);
}
