use Rattle.std.proofs.Common.{◌<◌, ◌≤◌, ◌-◌, length}
use Rattle.position_rank.specs.LiveRanks.{live_below}
use Rattle.interval_words.proofs.live_index.LiveIndex.square.Given as goal

abbrev pub invariant-loop-high : goal.invariant-loop-high
invariant-loop-high l = record {
  apart : l.low < l.high;
  inside : l.high ≤ length l.self-inside.below.items;
  from : live_below l.self l.low ≤ l.rank;
  to : l.rank < live_below l.self l.high;
}

abbrev pub decreases-loop-high : goal.decreases-loop-high
decreases-loop-high l = l.high - l.low
