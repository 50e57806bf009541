use Rattle.std.proofs.Common.{◌≡◌, ◌*◌, length}
use Rattle.position_rank.specs.Ranks.{layouts}
use Rattle.position_rank.specs.LiveRanks.{live_below}
use Rattle.interval_words.specs.LiveIndex.{AreCounted}
use Rattle.interval_words.proofs.live_index.LiveIndex.new.Given as goal

abbrev pub invariant-loop-row : goal.invariant-loop-row
invariant-loop-row l =
    let square = l.row * layouts l.checkers in
    record {
      room : length l.below.items ≡ layouts l.checkers * layouts l.checkers;
      counted : AreCounted l.checkers l.below.items square;
      live : l.live ≡ live_below l.checkers square;
    }
