use Rattle.std.proofs.Common.{◌≡◌, ◌+◌, ◌*◌, length}
use Rattle.position_rank.specs.Points.{AreMoverPoints}
use Rattle.position_rank.specs.Ranks.{layouts}
use Rattle.position_rank.specs.LiveRanks.{layout_at, live_below}
use Rattle.interval_words.specs.LiveIndex.{AreCounted}
use Rattle.interval_words.proofs.live_index.number_row.Given as goal

abbrev pub invariant-loop-rank : goal.invariant-loop-rank
invariant-loop-rank l =
    let square = l.row * layouts l.checkers + l.rank in
    record {
      mover : AreMoverPoints l.mover (layout_at l.checkers l.row);
      room : length l.below ≡ layouts l.checkers * layouts l.checkers;
      counted : AreCounted l.checkers l.below square;
      live : l.live ≡ live_below l.checkers square;
    }
