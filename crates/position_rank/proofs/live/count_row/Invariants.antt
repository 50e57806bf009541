use Rattle.std.proofs.Common.{◌≡◌, ◌+◌, ◌*◌, ◌≤◌}
use Rattle.position_rank.specs.Points.{AreMoverPoints}
use Rattle.position_rank.specs.Ranks.{layouts}
use Rattle.position_rank.specs.LiveRanks.{layout_at, live_below}
use Rattle.position_rank.proofs.live.count_row.Given as goal

abbrev pub invariant-loop-other : goal.invariant-loop-other
invariant-loop-other l =
    let first = l.row * layouts l.checkers in
    record {
      mover : AreMoverPoints l.mover (layout_at l.checkers l.row);
      so_far : live_below l.checkers (first + l.other-index) ≡ live_below l.checkers first + l.live;
      small : l.live ≤ l.other-index;
    }
