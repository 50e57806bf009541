use Rattle.std.proofs.Common.{◌≡◌, length}
use Rattle.match_scores.specs.Keepers.{IsKeeperFor, HasKept, IsSolvedSoFar, IsForSame, CountsOn}
use Rattle.match_scores.proofs.ladder.solve_ladder.Given as goal

-- the scores so far are solved and kept
abbrev pub invariant-loop-score : goal.invariant-loop-score
invariant-loop-score g l =
    let keeper = g.K.Keep.keeper l.keep in
    let at_first = g.K.Keep.keeper l.fn.keep in
    record {
      so_far : IsSolvedSoFar l.checkers l.match_length l.rounds l.starts;
      many : length l.starts.pairs ≡ l.score-index;
      for_ladder : IsKeeperFor l.checkers l.match_length l.rounds keeper;
      kept : HasKept l.starts keeper;
      same : IsForSame at_first keeper;
      counts : CountsOn at_first keeper;
      stays : g.K.Keep.stays l.keep ≡ g.K.Keep.stays l.fn.keep;
      since : (past : g.K.Keep.Past) → g.K.Keep.since past l.fn.keep → g.K.Keep.since past l.keep;
    }
