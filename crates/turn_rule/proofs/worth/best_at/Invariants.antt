use Rattle.std.proofs.Common.{◌≡◌, take, Ok}
use Rattle.turn_rule.specs.Turn.{Words, worth, greatest}
use Rattle.turn_rule.specs.Looks.{MeetsOnEnds}
use Rattle.turn_rule.specs.Found.{MayFollowEnds}
use Rattle.turn_rule.proofs.Found.{FindsFrom}
use Rattle.turn_rule.proofs.worth.best_at.Given as goal

-- the best of the plays so far
abbrev pub invariant-loop-i : goal.invariant-loop-i
invariant-loop-i g l =
    let s = (g.P.Pairs.seen l.fn.pairs).source in
    record {
      source : (g.P.Pairs.seen l.pairs).source ≡ s;
      stays : g.P.Pairs.stays l.pairs ≡ g.P.Pairs.stays l.fn.pairs;
      found : FindsFrom l.end s (g.P.Pairs.seen l.fn.pairs).notes (g.P.Pairs.seen l.pairs).notes (g.P.Pairs.seen l.fn.pairs).faults (g.P.Pairs.seen l.pairs).faults (MeetsOnEnds l.kind.next l.ends s) (MayFollowEnds l.kind.next (take l.i l.ends)) s.bound (λ (u : Words). greatest (worth l.end l.kind u) (take l.i l.ends)) (Ok l.best);
    }
