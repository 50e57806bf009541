use Rattle.std.proofs.Common.{◌≡◌, ◌≤ℤ◌, take, pos, ◌*ℤ◌, Ok}
use Rattle.turn_rule.specs.Looks.{MeetsOnAnswers}
use Rattle.turn_rule.specs.Found.{MayFollowAnswer}
use Rattle.turn_rule.proofs.Found.{FindsFrom}
use Rattle.turn_rule.proofs.Values.{least_of}
use Rattle.turn_rule.proofs.value.doubled_at.Given as goal

-- the least of the pass and the answers so far
abbrev pub invariant-loop-taken : goal.invariant-loop-taken
invariant-loop-taken g l =
    let s = (g.P.Pairs.seen l.fn.pairs).source in
    record {
      answers : l.taken-items ≡ l.double.answers.items;
      source : (g.P.Pairs.seen l.pairs).source ≡ s;
      stays : g.P.Pairs.stays l.pairs ≡ g.P.Pairs.stays l.fn.pairs;
      found : FindsFrom l.end s (g.P.Pairs.seen l.fn.pairs).notes (g.P.Pairs.seen l.pairs).notes (g.P.Pairs.seen l.fn.pairs).faults (g.P.Pairs.seen l.pairs).faults (MeetsOnAnswers l.stakes l.ends l.double.answers.items s) (MayFollowAnswer l.stakes l.ends (take l.taken-index l.double.answers.items)) (pos 4 *ℤ s.bound) (least_of l.end l.stakes l.ends l.double (take l.taken-index l.double.answers.items)) (Ok l.least);
      most : l.least ≤ℤ s.bound;
    }
