use Rattle.std.proofs.Common.{◌≡◌, ◌≤ℤ◌, take, pos, ◌*ℤ◌, Ok}
use Rattle.position_rank.specs.Placement.{Placement}
use Rattle.turn_rule.specs.Looks.{Source, Notes, AreStakesOf}
use Rattle.turn_rule.specs.Found.{MayFollowAnswer, AreFoundSums}
use Rattle.turn_rule.proofs.Found.{FindsFrom}
use Rattle.turn_rule.proofs.Values.{least_of}
use Rattle.turn_rule.proofs.from_sums.doubled_from.Given as goal

-- the least of the pass and the answers so far
abbrev pub invariant-loop-taken : goal.invariant-loop-taken
invariant-loop-taken l =
    record {
      answers : l.taken-items ≡ l.double.answers.items;
      found : (s : Source) (noted : Notes) (p : Placement) → AreStakesOf s l.stakes → AreFoundSums l.end s noted l.stakes p l.sums
          → FindsFrom l.end s noted noted 0 0 (λ damage. ⊥) (MayFollowAnswer l.stakes p (take l.taken-index l.double.answers.items)) (pos 4 *ℤ s.bound) (least_of l.end l.stakes p l.double (take l.taken-index l.double.answers.items)) (Ok l.least);
      most : l.least ≤ℤ l.stakes.bound;
    }
