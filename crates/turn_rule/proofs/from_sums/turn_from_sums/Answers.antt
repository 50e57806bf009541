use Rattle.std.proofs.Common.{◌≡◌, ◌≤ℤ◌, ◌*ℤ◌, pos, None, Some}
use Rattle.cube_actions.specs.Stakes.{kind_at}
use Rattle.turn_rule.specs.Turn.{Words, doubled}
use Rattle.turn_rule.specs.Found.{MayFollowAnswer}
use Rattle.turn_rule.proofs.Values.{rolled-sum, found-looked, turn-plain, turn-doubled}
use Rattle.turn_rule.proofs.from_sums.turn_from_sums.Goals as goal

pub returns-in-None : goal.returns-in-None
returns-in-None c = record {
  found = λ s noted p fits found.
      let stakes = c.args.stakes.now in
      let k = c.args.kind in
      let none : (kind_at stakes k).double ≡ None = rw (← c.kind.ensures.kind) c.in-None.is in
      let plain = rolled-sum (λ damage. ⊥) c.args.end s noted stakes p c.args.sums.now k 1 c.index-sums-kind.result c.mean_of-plain.result found c.requires.many c.requires.kind c.index-sums-kind.is c.mean_of-plain.ensures in
      (turn-plain c.args.end s stakes p k (λ damage. ⊥) noted noted 0 0 c.mean_of-plain.result none plain).answer;
}

pub returns-in-Some : goal.returns-in-Some
returns-in-Some c = record {
  found = λ s noted p fits found.
      let stakes = c.args.stakes.now in
      let k = c.args.kind in
      let double = c.in-Some.double in
      let some : (kind_at stakes k).double ≡ Some double = rw (← c.kind.ensures.kind) c.in-Some.is in
      let plain = rolled-sum (λ damage. ⊥) c.args.end s noted stakes p c.args.sums.now k 1 c.index-sums-kind.result c.mean_of-plain.result found c.requires.many c.requires.kind c.index-sums-kind.is c.mean_of-plain.ensures in
      let most : c.doubled_from.result ≤ℤ s.bound = rw fits.bound c.doubled_from.ensures.most in
      let taken = found-looked (λ damage. ⊥) c.args.end s noted (MayFollowAnswer stakes p double.answers.items) (pos 4 *ℤ s.bound) (λ (n : Words). doubled c.args.end stakes n p double) c.doubled_from.result (c.doubled_from.ensures.found s noted p fits found) in
      (turn-doubled c.args.end s stakes p k (λ damage. ⊥) noted noted noted 0 0 0 double c.mean_of-plain.result c.doubled_from.result _ some c.max.ensures most plain taken).answer;
}
