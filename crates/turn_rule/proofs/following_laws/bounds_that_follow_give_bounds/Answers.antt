use Rattle.std.proofs.Common.{add-one}
use Rattle.turn_rule.proofs.Enclosing.{bound-roll, bound-turn}
use Rattle.turn_rule.proofs.following_laws.bounds_that_follow_give_bounds.Goals as goal

pub returns : goal.returns
returns c = record {
  rolling = λ game scoring wins turns later p k factor inside end u bounds.
      rw (add-one turns) (bound-roll game scoring wins turns end u later p k factor inside bounds);
  turn = λ game right scoring wins passes turns later p k inside end u bounds.
      rw (add-one turns) (bound-turn game scoring wins turns end u later p right.stakes passes k inside bounds);
}
