use Rattle.std.proofs.Common.{add-one}
use Rattle.turn_rule.proofs.Enclosing.{turn-encloses}
use Rattle.turn_rule.proofs.exact_laws.turns_enclose_one_turn_more.Goals as goal

pub returns : goal.returns
returns c = λ game right scoring within turns u encloses.
    rw (add-one turns) (turn-encloses game scoring within.wins turns right.stakes within.passes u encloses)
