use Rattle.std.proofs.Common.{arith}
use Rattle.std.proofs.lemmas.Int.{ints}
use Rattle.move_rules.specs.declared.payoff.Won.TheVariants.{Gammon}
use Rattle.turn_rule.proofs.Cubeless.{one_each, one_each-state}
use Rattle.worked_examples.proofs.exact.scoring_examples.Goals as goal

pub returns-clause-unfinished_beyond : goal.returns-clause-unfinished_beyond
returns-clause-unfinished_beyond c = λ within. let beyond = (within.unfinished one_each 0 one_each-state).upper in omega (arith, ints, beyond)

pub returns-clause-gammon_for_one : goal.returns-clause-gammon_for_one
returns-clause-gammon_for_one c = λ within. let short = (within.wins 0 Gammon (omega arith)).lower in omega (arith, ints, short)
