use Rattle.std.proofs.Common.{refl}
use Rattle.cube_actions.specs.Ladder.{in_order, ladder}
use Rattle.cube_actions.specs.MatchKinds.{match_kinds}
use Rattle.worked_examples.proofs.cubes.match_examples.Goals as goal

pub returns : goal.returns
unfolding ladder in_order match_kinds
returns c = record { one_and_two = λ one_each. refl; two_and_three = λ p q a b c. refl }
