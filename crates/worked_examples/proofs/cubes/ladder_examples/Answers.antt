use Rattle.std.proofs.Common.{refl}
use Rattle.cube_actions.specs.Ladder.{in_order, ladder}
use Rattle.worked_examples.proofs.cubes.ladder_examples.Goals as goal

pub returns : goal.returns
unfolding ladder in_order
returns c = record { three = refl; one = refl; two = refl; four = refl; five = refl }
