use Rattle.cube_actions.specs.Ladder.{in_order, ladder}
use Rattle.cube_actions.proofs.score_order.scores_to_five.Goals as goal

pub returns : goal.returns
unfolding ladder in_order
returns c = cc
