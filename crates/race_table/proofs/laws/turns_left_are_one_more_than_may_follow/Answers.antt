use Rattle.race_table.proofs.Left.{left-is}
use Rattle.race_table.proofs.laws.turns_left_are_one_more_than_may_follow.Goals as goal

pub returns : goal.returns
returns c = left-is
