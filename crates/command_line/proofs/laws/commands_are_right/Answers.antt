use Rattle.command_line.proofs.Rightness.{reading-right}
use Rattle.command_line.proofs.laws.commands_are_right.Goals as goal

pub returns : goal.returns
returns c = reading-right
