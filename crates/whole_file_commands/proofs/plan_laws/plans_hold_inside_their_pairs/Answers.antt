use Rattle.whole_file_commands.proofs.PlanLaws.{holds-inside}
use Rattle.whole_file_commands.proofs.plan_laws.plans_hold_inside_their_pairs.Goals as goal

pub returns : goal.returns
returns c = holds-inside
