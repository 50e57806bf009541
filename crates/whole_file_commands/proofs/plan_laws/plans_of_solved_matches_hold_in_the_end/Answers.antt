use Rattle.whole_file_commands.proofs.PlanLaws.{planned-hold}
use Rattle.whole_file_commands.proofs.plan_laws.plans_of_solved_matches_hold_in_the_end.Goals as goal

pub returns : goal.returns
returns c = λ base starts words some few ends.
    planned-hold base starts words some few ends c.wins_lead_down_the_ladder.ensures
