-- The damage that is met first where it is sought what a choice loses.
use Rattle.std.proofs.Common.{ℕ}
use Rattle.position_rank.specs.Placement.{Placement}
use Rattle.cube_actions.specs.Stakes.{Terms}
use Rattle.turn_rule.specs.declared.choice.Choice.{Choice}
use Rattle.turn_rule.specs.declared.choice.Choice.TheVariants.{Played, Offered, Answered}
use Rattle.turn_rule.specs.Looks.{Source, Damage, HasDamage}
use Rattle.turn_rule.proofs.MetFirst.{met-on_roll, met-on_turn}
use Rattle.play_analyser.specs.Sought.{MayFollowChoice, MeetsOnChoice}

-- it is a damage of a state on which the loss rests
pub met-on_choice : (s : Source) (damage : Damage) (stakes : Terms) (p : Placement) (k : ℕ) (choice : Choice) → MeetsOnChoice stakes p k choice s damage → HasDamage s (MayFollowChoice stakes p k choice) damage
met-on_choice s damage stakes p k (Played roll end) met = met-on_roll s damage stakes p k roll met
met-on_choice s damage stakes p k (Offered offer) met = met-on_turn s damage stakes p k met
met-on_choice s damage stakes p k (Answered answer) met = met-on_turn s damage stakes p k met
