use Rattle.cube_actions.proofs.NamesDistinct.{names_apart, names_right}
use Rattle.cube_actions.proofs.name_laws.names_tell_kinds.Goals as goal

pub returns : goal.returns
returns c = record { distinct = names_apart; kinds = names_right }
