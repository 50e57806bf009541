-- By computation.
use Rattle.std.proofs.Common.{refl}
use Rattle.std.specs.Fmt.{digits}
use Rattle.position_rank.specs.Packed.{counts_of}
use Rattle.move_rules.specs.Ends.{after_move}
use Rattle.worked_examples.proofs.moves.worked_texts.Goals as goal

pub returns-clause-no_moves : goal.returns-clause-no_moves
unfolding digits counts_of after_move
returns-clause-no_moves c = refl

pub returns-clause-hits_on_entering : goal.returns-clause-hits_on_entering
unfolding digits counts_of after_move
returns-clause-hits_on_entering c = refl

pub returns-clause-hits_with_the_second : goal.returns-clause-hits_with_the_second
unfolding digits counts_of after_move
returns-clause-hits_with_the_second c = refl

pub returns-clause-bears_off_from_below : goal.returns-clause-bears_off_from_below
unfolding digits counts_of after_move
returns-clause-bears_off_from_below c = refl
