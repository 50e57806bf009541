-- By computation.
use Rattle.std.proofs.Common.{refl}
use Rattle.position_rank.specs.Packed.{counts_of}
use Rattle.position_rank.specs.Ranks.{choose, rising_places}
use Rattle.worked_examples.proofs.tables.table_examples.Goals as goal

pub returns-clause-one : goal.returns-clause-one
unfolding counts_of choose rising_places
returns-clause-one c = refl

pub returns-clause-two : goal.returns-clause-two
unfolding counts_of choose rising_places
returns-clause-two c = refl

pub returns-clause-three : goal.returns-clause-three
unfolding counts_of choose rising_places
returns-clause-three c = refl

pub returns-clause-one_kind : goal.returns-clause-one_kind
unfolding counts_of choose rising_places
returns-clause-one_kind c = refl

pub returns-clause-fourth_of_14_kinds : goal.returns-clause-fourth_of_14_kinds
unfolding counts_of choose rising_places
returns-clause-fourth_of_14_kinds c = refl
