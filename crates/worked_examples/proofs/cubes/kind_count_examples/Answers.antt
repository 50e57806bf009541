use Rattle.std.proofs.Common.{refl}
use Rattle.cube_actions.specs.MatchKinds.{match_kinds}
use Rattle.worked_examples.proofs.cubes.kind_count_examples.Goals as goal

pub returns : goal.returns
unfolding match_kinds
returns c = record { last_game = refl; crawford = λ _. refl; after_crawford = refl; two_each = refl; five_each = refl }
