use Rattle.std.proofs.Common.{◌-◌}
use Rattle.game_census.specs.Censuses.{AreCensuses}
use Rattle.game_census.proofs.cube.censuses_of.Given as goal

-- the positions before this one were added
abbrev pub invariant-loop-rank : goal.invariant-loop-rank
invariant-loop-rank l = AreCensuses l.fn.words l.kinds l.from (l.rank - l.from) l.censuses
