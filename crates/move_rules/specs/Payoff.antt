-- What a game that has ended is worth.
use Rattle.std.specs.Prelude.{Option, Some, None, sum, slice_index, nat_lt, if◌then◌else◌}
use Rattle.move_rules.specs.declared.payoff.Won.{Won}
use Rattle.move_rules.specs.declared.payoff.Won.TheVariants.{Single, Gammon, Backgammon}
use Rattle.position_rank.specs.Placement.{Placement, above}

-- After the mover's play: nothing while he has a checker that isn't off. A win is single if the other side has borne off a checker,
-- else a backgammon if one of its checkers stands in the winner's home or on the bar, else a gammon.
abbrev pub points : Placement → Option Won
points p =
    if nat_lt (slice_index p.mover 0) (sum p.mover) then None
    else if nat_lt 0 (slice_index p.other 0) then Some Single
    else if nat_lt 0 (above p.other 18) then Some Backgammon
    else Some Gammon
