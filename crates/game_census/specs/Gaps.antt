-- How far apart two choices are, and the positions in which they are nearest.
use Rattle.std.specs.Prelude.{◌-ℤ◌, ℕ, max, unsigned_abs, nat_le, Option, Some, None, if◌then◌else◌}
use Rattle.directed_fixed.specs.Bounds.{Bounds}
use Rattle.play_analyser.specs.declared.advice.CubeAction.{CubeAction}
use Rattle.play_analyser.specs.Advice.{doubling_of}
use Rattle.game_census.specs.declared.gap.Gap.{Gap}
use Rattle.game_census.specs.declared.gap.Near.{Near}

-- how much more one choice leads to than another, at least and at most
abbrev pub gap_from : Bounds → Bounds → Gap
gap_from one another = record { low = one.lower -ℤ another.upper; up = one.upper -ℤ another.lower }

-- by how much two choices differ at most
abbrev pub farthest : Gap → ℕ
farthest gap = max (unsigned_abs gap.low) (unsigned_abs gap.up)

-- how much more a take gives the doubler than a pass
abbrev pub answer_gap : CubeAction → Gap
answer_gap action = gap_from action.take action.pass

-- how much more a double gives, as the other side answers it best, than rolling on
abbrev pub offer_gap : Bounds → CubeAction → Gap
offer_gap rolling action = gap_from (doubling_of action) rolling

-- the one found, unless the next is known to be nearer
abbrev pub nearest : Option Near → Near → Near
nearest None next = next
nearest (Some near) next = if nat_le (farthest near.gap) (farthest next.gap) then near else next
