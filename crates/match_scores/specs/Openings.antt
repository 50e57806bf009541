-- What a game of a match is worth before its first play, seen from the near side. At the opening each side rolls one die, and equal dice are
-- rolled again. The side with the higher die plays both numbers. So there are 30 openings as likely as each other: each of 15 rolls for each side.
use Rattle.std.specs.Prelude.{ℕ, ℤ, pos, negsuc, neg_ℤ, ◌-ℤ◌, ◌/◌, List, map, None}
use Rattle.position_rank.specs.Placement.{Placement, swap}
use Rattle.position_rank.specs.Packed.{start_placement}
use Rattle.roll_table.specs.Rolls.{Dice, opening_rolls}
use Rattle.directed_fixed.specs.declared.bounds.End.{End}
use Rattle.directed_fixed.specs.declared.bounds.End.TheVariants.{Lower, Upper}
use Rattle.directed_fixed.specs.Bounds.{Bounds, other}
use Rattle.cube_actions.specs.declared.side.Side.{Side}
use Rattle.cube_actions.specs.declared.side.Side.TheVariants.{Near, Far}
use Rattle.cube_actions.specs.Scores.{MatchScore, other_side}
use Rattle.cube_actions.specs.MatchKinds.{number_in}
use Rattle.turn_rule.specs.Turn.{Words, sum_over}
use Rattle.turn_rule.specs.Exact.{Values}

-- each opening roll once
abbrev pub openings : List (Dice × ℕ)
openings = map (λ (roll : Dice). (roll, 1)) opening_rolls

-- the kind in which a side is to roll with the cube centred
abbrev pub centred_in : MatchScore → Side → ℕ
centred_in score side = number_in score (record { mover = side; cube = 1; owner = None })

-- What a side has after its opening play: what the other side hasn't, which rolls next with the cube centred. No opening play ends a game.
abbrev pub opening_worth : Values → MatchScore → Side → Placement → ℤ
opening_worth values score side end = neg_ℤ (values (swap end) (centred_in score (other_side side)))

-- over the 15 rolls, the sum of what the best opening plays of a side are worth
abbrev pub opened_by : Side → ℕ → Values → MatchScore → ℤ
opened_by side checkers values score =
    sum_over openings (opening_worth values score side) (start_placement checkers)

-- What the near side has of a game, 30 times: what it has where it opens, less what the far side has where that opens.
abbrev pub thirty_starts : ℕ → Values → MatchScore → ℤ
thirty_starts checkers values score =
    opened_by Near checkers values score -ℤ opened_by Far checkers values score

-- The same from words, at one end. What the near side has at least is what the far side hasn't at most, and so on.
abbrev pub directed_thirty : End → ℕ → Words → MatchScore → ℤ
directed_thirty end checkers u score =
    opened_by Near checkers (u (other end)) score -ℤ opened_by Far checkers (u end) score

-- the greatest whole number that isn't above a 30th, and the least that isn't below it
abbrev pub floor_30 : ℤ → ℤ
floor_30 (pos n) = pos (n / 30)
floor_30 (negsuc n) = negsuc (n / 30)

abbrev pub ceil_30 : ℤ → ℤ
ceil_30 z = neg_ℤ (floor_30 (neg_ℤ z))

-- a 30th, rounded to a lower bound or to an upper bound
abbrev pub outwards_30 : End → ℤ → ℤ
outwards_30 Lower = floor_30
outwards_30 Upper = ceil_30

-- one end of what the near side has of the game at a score, over words of its states
abbrev pub start_at : End → ℕ → Words → MatchScore → ℤ
start_at end checkers u score = outwards_30 end (directed_thirty end checkers u score)

-- both ends
abbrev pub start_over : ℕ → Words → MatchScore → Bounds
start_over checkers u score = record {
  lower = start_at Lower checkers u score;
  upper = start_at Upper checkers u score;
}
