-- A match's plan: for each of its scores and each side a take point and a gammon price, and their text. They are for a game with the cube at 1
-- that isn't turned again.
use Rattle.std.specs.Prelude.{ℕ, Bool, List, ◌++◌, codes, Option, Some, None, if◌then◌else◌}
use Rattle.std.specs.List.{flat_map}
use Rattle.directed_fixed.specs.Bounds.{Bounds, negated}
use Rattle.point_text.specs.Decimal.{millionths_down, millionths_up, millionths_text, size_text}
use Rattle.cube_actions.specs.declared.side.Side.{Side}
use Rattle.cube_actions.specs.declared.side.Side.TheVariants.{Near, Far}
use Rattle.cube_actions.specs.Scores.{MatchScore, other_side}
use Rattle.cube_text.specs.Texts.{score_text, side_text}
use Rattle.cube_actions.specs.Ladder.{ladder}
use Rattle.cube_actions.specs.Starts.{StartPairs, start_pair}
use Rattle.cube_actions.specs.Matches.{value_of_win}
use Rattle.cube_actions.specs.MatchKinds.{kind_may_double}
use Rattle.match_plan.specs.declared.millionths.Millionths.{Millionths}
use Rattle.match_plan.specs.Points.{take_point, gammon_price}

-- ---- take points and gammon prices of a score

-- the value for a side of losing so many points
abbrev pub value_of_loss : StartPairs → MatchScore → Side → ℕ → Bounds
value_of_loss starts score side lost = negated (value_of_win starts score (other_side side) lost)

-- the number of the kind in which a side is to roll with the cube centred
abbrev pub centred_kind : Side → ℕ
centred_kind Near = 0
centred_kind Far = 1

-- the other side may turn the centred cube to 2
abbrev pub can_be_doubled : MatchScore → Side → Bool
can_be_doubled score side =
    kind_may_double score (record { mover = other_side side; cube = 1; owner = None })

-- the take point of a side that is doubled from 1 to 2: a pass loses one point, and after a take two are lost or won
abbrev pub take_point_at : StartPairs → MatchScore → Side → Option Millionths
take_point_at starts score side =
    take_point (value_of_loss starts score side 2) (value_of_loss starts score side 1)
    (value_of_win starts score side 2)

-- the gammon price of a side with the cube at 1: a gammon wins two points, a single win one, and a loss loses one
abbrev pub gammon_price_at : StartPairs → MatchScore → Side → Option Millionths
gammon_price_at starts score side =
    gammon_price (value_of_loss starts score side 1) (value_of_win starts score side 1)
    (value_of_win starts score side 2)

-- ---- the text

-- both ends with six decimals, or that it isn't known
abbrev pub share_text : Option Millionths → List ℕ
share_text (Some found) = size_text found.low ++ codes " " ++ size_text found.high
share_text None = codes "open"

-- a take point, where the side can be doubled
abbrev pub take_text : StartPairs → MatchScore → Side → List ℕ
take_text starts score side = if can_be_doubled score side
    then share_text (take_point_at starts score side)
    else codes "none"

-- what a side has at a score
abbrev pub side_line : StartPairs → MatchScore → Side → List ℕ
side_line starts score side =
    score_text score ++ codes " " ++ side_text side ++ codes " take " ++ take_text starts score side
    ++ codes " price "
    ++ share_text (gammon_price_at starts score side) ++ codes "\n"

-- what the near side has of a game at a score, in matches, the lower end rounded down and the upper end up
abbrev pub start_line : MatchScore → Bounds → List ℕ
start_line score start =
    score_text score ++ codes " start " ++ millionths_text (millionths_down start.lower)
    ++ codes " " ++ millionths_text (millionths_up start.upper)
    ++ codes "\n"

-- the three lines of a score
abbrev pub score_lines : StartPairs → MatchScore → List ℕ
score_lines starts score = start_line score (start_pair starts score) ++ side_line starts score Near
    ++ side_line starts score Far

-- the plan of a match, score by score in the order of its ladder
abbrev pub plan_text : StartPairs → List ℕ
plan_text starts = flat_map (score_lines starts) (ladder starts.match_length)
