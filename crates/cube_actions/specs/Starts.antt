-- What the first scores of a match are worth at the start of a game.
use Rattle.std.specs.Prelude.{◌≤◌, ◌<◌, ℕ, List, All, length, slice_index_or}
use Rattle.std.specs.List.{position_or_len}
use Rattle.directed_fixed.specs.Bounds.{Bounds, IsWithin}
use Rattle.cube_actions.specs.Stakes.{nothing, point_units}
use Rattle.cube_actions.specs.Scores.{MatchScore, same_score}
use Rattle.cube_actions.specs.Ladder.{ladder}

-- a match's length, and for the first scores of its ladder what the near side has of them
pub record StartPairs : Type 0 where
  pub match_length : ℕ
  pub pairs : List Bounds

-- one to five points, at most a pair for each score, and no pair is past the value of the match
pub record AreStarts (starts : StartPairs) : Type 0 where
  pub from : 1 ≤ starts.match_length
  pub to : starts.match_length ≤ 5
  pub room : length starts.pairs ≤ length (ladder starts.match_length)
  pub within : All (IsWithin (point_units 1)) starts.pairs

-- how many scores stand before this one in the ladder of a match, or all if it isn't there
abbrev pub ladder_place : ℕ → MatchScore → ℕ
ladder_place match_length score = position_or_len (same_score score) (ladder match_length)

-- the score is one of the match, and the pairs of all scores before it are held
pub record Covers (starts : StartPairs) (score : MatchScore) : Type 0 where
  pub listed : ladder_place starts.match_length score < length (ladder starts.match_length)
  pub held : ladder_place starts.match_length score ≤ length starts.pairs

-- what the near side of a score has
abbrev pub start_pair : StartPairs → MatchScore → Bounds
start_pair starts score =
    slice_index_or starts.pairs (ladder_place starts.match_length score) nothing
