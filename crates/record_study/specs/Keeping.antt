-- A keeper that judges the decisions of a recorded match, each when the score of its game is solved.
use Rattle.std.specs.Prelude.{◌≡◌, ◌<◌, ℕ, List, length, map, All, Some, None}
use Rattle.cube_actions.specs.Ladder.{IsOfMatch}
use Rattle.cube_actions.specs.Scores.{MatchScore}
use Rattle.cube_actions.specs.Starts.{StartPairs}
use Rattle.game_record.specs.declared.decision.Decision.{Decision}
use Rattle.turn_rule.specs.Games.{IsGame}
use Rattle.interval_words.specs.WordLists.{WordList, words_in_list}
use Rattle.match_scores.specs.Ladders.{IsSolved, game_at_score, score_at}
use Rattle.record_analysis.specs.Analyses.{IsBestFor, lost}
use Rattle.record_analysis.specs.Truth.{IsDecisionOf}
use Rattle.record_analysis.specs.declared.analysis.Judged.{Judged}

-- A decision of a match: the score of its game is one of the match, and it was made in a state of that game and could be made there, whatever the
-- scores after it are worth.
pub record IsDecisionInMatch (checkers match_length : ℕ) (decision : Decision) : Type 0 where
  pub score : MatchScore
  pub at : decision.score ≡ Some score
  pub of_match : IsOfMatch match_length score
  pub made : (starts : StartPairs) → IsGame (game_at_score checkers score starts)
      → IsDecisionOf (game_at_score checkers score starts) decision

-- What contracts see of such a keeper: the checkers and the rounds that it is for, the length of the match with the start pairs of the scores that it
-- has kept, and the decisions, each with the pair of what it loses, where that was judged.
pub record JudgedMatch : Type 0 where
  pub checkers : ℕ
  pub rounds : ℕ
  pub starts : StartPairs
  pub list : List Judged

-- this is the place of the score of a decision's game, among those that were kept
pub record IsKeptAt (starts : StartPairs) (decision : Decision) (place : ℕ) : Type 0 where
  pub kept : place < length starts.pairs
  pub score : decision.score ≡ Some (score_at starts.match_length place)

-- what was best at a decision whose score was kept is so over the words of that score
abbrev pub IsBestByScore : StartPairs → (ℕ → WordList) → Judged → Type 0
IsBestByScore starts words judged =
    (place : ℕ) → IsKeptAt starts judged.decision place
    → IsBestFor (words place).game.stakes (words_in_list (words place)) judged

-- a decision whose score was kept has what it loses, and what was best, by the words of that score, and no other was judged
pub record IsJudgedBy (starts : StartPairs) (words : ℕ → WordList) (judged : Judged) : Type 0 where
  pub kept :
      (place : ℕ) → IsKeptAt starts judged.decision place
      → judged.loss ≡ Some (lost (words place).game.stakes (words_in_list (words place))
      judged.decision)
  pub best : IsBestByScore starts words judged
  pub other : ((place : ℕ) → IsKeptAt starts judged.decision place → ⊥) → judged.loss ≡ None

-- All decisions are of the match. Each start pair that is held is that of words of its score, and by these the decisions at the scores so far were
-- judged.
pub record IsJudgedSoFar (judged : JudgedMatch) : Type 0 where
  pub decisions : All (λ (one : Judged). IsDecisionInMatch judged.checkers
      judged.starts.match_length one.decision) judged.list
  pub words : ℕ → WordList
  pub solved : IsSolved judged.checkers judged.rounds judged.starts words
  pub losses : All (IsJudgedBy judged.starts words) judged.list

-- the decisions, in their order
abbrev pub decisions_in : List Judged → List Decision
decisions_in list = map (λ (one : Judged). one.decision) list
