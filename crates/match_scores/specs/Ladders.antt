-- The ladder of a match, solved score by score: each score's words are of the game for the starts of the scores before it.
use Rattle.std.specs.Prelude.{◌≡◌, ◌≤◌, ◌<◌, ◌*◌, ◌++◌, ℕ, zero, suc, pos, [], ◌∷◌, length, slice_index_or, take}
use Rattle.position_rank.specs.Placement.{Placement}
use Rattle.directed_fixed.specs.Bounds.{Bounds, AreNoLooserPairs, IsWithinUnits}
use Rattle.cube_actions.specs.Scores.{MatchScore, IsScore, last_game}
use Rattle.cube_actions.specs.Ladder.{ladder}
use Rattle.cube_actions.specs.Stakes.{nothing}
use Rattle.cube_actions.specs.Starts.{StartPairs}
use Rattle.cube_actions.specs.Matches.{terms_of}
use Rattle.cube_actions.specs.MatchKinds.{match_kinds}
use Rattle.turn_rule.specs.declared.game.Game.{Game}
use Rattle.turn_rule.specs.Games.{IsGame, game_of}
use Rattle.turn_rule.specs.Turn.{rounds}
use Rattle.turn_rule.specs.States.{IsStateOf, AreNoLooser}
use Rattle.turn_rule.specs.Truth.{Encloses, AreEnclosing}
use Rattle.interval_words.specs.WordLists.{WordList, AreClosed, words_in_list}
use Rattle.match_scores.specs.Openings.{start_over}
use Rattle.match_scores.specs.Payoffs.{EndScores, ExactStarts, ScoredMatch, IsMeanStart, ends_over, match_scoring}

-- ---- places of the ladder

-- the score at this place of a match's ladder
abbrev pub score_at : ℕ → ℕ → MatchScore
score_at match_length place = slice_index_or (ladder match_length) place last_game

-- the start pair at this place
abbrev pub start_pair_at : StartPairs → ℕ → Bounds
start_pair_at starts place = slice_index_or starts.pairs place nothing

-- the start pairs of the scores before this place
abbrev pub starts_till : StartPairs → ℕ → StartPairs
starts_till starts place = record starts { pairs = take place starts.pairs }

-- the starts with one pair more
abbrev pub with_pair : StartPairs → Bounds → StartPairs
with_pair starts pair = record starts { pairs = starts.pairs ++ pair ∷ [] }

-- the game at a score, given what the scores after it in the match are worth
abbrev pub game_at_score : ℕ → MatchScore → StartPairs → Game
game_at_score checkers score starts = game_of checkers (terms_of score starts)

-- ---- what is true of it

-- in each state of each score a game that is cut off is worth at most the match, to either side
abbrev pub AreEndScores : ℕ → ℕ → EndScores → Type 0
AreEndScores checkers scale ends =
    (score : MatchScore) → IsScore score → (p : Placement) (k : ℕ)
    → IsStateOf checkers (length (match_kinds score)) p k
    → IsWithinUnits (pos scale) (ends score p k)

-- these are end scores of a match, and its starts: each is the mean of the game whose payoffs are the starts of the scores that a win leads to
pub record IsScoredMatch (checkers : ℕ) (scored : ScoredMatch) : Type 0 where
  pub scale : 0 < scored.scale
  pub ends : AreEndScores checkers scored.scale scored.ends
  pub starts : (score : MatchScore) → IsScore score → IsMeanStart checkers scored score

-- a match has exact starts, over some times the scale of its end scores,
abbrev pub HasExactStarts : ℕ → ℕ → ℕ → EndScores → Type 0
HasExactStarts checkers turns scale ends =
    (times : ℕ) × (starts : ExactStarts)
    × IsScoredMatch checkers (record {
      turns = turns;
      scale = scale * times;
      ends = ends_over times ends;
      starts = starts;
    })

-- and it has no others
abbrev pub HasNoOtherStarts : ℕ → ScoredMatch → Type 0
HasNoOtherStarts checkers scored =
    (starts : ExactStarts) → IsScoredMatch checkers (record scored { starts = starts })
    → (score : MatchScore) → IsScore score → starts score ≡ scored.starts score

-- the start pair at a place encloses the start of its score
abbrev pub EnclosesStart : ScoredMatch → StartPairs → ℕ → Type 0
EnclosesStart scored starts place =
    Encloses (start_pair_at starts place) (scored.starts (score_at starts.match_length place))
    scored.scale

-- each start pair that is held encloses the start of its score
abbrev pub EncloseStarts : ScoredMatch → StartPairs → Type 0
EncloseStarts scored starts =
    (place : ℕ) → place < length starts.pairs → EnclosesStart scored starts place

-- the words of the score at a place enclose its game with the exact payoffs of the match
abbrev pub EnclosesGame : ScoredMatch → StartPairs → ℕ → WordList → Type 0
EnclosesGame scored starts place words =
    AreEnclosing words.game (match_scoring scored (score_at starts.match_length place))
    scored.turns (words_in_list words)

-- ---- how it is solved

-- these are words of the game at a score, closed after so many rounds
pub record AreWordsAt (checkers r : ℕ) (score : MatchScore) (starts : StartPairs)
    (words : WordList) : Type 0 where
  pub game : words.game ≡ game_at_score checkers score starts
  pub valid : IsGame words.game
  pub rounds : words.rounds ≡ r
  pub closed : AreClosed words

-- the start pair at a place is that of these words of its score
pub record IsSolvedAt (checkers r : ℕ) (starts : StartPairs) (place : ℕ)
    (words : WordList) : Type 0 where
  pub closed : AreWordsAt checkers r (score_at starts.match_length place) (starts_till starts place)
      words
  pub start : start_pair_at starts place
      ≡ start_over checkers (words_in_list words) (score_at starts.match_length place)

-- each start pair that is held is that of words of its score
abbrev pub IsSolved : ℕ → ℕ → StartPairs → (ℕ → WordList) → Type 0
IsSolved checkers r starts words =
    (place : ℕ) → place < length starts.pairs → IsSolvedAt checkers r starts place (words place)

-- From so many turns on, one number for the whole ladder, and however the match is scored, the words of each score enclose its game, and each
-- start pair encloses the start of its score.
abbrev pub IsTrueFrom : ℕ → ℕ → StartPairs → (ℕ → WordList) → Type 0
IsTrueFrom enough checkers starts words =
    (scored : ScoredMatch) → IsScoredMatch checkers scored → enough ≤ scored.turns
    → (place : ℕ) → place < length starts.pairs
    → EnclosesGame scored starts place (words place) × EnclosesStart scored starts place

-- ---- how tight it is

-- The plain starts of the first so many scores: score by score in the order of the ladder, each from the words after so many rounds for the
-- stakes that the plain starts before it give.
abbrev pub plain_starts : ℕ → ℕ → ℕ → ℕ → StartPairs
plain_starts checkers r match_length zero = record { match_length = match_length; pairs = [] }
plain_starts checkers r match_length (suc place) =
    let before = plain_starts checkers r match_length place in
    let score = score_at match_length place in
    with_pair before (start_over checkers (rounds (terms_of score before) r) score)

-- each start pair is at least as tight as the plain one, and the words of each score as those after the rounds for the stakes of the plain starts
pub record IsTightAt (checkers r : ℕ) (starts : StartPairs) (place : ℕ)
    (words : WordList) : Type 0 where
  pub start : AreNoLooserPairs (start_pair_at starts place)
      (start_pair_at (plain_starts checkers r starts.match_length (suc place)) place)
  pub states :
      AreNoLooser words.game (words_in_list words)
      (rounds (terms_of (score_at starts.match_length place)
      (plain_starts checkers r starts.match_length place)) r)

-- the ladder as far as start pairs are held, with the words of each of its scores
pub record IsLadder (checkers r : ℕ) (starts : StartPairs) (words : ℕ → WordList) : Type 0 where
  pub solved : IsSolved checkers r starts words
  pub true_from : (enough : ℕ) × IsTrueFrom enough checkers starts words
  pub tight : (place : ℕ) → place < length starts.pairs
      → IsTightAt checkers r starts place (words place)
