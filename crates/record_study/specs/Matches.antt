-- What the decisions of a recorded match lose: with the payoffs of the match, each game's by what its score is played for.
use Rattle.std.specs.Prelude.{◌≡◌, ◌≤◌, ℕ, List, length, All, IfSome, None, map}
use Rattle.std.specs.Option.{option_map}
use Rattle.directed_fixed.specs.Bounds.{Bounds}
use Rattle.cube_actions.specs.Ladder.{ladder}
use Rattle.cube_actions.specs.Matches.{terms_of}
use Rattle.cube_actions.specs.Scores.{MatchScore}
use Rattle.cube_actions.specs.Stakes.{Terms}
use Rattle.cube_actions.specs.Starts.{StartPairs, ladder_place}
use Rattle.game_record.specs.declared.decision.Decision.{Decision}
use Rattle.turn_rule.specs.Turn.{rounds}
use Rattle.interval_words.specs.WordLists.{WordList}
use Rattle.match_scores.specs.Ladders.{EncloseStarts, IsScoredMatch, IsSolved, plain_starts}
use Rattle.match_scores.specs.Payoffs.{ScoredMatch, cube_game, match_scoring}
use Rattle.record_analysis.specs.Analyses.{lost}
use Rattle.record_analysis.specs.Truth.{EnclosesLoss, IsNoLooserAnalysis}
use Rattle.record_analysis.specs.declared.analysis.Judged.{Judged}
use Rattle.record_study.specs.Keeping.{IsBestByScore}

-- A pair encloses what a decision of a game at a score loses exactly with the payoffs of the match, where so many turns follow the decision.
abbrev pub EnclosesLossAt : ScoredMatch → ℕ → Decision → Bounds → MatchScore → Type 0
EnclosesLossAt scored left decision pair score =
    EnclosesLoss (cube_game score) (match_scoring scored score) left decision pair

-- each pair of the decisions of a match does, with the score of its own game
abbrev pub EncloseMatchLosses : ScoredMatch → ℕ → List Judged → Type 0
EncloseMatchLosses scored left list =
    All (λ judged. IfSome judged.decision.score (λ score.
    IfSome judged.loss (λ pair. EnclosesLossAt scored left judged.decision pair score))) list

-- The analysis of a match is true where from some number of turns on, one for all its decisions, each pair encloses what its decision loses exactly with
-- the payoffs of the match, however many turns are left after the decision in its own game, and however many each game after it has.
abbrev pub IsTrueMatch : ℕ → List Judged → Type 0
IsTrueMatch checkers list =
    (enough : ℕ)
    × ((scored : ScoredMatch) → IsScoredMatch checkers scored → enough ≤ scored.turns
    → (left : ℕ) → enough ≤ left → EncloseMatchLosses scored left list)

-- from some number of turns on, however the match is scored, start pairs enclose the exact starts of their scores
abbrev pub AreTrueStarts : ℕ → StartPairs → Type 0
AreTrueStarts checkers starts =
    (enough : ℕ)
    × ((scored : ScoredMatch) → IsScoredMatch checkers scored → enough ≤ scored.turns
    → EncloseStarts scored starts)

-- the stakes of the plain starts at a score
abbrev pub plain_terms : ℕ → ℕ → ℕ → MatchScore → Terms
plain_terms checkers r match_length score =
    terms_of score (plain_starts checkers r match_length (ladder_place match_length score))

-- a decision with what it loses over so many rounds for the stakes of the plain starts, at the score of its game, without what was best
abbrev pub judged_plainly : ℕ → ℕ → ℕ → Decision → Judged
judged_plainly checkers r match_length decision = record {
  decision = decision;
  loss =
      option_map (λ (score : MatchScore).
      lost (plain_terms checkers r match_length score)
      (rounds (plain_terms checkers r match_length score) r) decision) decision.score;
  best = None;
}

-- What was best at each decision of a match is so over the words of its score, where all scores were solved by so many rounds.
pub record AreBestInMatch (checkers match_length r : ℕ) (list : List Judged) : Type 0 where
  pub starts : StartPairs
  pub of_length : starts.match_length ≡ match_length
  pub whole : length starts.pairs ≡ length (ladder match_length)
  pub words : ℕ → WordList
  pub solved : IsSolved checkers r starts words
  pub best : All (IsBestByScore starts words) list

-- The decisions of a match were studied: from some number of turns on, one for the whole match, each pair encloses what its decision loses exactly
-- with the payoffs of the match; each is at least as tight as over so many rounds for the stakes of the plain starts; and what is told as best is
-- best over words of so many rounds.
pub record AreStudiedInMatch (checkers match_length r : ℕ) (decisions : List Decision)
    (list : List Judged) : Type 0 where
  pub true : IsTrueMatch checkers list
  pub tight : IsNoLooserAnalysis list (map (judged_plainly checkers r match_length) decisions)
  pub best : AreBestInMatch checkers match_length r list
