-- How the games of a match are scored exactly, where each is cut off after so many turns: by the starts of the games that a win leads to.
-- All are whole numbers over one scale.
use Rattle.std.specs.Prelude.{◌≡◌, ℕ, ◌-◌, ◌*◌, ◌^◌, nat_le, ℤ, pos, neg_ℤ, ◌*ℤ◌, [], None, slice_index_or, if◌then◌else◌}
use Rattle.move_rules.specs.declared.payoff.Won.{Won}
use Rattle.move_rules.specs.declared.payoff.Won.TheVariants.{Single, Gammon, Backgammon}
use Rattle.cube_actions.specs.declared.phase.Phase.{Phase}
use Rattle.cube_actions.specs.declared.side.Side.{Side}
use Rattle.cube_actions.specs.declared.side.Side.TheVariants.{Near}
use Rattle.cube_actions.specs.Scores.{MatchScore, needs, other_side}
use Rattle.cube_actions.specs.Stakes.{Terms}
use Rattle.cube_actions.specs.MatchKinds.{match_kinds}
use Rattle.cube_actions.specs.Matches.{next_score, stays_near, terms_of}
use Rattle.turn_rule.specs.Exact.{Scoring, Values, exact}
use Rattle.match_scores.specs.Openings.{thirty_starts}

-- ---- one game

-- what the near side has of the game at each score, over some scale
abbrev pub ExactStarts : Type 0
ExactStarts = MatchScore → ℤ

-- what the winner of a game has of the next one, by what the two sides then need
abbrev pub exact_next : ExactStarts → Phase → Side → ℕ → ℕ → ℤ
exact_next starts phase winner own others =
    if stays_near winner own others then starts (next_score phase own others)
    else neg_ℤ (starts (next_score phase own others))

-- what a side has of winning so many points: the whole match where it needs no more, else what it has of the next game
abbrev pub exact_win : ℕ → ExactStarts → MatchScore → Side → ℕ → ℤ
exact_win scale starts score winner won =
    if nat_le (needs score winner) won then pos scale
    else exact_next starts score.phase winner (needs score winner - won)
    (needs score (other_side winner))

-- how often a win counts what the cube shows
abbrev pub times_of : Won → ℕ
times_of Single = 1
times_of Gammon = 2
times_of Backgammon = 3

-- who moves in the kind of this number, and what the cube shows
abbrev pub mover_in : MatchScore → ℕ → Side
mover_in score k =
    (slice_index_or (match_kinds score) k (record { mover = Near; cube = 1; owner = None })).mover

abbrev pub cube_in : MatchScore → ℕ → ℕ
cube_in score k =
    (slice_index_or (match_kinds score) k (record { mover = Near; cube = 1; owner = None })).cube

-- how the game at a score is scored: a win and a pass as the points that they win, an unfinished end as it is given
abbrev pub scored_by : ℕ → ExactStarts → MatchScore → Values → Scoring
scored_by scale starts score unfinished = record {
  scale = scale;
  win = λ k won. exact_win scale starts score (mover_in score k) (times_of won * cube_in score k);
  pass = λ k. exact_win scale starts score (mover_in score k) (cube_in score k);
  unfinished = unfinished;
}

-- The kinds of the game at a score and the right to double. What the games after it are worth isn't asked of these.
abbrev pub cube_game : MatchScore → Terms
cube_game score = terms_of score (record { match_length = 1; pairs = [] })

-- what the near side has of the game at a score that is scored so: the mean over its 30 openings, as their sum over 30 times as much
abbrev pub start_scored : ℕ → ℕ → MatchScore → Scoring → ℤ
start_scored checkers turns score scoring =
    thirty_starts checkers (exact (cube_game score) scoring turns) score

-- ---- the whole match

-- what each state of each score is worth to the side to move where the game is cut off
abbrev pub EndScores : Type 0
EndScores = MatchScore → Values

-- the same over so many times the scale
abbrev pub ends_over : ℕ → EndScores → EndScores
ends_over times ends score p k = pos times *ℤ ends score p k

-- a match that is scored exactly: after how many turns its games are cut off, and over one scale their end scores and the starts of all scores
pub record ScoredMatch : Type 0 where
  pub turns : ℕ
  pub scale : ℕ
  pub ends : EndScores
  pub starts : ExactStarts

-- how the game at a score is scored: its payoffs are the starts of the scores that a win leads to
abbrev pub match_scoring : ScoredMatch → MatchScore → Scoring
match_scoring scored score = scored_by scored.scale scored.starts score (scored.ends score)

-- The start of a score is the mean of its game over the 30 openings, and over the 36 rolls of each turn: so many times the start is their sum.
abbrev pub IsMeanStart : ℕ → ScoredMatch → MatchScore → Type 0
IsMeanStart checkers scored score =
    pos (30 * 36 ^ scored.turns) *ℤ scored.starts score
    ≡ start_scored checkers scored.turns score (match_scoring scored score)
