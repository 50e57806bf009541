-- What a match's plan rests on, and what is true of it.
use Rattle.std.specs.Prelude.{◌≡◌, ◌≤◌, ◌<◌, ◌-◌, ◌==◌, ℕ, ℤ, neg_ℤ, ◌-ℤ◌, List, Bool, Option, IfSome, Result, Ok, Err, length, if◌then◌else◌}
use Rattle.outside_log.specs.Sink.{Output}
use Rattle.cube_actions.specs.declared.name.StakesName.TheVariants.{Match}
use Rattle.cube_actions.specs.declared.phase.Phase.TheVariants.{Normal, Post}
use Rattle.cube_actions.specs.declared.side.Side.{Side}
use Rattle.cube_actions.specs.Ladder.{ladder}
use Rattle.cube_actions.specs.Matches.{after_win}
use Rattle.cube_actions.specs.Scores.{MatchScore, needs, other_side}
use Rattle.cube_actions.specs.Starts.{StartPairs, start_pair}
use Rattle.turn_rule.specs.Truth.{Encloses}
use Rattle.interval_words.specs.WordLists.{WordList, words_in_list}
use Rattle.match_scores.specs.Ladders.{IsLadder, IsScoredMatch, score_at, starts_till, with_pair}
use Rattle.match_scores.specs.Openings.{start_over}
use Rattle.match_scores.specs.Payoffs.{ExactStarts, ScoredMatch, exact_win}
use Rattle.match_plan.specs.Plans.{gammon_price_at, plan_text, take_point_at}
use Rattle.match_plan.specs.Quotients.{IsShare}
use Rattle.base_head.specs.Heads.{FileHead}
use Rattle.database_file.specs.Bases.{AnswersBase}
use Rattle.database_file.specs.FileBases.{FileBase}
use Rattle.database_file.specs.Faults.{Read as FileRead}
use Rattle.command_line.specs.declared.command.Plan.{Plan}
use Rattle.equity_report.specs.declared.refusal.Refusal.{Refusal}
use Rattle.equity_report.specs.declared.refusal.Refusal.TheVariants.{Base}
use Rattle.equity_report.specs.declared.refusal.Wanted.TheVariants.{Scored}
use Rattle.run_endings.specs.Scores.{score_file}
use Rattle.run_endings.specs.Loads.{OfFile, game_told}
use Rattle.run_endings.specs.Endings.{Ending, Tells}
use Rattle.run_endings.specs.Games.{RefusesLoadingFor}

-- ---- the file

-- the score at which a match begins: both sides need all its points
abbrev pub first_score : ℕ → MatchScore
first_score match_length = record {
  near = match_length;
  far = match_length;
  phase = if match_length == 1 then Post else Normal;
}

-- the name of the file of a match's first game, which is the last that solving the match writes
abbrev pub first_file : Plan → List ℕ
first_file task = score_file task.prefix (first_score task.match_length)

-- a head of the first game of a match to so many points
pub record IsOfFirstGame (match_length : ℕ) (head : FileHead) : Type 0 where
  pub name : head.name ≡ Match (first_score match_length)
  pub to : head.starts.match_length ≡ match_length

-- the start pairs of all scores of a match: those before its first game in the ladder, and what the words of that game say
abbrev pub planned_starts : FileBase → StartPairs
planned_starts base =
    with_pair base.head.starts
    (start_over base.head.checkers (words_in_list base.words)
    (first_score base.head.starts.match_length))

-- ---- what the plan is true of

-- what a side has exactly after it has lost so many points
abbrev pub exact_loss : ℕ → ExactStarts → MatchScore → Side → ℕ → ℤ
exact_loss scale starts score side lost =
    neg_ℤ (exact_win scale starts score (other_side side) lost)

-- What a plan tells of a side at a score holds for exact starts, which are whole numbers over a scale: where its take point is known, that encloses
-- (pass - lose) / (win - lose), where the cube at 2 and a pass at 1 count; and where its gammon price is known, that encloses
-- (gammon - win) / (win - lose), where the cube at 1 counts.
pub record HoldsAt (plan : StartPairs) (score : MatchScore) (side : Side) (scale : ℕ)
    (starts : ExactStarts) : Type 0 where
  pub take :
      IfSome (take_point_at plan score side) (λ found.
      IsShare found (exact_loss scale starts score side 1 -ℤ exact_loss scale starts score side 2)
      (exact_win scale starts score side 2 -ℤ exact_loss scale starts score side 2))
  pub price :
      IfSome (gammon_price_at plan score side) (λ found.
      IsShare found (exact_win scale starts score side 2 -ℤ exact_win scale starts score side 1)
      (exact_win scale starts score side 1 -ℤ exact_loss scale starts score side 1))

-- for each score to which a win leads, the exact start lies inside the start pair
abbrev pub AreInside : StartPairs → MatchScore → ℕ → ExactStarts → Type 0
AreInside plan score scale starts =
    (winner : Side) (won : ℕ) → 1 ≤ won → won < needs score winner
    → Encloses (start_pair plan (after_win score winner won)) (starts (after_win score winner won))
    scale

-- At each score and for each side a plan holds for all exact starts inside the pairs.
abbrev pub HoldsInside : StartPairs → Type 0
HoldsInside plan =
    (score : MatchScore) (side : Side) (scale : ℕ) (starts : ExactStarts) → 0 < scale
    → AreInside plan score scale starts
    → HoldsAt plan score side scale starts

-- From some number of turns on, one for the whole match, and however the match is scored, a plan holds at each score of it and for each side, for
-- the exact starts of the match.
abbrev pub HoldsInTheEnd : ℕ → StartPairs → Type 0
HoldsInTheEnd checkers plan =
    (enough : ℕ)
    × ((scored : ScoredMatch) → IsScoredMatch checkers scored → enough ≤ scored.turns
    → (place : ℕ) → place < length (ladder plan.match_length)
    → (side : Side)
    → HoldsAt plan (score_at plan.match_length place) side scored.scale scored.starts)

-- The file is the last one of a match that was solved: of all scores these are the start pairs and the words, and it has the start pairs of the
-- scores before it, and the words of its own.
pub record EndsLadder (base : FileBase) (starts : StartPairs) (words : ℕ → WordList) : Type 0 where
  pub solved : IsLadder base.head.checkers base.head.rounds starts words
  pub whole : length starts.pairs ≡ length (ladder starts.match_length)
  pub before : base.head.starts ≡ starts_till starts (length starts.pairs - 1)
  pub last : base.words ≡ words (length starts.pairs - 1)

-- ---- how planning ends

-- The plan of a match was put, in this way: a head and words were read from the file of its first game, of the file that is held where files tell
-- what they hold. It holds for all exact starts inside the start pairs, and in the end for those of the match, where the file is the last one of a
-- match that was solved.
pub record HasPlanned (task : Plan) (told : Bool) (held : Option (List ℕ))
    (IsReport : List ℕ → Type 0) : Type 0 where
  pub base : FileBase
  pub read : OfFile told held (λ file. AnswersBase file (Ok base))
  pub first : IsOfFirstGame task.match_length base.head
  pub whole : length (planned_starts base).pairs ≡ length (ladder task.match_length)
  pub inside : HoldsInside (planned_starts base)
  pub in_the_end : (starts : StartPairs) (words : ℕ → WordList) → EndsLadder base starts words
      → HoldsInTheEnd base.head.checkers (planned_starts base)
  pub report : IsReport (plan_text (planned_starts base))

-- the head is of another game than the first of a match to so many points
pub record WantsFirst (match_length : ℕ) (head : FileHead) (refusal : Refusal) : Type 0 where
  pub other : IsOfFirstGame match_length head → ⊥
  pub line : refusal ≡ Base (Scored (first_score match_length) match_length) (game_told head)

-- the file of a match's first game is refused: it can't be loaded, or it is of another game
abbrev pub RefusesPlanning : Plan → Refusal → Option FileRead → Type 0
RefusesPlanning task refusal file =
    RefusesLoadingFor (WantsFirst task.match_length) (first_file task) refusal file

-- this refuses it, of the file that is held where all answers were faithful
abbrev pub MayRefusePlanning : Plan → Bool → Option (List ℕ) → Refusal → Type 0
MayRefusePlanning task told held refusal = OfFile told held (RefusesPlanning task refusal)

-- how telling a match's plan ends
abbrev pub TellsPlan : Plan → Bool → Option (List ℕ) → Output → Output → Ending → Type 0
TellsPlan task told held = Tells (HasPlanned task told held) (MayRefusePlanning task told held)

-- ---- what loading may answer

-- a base of a match's first game was read from its file, or the file is refused
abbrev pub AnswersFirst : Plan → Bool → Option (List ℕ) → Result FileBase Refusal → Type 0
AnswersFirst task told held (Ok base) = OfFile told held (λ file. AnswersBase file (Ok base))
    × IsOfFirstGame task.match_length base.head
AnswersFirst task told held (Err refusal) = MayRefusePlanning task told held refusal
