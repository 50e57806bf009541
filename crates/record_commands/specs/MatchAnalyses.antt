-- What the decisions of a recorded match lose, by the files of the scores of its games.
use Rattle.std.specs.Prelude.{◌≡◌, ◌⊎◌, ◌<◌, ℕ, List, map, slice_index_or, Contains, All, IfSome, IsSomeAnd, Option, Some, None, Result, Ok, Err}
use Rattle.outside_log.specs.Files.{Contents}
use Rattle.cube_actions.specs.Scores.{MatchScore}
use Rattle.cube_actions.specs.declared.name.StakesName.TheVariants.{Match}
use Rattle.game_record.specs.declared.decision.Decision.{Decision}
use Rattle.game_record.specs.declared.record.Record.{Record as RecordRead}
use Rattle.turn_rule.specs.Truth.{AreSound}
use Rattle.turn_rule.specs.Turn.{Words}
use Rattle.record_analysis.specs.declared.analysis.Judged.{Judged}
use Rattle.record_study.specs.Keeping.{decisions_in}
use Rattle.record_study.specs.Matches.{AreTrueStarts, IsTrueMatch}
use Rattle.database_file.specs.Texts.{game_in}
use Rattle.equity_report.specs.declared.text.GameName.{GameName}
use Rattle.equity_report.specs.declared.refusal.Refusal.{Refusal}
use Rattle.run_endings.specs.Pages.{AreOnRightPages, HavePairsOf, OfHeld}
use Rattle.run_endings.specs.Scores.{score_file}
use Rattle.record_commands.specs.ByFile.{IsBadPageFor, IsFileOf, JudgesOne, MayFollowIn, RefusesFile, RefusesFront, TellsFirstJudging, front_head}
use Rattle.record_commands.specs.Records.{match_length}

-- ---- the files of scores

-- the game of a record's match at a score
abbrev pub game_at : RecordRead → MatchScore → GameName
game_at rec score = record {
  checkers = rec.checkers;
  stakes = Match score;
  match_length = match_length rec.stakes;
}

-- the score of the game of the decision at a place; past the last one there is none
abbrev pub score_there : List Decision → ℕ → Option MatchScore
score_there decisions place =
    slice_index_or (map (λ (decision : Decision). decision.score) decisions) place None

-- the file of a score is there and is right as far as its pages; where there is no score nothing is said
abbrev pub HasFile : List ℕ → RecordRead → Contents → Option MatchScore → Type 0
HasFile prefix rec held score =
    IfSome score (λ score. OfHeld (held (score_file prefix score)) (IsFileOf (game_at rec score)))

-- ---- what its decisions lose

-- the file of the score of its own game judges a decision
abbrev pub IsJudgedByFile : List ℕ → RecordRead → Contents → Judged → Type 0
IsJudgedByFile prefix rec held one =
    IfSome one.decision.score (λ score.
    OfHeld (held (score_file prefix score)) (λ bytes. JudgesOne (game_at rec score) bytes one))

-- What a file holds is true of a match: words that have its pairs on every right page are sound for the stakes of its head, and the start pairs in
-- its head enclose the exact starts of their scores from some number of turns on. So is what solving a match writes.
pub record HoldsTruth (bytes : List ℕ) : Type 0 where
  pub words : Words
  pub pairs : HavePairsOf bytes words
  pub sound : AreSound (game_in (front_head bytes)) words
  pub starts : AreTrueStarts (front_head bytes).checkers (front_head bytes).starts

-- what the file of the score of its own game holds is true
abbrev pub HasTrueFile : List ℕ → Contents → Judged → Type 0
HasTrueFile prefix held one =
    IfSome one.decision.score (λ score. OfHeld (held (score_file prefix score)) HoldsTruth)

-- The files of its scores judge the decisions of a match. Where what these files hold is true, from some number of turns on, one for the whole match,
-- each pair encloses what its decision loses exactly with the payoffs of the match.
pub record JudgesMatch (prefix : List ℕ) (rec : RecordRead) (decisions : List Decision)
    (held : Contents) (list : List Judged) : Type 0 where
  pub decisions_are : decisions_in list ≡ decisions
  pub judged : All (IsJudgedByFile prefix rec held) list
  pub true : All (HasTrueFile prefix held) list → IsTrueMatch rec.checkers list

-- ---- why nothing is told of it

-- The file of a decision's score is refused before its pages are looked at, and those of all decisions before it are right as far as their pages.
pub record RefusesFirst (prefix : List ℕ) (rec : RecordRead) (decisions : List Decision)
    (refusal : Refusal) (held : Contents) : Type 0 where
  pub place : ℕ
  pub first : (earlier : ℕ) → earlier < place
      → HasFile prefix rec held (score_there decisions earlier)
  pub cause : IsSomeAnd (score_there decisions place) (λ score.
      RefusesFront (game_at rec score) (score_file prefix score) refusal
      (held (score_file prefix score)))

-- the pages are right, in the file of a score, on which the losses of the decisions rest that were made at it
abbrev pub RestsOnRightPages : List ℕ → Contents → List Decision → Option MatchScore → Type 0
RestsOnRightPages prefix held decisions score =
    IfSome score (λ score. IfSome (held (score_file prefix score)) (λ bytes.
    All (λ decision. decision.score ≡ Some score
    → AreOnRightPages bytes (MayFollowIn bytes decision)) decisions))

-- The files of all scores are right as far as their pages, and something is wrong with a page on which some decision's loss rests. That is told
-- which is met first at the decisions as they were recorded.
pub record RefusesPage (prefix : List ℕ) (rec : RecordRead) (decisions : List Decision)
    (refusal : Refusal) (held : Contents) : Type 0 where
  pub fronts : All (λ decision. HasFile prefix rec held decision.score) decisions
  pub decision : Decision
  pub among : Contains decisions decision
  pub cause : IsSomeAnd decision.score (λ score.
      OfHeld (held (score_file prefix score)) (IsBadPageFor (game_at rec score) decision refusal))
  pub place : ℕ
  pub before : (earlier : ℕ) → earlier < place
      → RestsOnRightPages prefix held decisions (score_there decisions earlier)
  pub first : IsSomeAnd (score_there decisions place) (λ score.
      OfHeld (held (score_file prefix score)) (TellsFirstJudging (Some score) decisions refusal))

-- A match can't be judged by the files of its scores: one is refused before its pages are looked at, or else one of a page. Those of the first games
-- come first, and pages after what stands before them in all files.
abbrev pub RefusesMatch : List ℕ → RecordRead → List Decision → Refusal → Contents → Type 0
RefusesMatch prefix rec decisions refusal held =
    RefusesFirst prefix rec decisions refusal held ⊎ RefusesPage prefix rec decisions refusal held

-- ---- what judging a match may answer

-- the decision at a place has no score, or one that another before it has
abbrev pub HasNoNewScore : List Decision → ℕ → Type 0
HasNoNewScore decisions place =
    (score_there decisions place ≡ None)
    ⊎ ((before : ℕ) × (before < place)
    × (score_there decisions before ≡ score_there decisions place))

-- the files of all decisions' scores are right as far as their pages, or this refuses the first
abbrev pub AnswersChecks : List ℕ → RecordRead → List Decision → Contents
    → Result (Unit {0}) Refusal → Type 0
AnswersChecks prefix rec decisions held (Ok done) =
    All (λ (decision : Decision). HasFile prefix rec held decision.score) decisions
AnswersChecks prefix rec decisions held (Err refusal) =
    RefusesFirst prefix rec decisions refusal held

-- all decisions were judged, or this refuses the file of the score of one of them
abbrev pub AnswersScores : List ℕ → RecordRead → List Decision → Contents → List Judged
    → Result (Unit {0}) Refusal → Type 0
AnswersScores prefix rec decisions held new (Ok done) = All (IsJudgedByFile prefix rec held) new
AnswersScores prefix rec decisions held new (Err refusal) =
    (place : ℕ)
    × ((earlier : ℕ) → earlier < place
    → RestsOnRightPages prefix held decisions (score_there decisions earlier))
    × IsSomeAnd (score_there decisions place) (λ score.
    RefusesFile (game_at rec score) (score_file prefix score) (Some score) decisions refusal
    (held (score_file prefix score)))

-- a match is judged by the files of its scores, or this refuses that
abbrev pub AnswersMatch : List ℕ → RecordRead → List Decision → Contents
    → Result (List Judged) Refusal → Type 0
AnswersMatch prefix rec decisions held (Ok list) = JudgesMatch prefix rec decisions held list
AnswersMatch prefix rec decisions held (Err refusal) =
    RefusesMatch prefix rec decisions refusal held
