-- What solving a match leaves, score by score in the order of its ladder.
use Rattle.std.specs.Prelude.{◌≡◌, ◌≤◌, ◌<◌, ◌⊎◌, ℕ, zero, suc, ℤ, List, [], ◌++◌, length, Bool, true, false, Result, Ok, Err, OnOk, OnErr}
use Rattle.std.specs.Borrow.{GName}
use Rattle.outside_log.specs.Files.{Contents}
use Rattle.outside_log.specs.Log.{Event, LeavesPlaces, failures, standing}
use Rattle.outside_log.specs.Readings.{WritesFile, is_faithful}
use Rattle.outside_log.specs.Sink.{Output}
use Rattle.cube_actions.specs.declared.name.StakesName.TheVariants.{Match}
use Rattle.cube_actions.specs.Ladder.{ladder}
use Rattle.cube_actions.specs.Scores.{MatchScore}
use Rattle.cube_actions.specs.Starts.{StartPairs}
use Rattle.interval_words.specs.WordLists.{WordList, IsWidest, words_in_list}
use Rattle.match_scores.specs.declared.ladder.LadderStop.{LadderStop}
use Rattle.match_scores.specs.declared.ladder.LadderStop.TheVariants.{Keep, NoMemory}
use Rattle.match_scores.specs.Ladders.{score_at, starts_till, AreWordsAt, IsLadder}
use Rattle.match_scores.specs.Openings.{start_over}
use Rattle.word_pages.specs.declared.version.Version.TheVariants.{Three}
use Rattle.base_head.specs.Heads.{FileHead}
use Rattle.base_head.specs.Headers.{magic}
use Rattle.database_file.specs.Texts.{IsText, file_text}
use Rattle.command_line.specs.declared.command.Ladder.{Ladder}
use Rattle.equity_report.specs.declared.refusal.Refusal.{Refusal}
use Rattle.equity_report.specs.declared.refusal.Refusal.TheVariants.{Memory}
use Rattle.solve_reports.specs.Ladder.{ladder_end_text, ladder_score_text}
use Rattle.run_endings.specs.declared.ending.RunStop.{RunStop}
use Rattle.run_endings.specs.declared.ending.RunStop.TheVariants.{Refused, NotWritten}
use Rattle.run_endings.specs.Beginnings.{MayTakePlace, StopsBeginning}
use Rattle.run_endings.specs.Endings.{Ending, HasEitherCause, IsPut, WasCut, WasPut}
use Rattle.run_endings.specs.Scores.{score_file}

-- ---- one score: its file and its line

-- the head of a score's file, which has the start pairs of the scores before it
abbrev pub score_head : Ladder → MatchScore → StartPairs → FileHead
score_head task score starts = record {
  checkers = task.checkers;
  name = Match score;
  rounds = task.rounds;
  starts = starts;
}

-- the file of version 3 of a score, with these words
abbrev pub score_bytes : Ladder → MatchScore → StartPairs → WordList → List ℕ
score_bytes task score starts words = file_text Three (score_head task score starts) words.list

-- the line of a score: what its words say that the near side has of its game, and how wide their widest pair is
abbrev pub score_line : Ladder → MatchScore → WordList → ℤ → List ℕ
score_line task score words widest =
    ladder_score_text score (start_over task.checkers (words_in_list words) score) widest

-- How a file is written and a report on it put: both are done, or no file took a place, and nothing or a front of the report was put, or all
-- of it.
pub record WritesAndTells {T E : Type 0} (name text report : List ℕ) (before after : List Event)
    (old new : Output) (result : Result T E) : Type 0 where
  pub file : OnOk result (WritesFile name text before after)
  pub told : OnOk result (IsPut old new report)
  pub leaves : OnErr result (LeavesPlaces before after)
  pub front : OnErr result ((new ≡ old) ⊎ WasPut old new report)
  pub cause : HasEitherCause (failures before) (failures after) old.faults new.faults result

-- ---- the scores of a task

-- how many scores its ladder has, which is the one at a place, and the name of the file of that
abbrev pub scores_in : Ladder → ℕ
scores_in task = length (ladder task.match_length)

abbrev pub ladder_score : Ladder → ℕ → MatchScore
ladder_score task place = score_at task.match_length place

abbrev pub file_of : Ladder → ℕ → List ℕ
file_of task place = score_file task.prefix (ladder_score task place)

-- the words of a score that was solved, and how wide their widest pair is
pub record SolvedScore : Type 0 where
  pub words : WordList
  pub widest : ℤ

-- Words of a score's game for these start pairs: sound, consistent, and at least as tight as the rounds for its head's stakes. They make a file
-- with its head.
pub record IsScoreSolved (task : Ladder) (score : MatchScore) (starts : StartPairs)
    (solved : SolvedScore) : Type 0 where
  pub closed : AreWordsAt task.checkers task.rounds score starts solved.words
  pub text : IsText Three (score_head task score starts) solved.words
      (score_bytes task score starts solved.words)
  pub widest : IsWidest solved.words solved.widest

-- The first scores of a ladder are solved, as many as there are start pairs: each with the start pairs of the scores before it. They are what a
-- ladder is: from one number of turns on, for however its games are cut off, all words enclose their games and all start pairs the starts of theirs,
-- and all are at least as tight as the plain ones.
pub record AreScoresSolved (task : Ladder) (starts : StartPairs)
    (scores : ℕ → SolvedScore) : Type 0 where
  pub of_length : starts.match_length ≡ task.match_length
  pub some : length starts.pairs ≤ scores_in task
  pub each : (place : ℕ) → place < length starts.pairs
      → IsScoreSolved task (ladder_score task place) (starts_till starts place) (scores place)
  pub solved : IsLadder task.checkers task.rounds starts (λ place. (scores place).words)

-- the files of the first so many scores were written, one after another
abbrev pub WroteScores : Ladder → StartPairs → (ℕ → SolvedScore) → ℕ → List Event → List Event
    → Type 0
WroteScores task starts scores zero before after = LeavesPlaces before after
WroteScores task starts scores (suc place) before after =
    (middle : List Event) × WroteScores task starts scores place before middle
    × WritesFile (file_of task place)
    (score_bytes task (ladder_score task place) (starts_till starts place) (scores place).words)
    middle after

-- the lines of the first so many scores
abbrev pub first_score_lines : Ladder → (ℕ → SolvedScore) → ℕ → List ℕ
first_score_lines task scores zero = []
first_score_lines task scores (suc place) =
    first_score_lines task scores place
    ++ score_line task (ladder_score task place) (scores place).words (scores place).widest

-- The first scores are solved, their files were written, and their lines were put, in this way.
pub record HasSolvedScores (task : Ladder) (starts : StartPairs) (before after : List Event)
    (ArePut : List ℕ → Type 0) : Type 0 where
  pub scores : ℕ → SolvedScore
  pub solved : AreScoresSolved task starts scores
  pub files : WroteScores task starts scores (length starts.pairs) before after
  pub lines : ArePut (first_score_lines task scores (length starts.pairs))

-- the next score is solved too, and its line was put, or a front of it
pub record IsInWork (task : Ladder) (starts : StartPairs) (old new : Output) : Type 0 where
  pub more : length starts.pairs < scores_in task
  pub score : SolvedScore
  pub solved : IsScoreSolved task (ladder_score task (length starts.pairs)) starts score
  pub line : WasPut old new
      (score_line task (ladder_score task (length starts.pairs)) score.words score.widest)

-- ---- the whole ladder

abbrev pub end_line : Ladder → List ℕ
end_line task = ladder_end_text task.checkers task.match_length task.rounds task.workers

-- All scores were solved: their files were written, and their lines were put, and then the last one.
pub record HasSolvedLadder (task : Ladder) (before after : List Event)
    (old new : Output) : Type 0 where
  pub starts : StartPairs
  pub scores : HasSolvedScores task starts before after
      (λ lines. IsPut old new (lines ++ end_line task))
  pub whole : length starts.pairs ≡ scores_in task

-- behind the lines of the scores nothing was put, or the line of the next score, or a front of it, or, where there is none, a front of the
-- last line
abbrev pub StopsBehind : Ladder → StartPairs → Output → Output → Type 0
StopsBehind task starts old new =
    (new ≡ old) ⊎ IsInWork task starts old new
    ⊎ ((length starts.pairs ≡ scores_in task) × WasCut old new (end_line task))

-- Writing failed: the first scores were solved, their files were written and no other took its name's place, and their lines were put.
pub record HasStopped (task : Ladder) (starts : StartPairs) (before after : List Event)
    (old new : Output) : Type 0 where
  pub behind : List Event
  pub scores :
      HasSolvedScores task starts before behind (λ lines.
      (middle : Output) × IsPut old middle lines × StopsBehind task starts middle new)
  pub leaves : LeavesPlaces behind after

abbrev pub HasStoppedLadder : Ladder → List Event → List Event → Output → Output → Type 0
HasStoppedLadder task before after old new =
    (starts : StartPairs) × HasStopped task starts before after old new

-- There was no memory: the first scores were solved, their files were written and no other took its name's place, and their lines were put.
abbrev pub HasRunOut : Ladder → List Event → List Event → Output → Output → Type 0
HasRunOut task before after old new =
    (starts : StartPairs) × HasSolvedScores task starts before after (IsPut old new)

-- the files of the first so many scores may take the places of what stands there
abbrev pub MayTakePlaces : Ladder → ℕ → Bool → Contents → Type 0
MayTakePlaces task many told held =
    (place : ℕ) → place < many → MayTakePlace magic told (held (file_of task place))

-- the file of one of a ladder's scores isn't begun
pub record StopsTrying (task : Ladder) (told : Bool) (held : Contents)
    (stop : RunStop) : Type 0 where
  pub place : ℕ
  pub inside : place < scores_in task
  pub cause : StopsBeginning magic (file_of task place) told (held (file_of task place)) stop

-- that refuses a ladder
abbrev pub MayRefuseLadder : Ladder → Bool → Contents → Refusal → Type 0
MayRefuseLadder task told held refusal = StopsTrying task told held (Refused refusal)

-- How solving a ladder ends: all scores were solved, in place of what might be replaced; or writing failed; or there was no memory; or it was
-- refused for what stands where a file is to be written, nothing was put, and no file changed.
abbrev pub SolvesLadder : Ladder → List Event → List Event → Output → Output → Ending → Type 0
SolvesLadder task before after old new (Ok done) =
    HasSolvedLadder task before after old new
    × MayTakePlaces task (scores_in task) (is_faithful after) (standing before)
SolvesLadder task before after old new (Err NotWritten) = HasStoppedLadder task before after old new
SolvesLadder task before after old new (Err (Refused refusal)) =
    ((refusal ≡ Memory) × HasRunOut task before after old new)
    ⊎ (MayRefuseLadder task (is_faithful after) (standing before) refusal × (new ≡ old)
    × LeavesPlaces before after)

-- ---- while it is solved

-- what no call of a keeper changes: its task, and which files and which output are lent
pub record LadderStays : Type 0 where
  pub task : Ladder
  pub files_lent : GName
  pub out_lent : GName

-- what a keeper was made with: what had been written, and what was put
pub record LadderPast : Type 0 where
  pub before : List Event
  pub old : Output

-- what a keeper has done since then, by the start pairs of the scores that it has kept and by whether it has failed
abbrev pub HasKeptSince : LadderPast → Ladder → StartPairs → Bool → List Event → Output → Type 0
HasKeptSince past task starts false after new =
    HasSolvedScores task starts past.before after (IsPut past.old new)
HasKeptSince past task starts true after new =
    HasStopped task starts past.before after past.old new

-- What was done when solving the scores ended: all were kept, or the keeper failed, or there was no memory.
abbrev pub SolvesScores : {T : Type 0} → Ladder → List Event → List Event → Output → Output
    → Result T LadderStop → Type 0
SolvesScores task before after old new (Ok x) =
    (starts : StartPairs) × HasSolvedScores task starts before after (IsPut old new)
    × (length starts.pairs ≡ scores_in task)
SolvesScores task before after old new (Err Keep) = HasStoppedLadder task before after old new
SolvesScores task before after old new (Err NoMemory) = HasRunOut task before after old new
