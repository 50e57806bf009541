-- A keeper of the scores of a ladder: it takes each as it is solved.
use Rattle.std.specs.Prelude.{◌≡◌, ◌≤◌, ◌<◌, ◌⊎◌, ℕ, Bool, true, false, [], length, Result, OnOk, OnErr, IsErrOf, ◌↔◌}
use Rattle.cube_actions.specs.Scores.{MatchScore}
use Rattle.cube_actions.specs.Ladder.{ladder}
use Rattle.cube_actions.specs.Starts.{StartPairs}
use Rattle.hyper_outside.specs.Causes.{Rose}
use Rattle.interval_words.specs.WordLists.{WordList, words_in_list}
use Rattle.match_scores.specs.Openings.{start_over}
use Rattle.match_scores.specs.Ladders.{score_at, with_pair, AreWordsAt, IsSolved, IsLadder}
use Rattle.match_scores.specs.declared.ladder.LadderStop.{LadderStop}
use Rattle.match_scores.specs.declared.ladder.LadderStop.TheVariants.{Keep}

-- What contracts see of a keeper: the checkers and the rounds of the ladder that it is for, the length of the match with the start pairs of the
-- scores that it has kept, whether it has failed, and how often the calls of the outside have failed by which it may, the one kind and the other.
pub record Keeper : Type 0 where
  pub checkers : ℕ
  pub rounds : ℕ
  pub starts : StartPairs
  pub failed : Bool
  pub write_faults : ℕ
  pub put_faults : ℕ

-- the same ladder
pub record IsForSame (old new : Keeper) : Type 0 where
  pub checkers : new.checkers ≡ old.checkers
  pub match_length : new.starts.match_length ≡ old.starts.match_length
  pub rounds : new.rounds ≡ old.rounds

-- no count of faults falls
pub record CountsOn (old new : Keeper) : Type 0 where
  pub write_faults : old.write_faults ≤ new.write_faults
  pub put_faults : old.put_faults ≤ new.put_faults

-- one of the counts rose
abbrev pub EitherRose : Keeper → Keeper → Type 0
EitherRose old new = Rose old.write_faults new.write_faults ⊎ Rose old.put_faults new.put_faults

-- the score is kept too, with the start pair of these words of its game, and the keeper hasn't failed
pub record KeptOneMore (score : MatchScore) (words : WordList) (old new : Keeper) : Type 0 where
  pub one_more : new.starts
      ≡ with_pair old.starts (start_over words.game.checkers (words_in_list words) score)
  pub goes_on : new.failed ≡ old.failed

-- the score isn't kept, the keeper has failed, and one of the counts rose
pub record HasFailed (old new : Keeper) : Type 0 where
  pub none : new.starts ≡ old.starts
  pub failed : new.failed ≡ true
  pub cause : EitherRose old new

-- a score was handed to a keeper, with words of its game
pub record Keeps {E : Type 0} (score : MatchScore) (words : WordList) (old new : Keeper)
    (result : Result Unit E) : Type 0 where
  pub same : IsForSame old new
  pub counts : CountsOn old new
  pub ok : OnOk result (KeptOneMore score words old new)
  pub err : OnErr result (HasFailed old new)

-- A score may be handed to a keeper that hasn't failed: the next one of its ladder, with the start pairs of all scores before it, and with words of
-- its game for these, closed after the rounds that the keeper is for. What is told of the ladder is true of the scores before it.
pub record MayKeep (keeper : Keeper) (score : MatchScore) (starts : StartPairs)
    (words : WordList) : Type 0 where
  pub works : keeper.failed ≡ false
  pub before : starts ≡ keeper.starts
  pub more : length starts.pairs < length (ladder starts.match_length)
  pub is_next : score ≡ score_at starts.match_length (length starts.pairs)
  pub closed : AreWordsAt keeper.checkers keeper.rounds score starts words
  pub earlier : (words_before : ℕ → WordList)
      × IsLadder keeper.checkers keeper.rounds starts words_before

-- a keeper for a ladder of so many checkers, points and rounds
pub record IsKeeperFor (checkers match_length r : ℕ) (keeper : Keeper) : Type 0 where
  pub of_checkers : keeper.checkers ≡ checkers
  pub of_length : keeper.starts.match_length ≡ match_length
  pub of_rounds : keeper.rounds ≡ r

-- it hasn't failed, and these are the start pairs of the scores that it has kept
pub record HasKept (starts : StartPairs) (keeper : Keeper) : Type 0 where
  pub works : keeper.failed ≡ false
  pub held : keeper.starts ≡ starts

-- before the first score
abbrev pub no_pairs : ℕ → StartPairs
no_pairs match_length = record { match_length = match_length; pairs = [] }

-- the first scores of a ladder are solved, and these are their start pairs
pub record IsSolvedSoFar (checkers match_length r : ℕ) (starts : StartPairs) : Type 0 where
  pub of_length : starts.match_length ≡ match_length
  pub solved : (words : ℕ → WordList) × IsSolved checkers r starts words

-- Scores were handed to a keeper. It has failed exactly where that is answered, and then one of its counts rose.
pub record HandsOver {T : Type 0} (old new : Keeper) (result : Result T LadderStop) : Type 0 where
  pub same : IsForSame old new
  pub counts : CountsOn old new
  pub failed : IsErrOf result Keep ↔ (new.failed ≡ true)
  pub cause : IsErrOf result Keep → EitherRose old new

-- the start pairs of a whole ladder, which are those of words of each of its scores: they are true and tight
pub record IsWholeLadder (checkers match_length r : ℕ) (starts : StartPairs) : Type 0 where
  pub of_length : starts.match_length ≡ match_length
  pub whole : length starts.pairs ≡ length (ladder match_length)
  pub solved : (words : ℕ → WordList) × IsLadder checkers r starts words
