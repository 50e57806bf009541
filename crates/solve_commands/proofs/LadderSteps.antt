-- One score more of a ladder, or one that failed.
use Rattle.std.proofs.Common.{◌≡◌, ◌∙◌, ◌≤◌, ◌<◌, ◌+◌, ℕ, ℤ, pos, zero, suc, false, List, [], ◌++◌, length, length-append, inl, inr, refl, sym, ap, subst, arith}
use Rattle.std.specs.List.{AllPairs}
use Rattle.std.proofs.lemmas.Bool.{cases_lt}
use Rattle.outside_log.specs.Log.{Event, LeavesPlaces}
use Rattle.outside_log.specs.Readings.{WritesFile}
use Rattle.cube_actions.specs.Ladder.{ladder, ScoreComesBefore}
use Rattle.cube_actions.specs.Scores.{MatchScore, last_game}
use Rattle.cube_actions.specs.Starts.{StartPairs, AreStarts}
use Rattle.cube_actions.specs.declared.name.StakesName.TheVariants.{Match}
use Rattle.interval_words.specs.WordLists.{WordList, AreRight, IsWidest, list_of, words_in_list}
use Rattle.match_scores.specs.Openings.{start_over}
use Rattle.base_head.specs.Heads.{IsHead}
use Rattle.database_file.specs.Texts.{AreWordsOf as AreFileWords}
use Rattle.match_scores.specs.Keepers.{no_pairs}
use Rattle.match_scores.proofs.Places.{place-of}
use Rattle.command_line.specs.Right.{IsRightLadder}
use Rattle.match_scores.specs.Ladders.{score_at, starts_till, with_pair, game_at_score, AreWordsAt, IsSolved, IsSolvedAt, IsLadder}
use Rattle.match_scores.proofs.WholeLadder.{and_then, and_then-before, and_then-last, till-same, all-taken, solved-next}
use Rattle.command_line.specs.declared.command.Ladder.{Ladder}
use Rattle.solve_commands.specs.Ladders.{AreScoresSolved, HasKeptSince, IsScoreSolved, LadderPast, SolvedScore, WroteScores, file_of, first_score_lines, score_bytes, score_head, score_line, ladder_score, scores_in}
use Rattle.run_endings.proofs.Loaded.{three-takes}
use Rattle.solve_commands.proofs.Puts.{nothing-put}

-- ---- lines of the same scores

same-lines : (task : Ladder) (scores others : ℕ → SolvedScore) (many : ℕ) → ((place : ℕ) → place < many → others place ≡ scores place) → first_score_lines task others many ≡ first_score_lines task scores many
same-lines task scores others zero same = refl
same-lines task scores others (suc many) same =
    rw (same-lines task scores others many (λ place earlier. same place (omega (arith, earlier))), same many (omega arith)) refl

-- ---- the law on ladders

abbrev pub LadderLaw : Type 0
LadderLaw =
    (checkers r : ℕ) → 1 ≤ checkers → checkers ≤ 3 → (starts : StartPairs) → AreStarts starts → (words : ℕ → WordList) → IsSolved checkers r starts words → IsLadder checkers r starts words

-- it is of the words at each place alone
solved-same : (checkers r : ℕ) (starts : StartPairs) (words others : ℕ → WordList) → ((place : ℕ) → place < length starts.pairs → others place ≡ words place) → IsSolved checkers r starts words → IsSolved checkers r starts others
solved-same checkers r starts words others same solved place here = subst (λ (w : WordList). IsSolvedAt checkers r starts place w) (sym (same place here)) (solved place here)

solved-next-of : (checkers r n : ℕ) (starts : StartPairs) (words : ℕ → WordList) (next : WordList) → starts.match_length ≡ n → IsSolved checkers r starts words → AreWordsAt checkers r (score_at n (length starts.pairs)) starts next
    → IsSolved checkers r (with_pair starts (start_over checkers (words_in_list next) (score_at n (length starts.pairs)))) (and_then words (length starts.pairs) next)
solved-next-of checkers r n starts words next is solved closed =
    let count = length starts.pairs in
    subst (λ (m : ℕ). AreWordsAt checkers r (score_at m count) starts next
    → IsSolved checkers r (with_pair starts (start_over checkers (words_in_list next) (score_at m count))) (and_then words count next)) is
    (λ here. solved-next checkers r starts words next solved here) closed

-- ---- what a score's words are

pub head-valid : (task : Ladder) → IsRightLadder task → (starts : StartPairs) → AreStarts starts → AllPairs ScoreComesBefore (ladder starts.match_length) → (score : MatchScore)
    → length starts.pairs < length (ladder starts.match_length) → score ≡ score_at starts.match_length (length starts.pairs) → IsHead (score_head task score starts)
head-valid task right starts valid order score more is =
    let place = place-of starts.match_length order (length starts.pairs) more in
    record {
      some = right.some;
      few = right.few;
      begun = right.begun;
      ended = right.ended;
      valid = valid;
      starts = rw is (record { listed = omega (arith, place, more); held = sym place });
    }

pub file-words : (task : Ladder) (score : MatchScore) (starts : StartPairs) (words : WordList) → AreWordsAt task.checkers task.rounds score starts words → AreFileWords (score_head task score starts) words
file-words task score starts words closed = record { game = closed.game; rounds = closed.rounds }

pub score-solved : (task : Ladder) (score : MatchScore) (starts : StartPairs) (words : WordList) (widest : ℤ) → IsHead (score_head task score starts) → AreWordsAt task.checkers task.rounds score starts words → AreRight words → IsWidest words widest
    → IsScoreSolved task score starts (record { words = words; widest = widest })
score-solved task score starts words widest valid closed right is_widest = record {
  closed = closed;
  text = record { valid = valid; takes = three-takes (Match score); fitting = file-words task score starts words closed; right = right; text = refl };
  widest = is_widest;
}

-- ---- before the first score

no_score : Ladder → SolvedScore
no_score task = record { words = list_of (game_at_score task.checkers last_game (no_pairs task.match_length)) task.rounds []; widest = pos 0 }

none-solved : (task : Ladder) → AreScoresSolved task (no_pairs task.match_length) (λ place. no_score task)
none-solved task = record {
  of_length = refl;
  some = omega arith;
  each = λ place here. absurd (omega (arith, here));
  solved = record {
    solved = λ place here. absurd (omega (arith, here));
    true_from = (0, λ scored is enough place here. absurd (omega (arith, here)));
    tight = λ place here. absurd (omega (arith, here));
  };
}

pub nothing-since : (past : LadderPast) (task : Ladder) (after : List Event) → LeavesPlaces past.before after → HasKeptSince past task (no_pairs task.match_length) false after past.old
nothing-since past task after leaves = record {
  scores = λ place. no_score task;
  solved = none-solved task;
  files = leaves;
  lines = nothing-put past.old;
}

-- the file of the same score, for the same start pairs
same-file : (task : Ladder) (place : ℕ) (given other : StartPairs) (score another : SolvedScore) (before after : List Event) → other ≡ given → another ≡ score
    → WritesFile (file_of task place) (score_bytes task (ladder_score task place) given score.words) before after → WritesFile (file_of task place) (score_bytes task (ladder_score task place) other another.words) before after
same-file task place given other score another before after same_starts same_score writes =
    subst (λ (n : SolvedScore). WritesFile (file_of task place) (score_bytes task (ladder_score task place) other n.words) before after) (sym same_score)
    (subst (λ (s : StartPairs). WritesFile (file_of task place) (score_bytes task (ladder_score task place) s score.words) before after) (sym same_starts) writes)

-- the files of the same scores
same-wrote : (task : Ladder) (starts longer : StartPairs) (scores others : ℕ → SolvedScore) (before : List Event) (many : ℕ) → ((place : ℕ) → place < many → starts_till longer place ≡ starts_till starts place) → ((place : ℕ) → place < many → others place ≡ scores place) → (after : List Event)
    → WroteScores task starts scores many before after → WroteScores task longer others many before after
same-wrote task starts longer scores others before zero till same after wrote = wrote
same-wrote task starts longer scores others before (suc many) till same after (middle, earlier, writes) = (
  middle,
  same-wrote task starts longer scores others before many (λ place here. till place (omega (arith, here))) (λ place here. same place (omega (arith, here))) middle earlier,
  same-file task many (starts_till starts many) (starts_till longer many) (scores many) (others many) middle after (till many (omega arith)) (same many (omega arith)) writes,
)

-- ---- one score more, or one that failed

module _ (task : Ladder) (right : IsRightLadder task) (law : LadderLaw) where
  module _ (starts : StartPairs) (scores : ℕ → SolvedScore) (solved : AreScoresSolved task starts scores) (next : SolvedScore) (more : length starts.pairs < scores_in task) (is : IsScoreSolved task (ladder_score task (length starts.pairs)) starts next) where
    abbrev pub longer : StartPairs
    longer = with_pair starts (start_over task.checkers (words_in_list next.words) (ladder_score task (length starts.pairs)))

    abbrev pub with_next : ℕ → SolvedScore
    with_next = and_then scores (length starts.pairs) next

    many_more : length longer.pairs ≡ length starts.pairs + 1
    many_more = length-append starts.pairs _

    one_more : length longer.pairs ≡ suc (length starts.pairs)
    one_more = omega (arith, many_more)

    same-till : (place : ℕ) → place ≤ length starts.pairs → starts_till longer place ≡ starts_till starts place
    same-till place here = till-same starts _ place here

    at-last : (P : ℕ → Type 0) → P (length starts.pairs) → (place : ℕ) → place < length longer.pairs → length starts.pairs ≤ place → P place
    at-last P p place here last = subst P (omega (arith, here, last, one_more)) p

    before-next : (place : ℕ) → place < length starts.pairs → with_next place ≡ scores place
    before-next place earlier = and_then-before scores (length starts.pairs) next place earlier

    last-next : with_next (length starts.pairs) ≡ next
    last-next = and_then-last scores (length starts.pairs) next

    each-more : (place : ℕ) → place < length longer.pairs → IsScoreSolved task (ladder_score task place) (starts_till longer place) (with_next place)
    each-more place here = elim (cases_lt place (length starts.pairs)) [
      | inl earlier ↦ rw (same-till place (omega (arith, earlier)), before-next place earlier) (solved.each place earlier)
      | inr last ↦ at-last (λ p. IsScoreSolved task (ladder_score task p) (starts_till longer p) (with_next p)) (rw (same-till (length starts.pairs) (omega arith), all-taken starts, last-next) is) place here last
    ]

    words-more : (place : ℕ) → place < length longer.pairs → (with_next place).words ≡ and_then (λ p. (scores p).words) (length starts.pairs) next.words place
    words-more place here = elim (cases_lt place (length starts.pairs)) [
      | inl earlier ↦ ap (λ (n : SolvedScore). n.words) (before-next place earlier) ∙ sym (and_then-before (λ p. (scores p).words) (length starts.pairs) next.words place earlier)
      | inr last ↦ at-last (λ p. (with_next p).words ≡ and_then (λ q. (scores q).words) (length starts.pairs) next.words p)
          (ap (λ (n : SolvedScore). n.words) last-next ∙ sym (and_then-last (λ p. (scores p).words) (length starts.pairs) next.words)) place here last
    ]

    ladder-more : AreStarts longer → IsLadder task.checkers task.rounds longer (λ place. (with_next place).words)
    ladder-more valid =
        law task.checkers task.rounds right.some right.few longer valid (λ place. (with_next place).words)
        (solved-same task.checkers task.rounds longer (and_then (λ place. (scores place).words) (length starts.pairs) next.words) (λ place. (with_next place).words)
        words-more
        (solved-next-of task.checkers task.rounds task.match_length starts (λ place. (scores place).words) next.words solved.of_length solved.solved.solved is.closed))

    pub lines-more : first_score_lines task with_next (length longer.pairs) ≡ first_score_lines task scores (length starts.pairs) ++ score_line task (ladder_score task (length starts.pairs)) next.words next.widest
    lines-more = rw (one_more, same-lines task scores with_next (length starts.pairs) before-next, last-next) refl

    pub scores-more : AreStarts longer → AreScoresSolved task longer with_next
    scores-more valid = record {
      of_length = solved.of_length;
      some = omega (arith, one_more, more);
      each = each-more;
      solved = ladder-more valid;
    }

    pub wrote-more : (before after later : List Event) → WroteScores task starts scores (length starts.pairs) before after → WritesFile (file_of task (length starts.pairs)) (score_bytes task (ladder_score task (length starts.pairs)) starts next.words) after later
        → WroteScores task longer with_next (length longer.pairs) before later
    wrote-more before after later wrote writes =
        let last = same-file task (length starts.pairs) starts (starts_till longer (length starts.pairs)) next (with_next (length starts.pairs)) after later (same-till (length starts.pairs) (omega arith) ∙ all-taken starts) last-next writes in
        subst (λ (many : ℕ). WroteScores task longer with_next many before later) (sym one_more)
        (after, same-wrote task starts longer scores with_next before (length starts.pairs) (λ place here. same-till place (omega (arith, here))) before-next after wrote, last)
