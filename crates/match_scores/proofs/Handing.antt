-- Handing the scores of a ladder to a keeper.
use Rattle.std.proofs.Common.{◌≡◌, ◌<◌, ◌≤◌, ◌+◌, ◌∙◌, ℕ, List, [], ◌∷◌, length, length-append, ap, refl, sym, subst, arith}
use Rattle.directed_fixed.specs.Bounds.{Bounds}
use Rattle.cube_actions.specs.Scores.{MatchScore, last_game}
use Rattle.cube_actions.specs.Ladder.{ladder}
use Rattle.cube_actions.specs.Starts.{StartPairs, AreStarts, Covers}
use Rattle.turn_rule.specs.declared.game.Game.{Game}
use Rattle.interval_words.specs.WordLists.{WordList, list_of, words_in_list}
use Rattle.match_scores.specs.Openings.{start_over}
use Rattle.match_scores.specs.Ladders.{score_at, with_pair, game_at_score, AreWordsAt}
use Rattle.match_scores.specs.Keepers.{Keeper, IsForSame, CountsOn, KeptOneMore, MayKeep, IsKeeperFor, HasKept, IsSolvedSoFar, IsWholeLadder}
use Rattle.match_scores.proofs.OpeningSums.{GoOn}
use Rattle.match_scores.proofs.Places.{place-first}
use Rattle.match_scores.proofs.OneScore.{LeadDown}
use Rattle.match_scores.proofs.WholeLadder.{AreScores, solved-ladder, solved-next, and_then}

-- ---- one score

pub covers-next : (starts : StartPairs) (score : MatchScore) → length starts.pairs < length (ladder starts.match_length) → score ≡ score_at starts.match_length (length starts.pairs) → Covers starts score
covers-next starts score more is =
    let first = place-first starts.match_length (length starts.pairs) more in
    subst (Covers starts) (sym is) (record { listed = omega (arith, first, more); held = first })

pub may-keep : GoOn → LeadDown → AreScores → (checkers r : ℕ) → 1 ≤ checkers → checkers ≤ 3 → (starts : StartPairs) → AreStarts starts → (keeper : Keeper) → IsSolvedSoFar checkers starts.match_length r starts → IsKeeperFor checkers starts.match_length r keeper → HasKept starts keeper
    → length starts.pairs < length (ladder starts.match_length) → (score : MatchScore) → score ≡ score_at starts.match_length (length starts.pairs) → (words : WordList) → AreWordsAt checkers r score starts words → MayKeep keeper score starts words
may-keep goes down scores checkers r low high starts valid keeper so_far it kept more score is words closed = record {
  works = kept.works;
  before = sym kept.held;
  more = more;
  is_next = is;
  closed = rw (it.of_checkers, it.of_rounds) closed;
  earlier = rw (it.of_checkers, it.of_rounds) (so_far.solved.0, solved-ladder goes down scores checkers r low high starts valid so_far.solved.0 so_far.solved.1);
}

pub solved-more : (checkers r : ℕ) (starts : StartPairs) (score : MatchScore) (words : WordList) (pair : Bounds) (more : StartPairs) → IsSolvedSoFar checkers starts.match_length r starts → score ≡ score_at starts.match_length (length starts.pairs) → AreWordsAt checkers r score starts words
    → pair ≡ start_over words.game.checkers (words_in_list words) score → more ≡ with_pair starts pair → IsSolvedSoFar checkers starts.match_length r more
solved-more checkers r starts score words pair more so_far is closed start added =
    let count = length starts.pairs in
    let score' = score_at starts.match_length count in
    let same_checkers : words.game.checkers ≡ checkers = ap (λ (g : Game). g.checkers) closed.game in
    let closed' : AreWordsAt checkers r score' starts words = subst (λ (s : MatchScore). AreWordsAt checkers r s starts words) is closed in
    let start' : pair ≡ start_over checkers (words_in_list words) score' = start ∙ (ap (λ (n : ℕ). start_over n (words_in_list words) score) same_checkers ∙ ap (start_over checkers (words_in_list words)) is) in
    let next = solved-next checkers r starts so_far.solved.0 words so_far.solved.1 closed' in
    subst (λ (s : StartPairs). IsSolvedSoFar checkers starts.match_length r s) (sym (added ∙ ap (with_pair starts) start'))
    (record { of_length = refl; solved = (and_then so_far.solved.0 count words, next) })

-- the keeper has the start pair that is added too
pub kept-more : (starts more : StartPairs) (pair : Bounds) (score : MatchScore) (words : WordList) (old new : Keeper) → HasKept starts old → KeptOneMore score words old new
    → pair ≡ start_over words.game.checkers (words_in_list words) score → more ≡ with_pair starts pair → HasKept more new
kept-more starts more pair score words old new kept more_kept start added = record {
  works = more_kept.goes_on ∙ kept.works;
  held = more_kept.one_more
      ∙ (ap (λ (s : StartPairs). with_pair s (start_over words.game.checkers (words_in_list words) score)) kept.held
      ∙ (ap (with_pair starts) (sym start) ∙ sym added));
}

pub one-more : (starts more : StartPairs) (pair : Bounds) → more ≡ with_pair starts pair → length more.pairs ≡ length starts.pairs + 1
one-more starts more pair added = ap (λ (s : StartPairs). length s.pairs) added ∙ length-append starts.pairs (pair ∷ [])

-- ---- all scores

-- before the first score there is none to be solved
pub solved-none : (checkers n r : ℕ) (starts : StartPairs) → starts ≡ record { match_length = n; pairs = [] } → IsSolvedSoFar checkers n r starts
solved-none checkers n r starts is =
    subst (IsSolvedSoFar checkers n r) (sym is)
    (record { of_length = refl; solved = (λ place. list_of (game_at_score checkers last_game (record { match_length = n; pairs = [] })) r [], λ place less. absurd (omega arith)) })

pub none-held : (n : ℕ) (starts : StartPairs) → starts ≡ record { match_length = n; pairs = [] } → length starts.pairs ≡ 0
none-held n starts is = ap (λ (s : StartPairs). length s.pairs) is

pub same-keeper : (keeper : Keeper) → IsForSame keeper keeper
same-keeper keeper = record { checkers = refl; match_length = refl; rounds = refl }

pub same-counts : (keeper : Keeper) → CountsOn keeper keeper
same-counts keeper = record { write_faults = omega arith; put_faults = omega arith }

-- after the last score all pairs are held
pub all-held : (starts : StartPairs) (n index : ℕ) (items : List MatchScore) → AreStarts starts → starts.match_length ≡ n → items ≡ ladder n → length starts.pairs ≡ index → length items ≤ index → length starts.pairs ≡ length (ladder n)
all-held starts n index items valid of_length is many past =
    let low : length (ladder n) ≤ index = subst (λ (xs : List MatchScore). length xs ≤ index) is past in
    let high : length starts.pairs ≤ length (ladder n) = subst (λ (m : ℕ). length starts.pairs ≤ length (ladder m)) of_length valid.room in
    omega (arith, low, high, many)

pub whole-ladder : GoOn → LeadDown → AreScores → (checkers n r : ℕ) → 1 ≤ checkers → checkers ≤ 3 → (starts : StartPairs) → AreStarts starts → IsSolvedSoFar checkers n r starts → length starts.pairs ≡ length (ladder n) → IsWholeLadder checkers n r starts
whole-ladder goes down scores checkers n r low high starts valid so_far all = record {
  of_length = so_far.of_length;
  whole = all;
  solved = (so_far.solved.0, solved-ladder goes down scores checkers r low high starts valid so_far.solved.0 so_far.solved.1);
}
