-- The whole ladder: from one number of turns on the words of each score enclose its game and each start pair its start, and they are as tight
-- as the plain starts and the rounds for these.
use Rattle.std.proofs.Common.{◌≡◌, ◌<◌, ◌≤◌, ◌++◌, ◌∙◌, ℕ, zero, suc, max, List, [], ◌∷◌, Contains, length, length-append, take, get_or, cond, eqb, true, false, inl, inr, ap, refl, sym, subst, arith}
use Rattle.std.proofs.lemmas.Bool.{cases_lt}
use Rattle.std.proofs.lemmas.Bool.Decides.{nat_tests}
use Rattle.std.proofs.lemmas.List.{take_all, get_or-take, get_or_default, length-take-le, take-append-le, get_or_append_left}
use Rattle.std.proofs.Math.ListN.{get_or-eq_default}
use Rattle.std.proofs.Math.Seq.{get_or-append_seam}
use Rattle.std.proofs.lemmas.List.Elements.{All-take}
use Rattle.directed_fixed.specs.Bounds.{Bounds, IsWithin, AreNoLooserPairs}
use Rattle.cube_actions.specs.Scores.{MatchScore, IsScore, last_game}
use Rattle.cube_actions.specs.Ladder.{ladder, IsOfMatch}
use Rattle.cube_actions.specs.Stakes.{nothing, point_units}
use Rattle.cube_actions.specs.Starts.{StartPairs, AreStarts, Covers}
use Rattle.cube_actions.specs.Matches.{terms_of}
use Rattle.turn_rule.specs.declared.game.Game.{Game}
use Rattle.turn_rule.specs.Games.{IsGame, kinds_of}
use Rattle.turn_rule.specs.Turn.{rounds}
use Rattle.turn_rule.specs.States.{AreNoLooser}
use Rattle.turn_rule.specs.Truth.{Encloses, AreEnclosing, AreSoundFrom}
use Rattle.turn_rule.proofs.Integers.{le_refl}
use Rattle.turn_rule.proofs.Monotone.{stakes-rounds-tighter}
use Rattle.turn_rule.proofs.Tight.{words-trans}
use Rattle.interval_words.specs.WordLists.{WordList, words_in_list}
use Rattle.match_scores.specs.Openings.{start_over}
use Rattle.match_scores.specs.Payoffs.{ScoredMatch, match_scoring}
use Rattle.match_scores.specs.Ladders.{score_at, start_pair_at, starts_till, with_pair, game_at_score, IsScoredMatch, EnclosesStart, EncloseStarts, EnclosesGame, AreWordsAt, IsSolvedAt, IsSolved, IsTrueFrom, plain_starts, IsTightAt, IsLadder}
use Rattle.match_scores.proofs.Centred.{centred-terms}
use Rattle.match_scores.proofs.OpeningSums.{GoOn}
use Rattle.match_scores.proofs.Starts.{start-tighter}
use Rattle.match_scores.proofs.Places.{place-first}
use Rattle.match_scores.proofs.OneScore.{LeadDown, game-enclosed, start-enclosed}
use Rattle.match_scores.proofs.TighterStarts.{AreNoLooserStarts, stakes-no-looser}

-- a ladder has the scores of its match
abbrev pub AreScores : Type 0
AreScores = (match_length : ℕ) → 1 ≤ match_length → match_length ≤ 5 → (score : MatchScore) → Contains (ladder match_length) score → IsOfMatch match_length score

pub score-valid : AreScores → (match_length : ℕ) → 1 ≤ match_length → match_length ≤ 5 → (place : ℕ) → place < length (ladder match_length) → IsScore (score_at match_length place)
score-valid scores match_length from to place here = (scores match_length from to (score_at match_length place) (place, here, get_or_default (ladder match_length) place (score_at match_length place) last_game here)).valid

-- ---- the first starts

pub till-valid : (starts : StartPairs) (place : ℕ) → AreStarts starts → place ≤ length starts.pairs → AreStarts (starts_till starts place)
till-valid starts place valid here = record {
  from = valid.from;
  to = valid.to;
  room = rw (length-take-le place starts.pairs here) (omega (arith, here, valid.room));
  within = All-take (IsWithin (point_units 1)) place starts.pairs valid.within;
}

pub till-covers : (starts : StartPairs) (place : ℕ) → place < length (ladder starts.match_length) → place ≤ length starts.pairs → Covers (starts_till starts place) (score_at starts.match_length place)
till-covers starts place listed here =
    let first = place-first starts.match_length place listed in
    record { listed = omega (arith, first, listed); held = rw (length-take-le place starts.pairs here) first }

pub pair-till : (starts : StartPairs) (count place : ℕ) → place < count → start_pair_at (starts_till starts count) place ≡ start_pair_at starts place
pair-till starts count place before = get_or-take count starts.pairs place nothing before

either-max : (a b n : ℕ) → max a b ≤ n → (a ≤ n) × (b ≤ n)
either-max a b n h = (omega (arith, h), omega (arith, h))

same-place : (place count : ℕ) → place < suc count → count ≤ place → place ≡ count
same-place place count h k = omega (arith, h, k)

-- ---- it is true

module _ (goes : GoOn) (down : LeadDown) (scores : AreScores) (checkers r : ℕ) (low : 1 ≤ checkers) (high : checkers ≤ 3) (starts : StartPairs) (valid : AreStarts starts) (words : ℕ → WordList) (solved : IsSolved checkers r starts words) where
  -- from so many turns on, the first so many scores are enclosed
  abbrev IsTrueTill : ℕ → ℕ → Type 0
  IsTrueTill enough count =
      (scored : ScoredMatch) → IsScoredMatch checkers scored → enough ≤ scored.turns → (place : ℕ) → place < count
      → EnclosesGame scored starts place (words place) × EnclosesStart scored starts place

  module _ (count : ℕ) (here : count < length starts.pairs) where
    listed : count < length (ladder starts.match_length)
    listed = omega (arith, here, valid.room)

    is-score : IsScore (score_at starts.match_length count)
    is-score = score-valid scores starts.match_length valid.from valid.to count listed

    -- the next score is enclosed, if those before it are
    next-true : (scored : ScoredMatch) → IsScoredMatch checkers scored → ((place : ℕ) → place < count → EnclosesStart scored starts place)
        → (enough : ℕ) → AreSoundFrom (words count).game enough (words_in_list (words count)) → enough ≤ scored.turns
        → EnclosesGame scored starts count (words count) × EnclosesStart scored starts count
    next-true scored is_scored before enough sound more =
        let at = solved count here in
        let score = score_at starts.match_length count in
        let first = starts_till starts count in
        let u = words_in_list (words count) in
        let first-enclosed : EncloseStarts scored first = λ place inside. (
        let less : place < count = rw (length-take-le count starts.pairs (omega (arith, here))) at inside in
        subst (λ (pair : Bounds). Encloses pair (scored.starts (score_at starts.match_length place)) scored.scale) (sym (pair-till starts count place less)) (before place less)) in
        let game : AreEnclosing (game_at_score checkers score first) (match_scoring scored score) scored.turns u =
        game-enclosed down checkers scored is_scored score first (till-valid starts count valid (omega (arith, here))) is-score (till-covers starts count listed (omega (arith, here))) first-enclosed enough u more
        (subst (λ (g : Game). AreSoundFrom g enough u) at.closed.game sound) in (
          subst (λ (g : Game). AreEnclosing g (match_scoring scored score) scored.turns u) (sym at.closed.game) game,
          subst (λ (pair : Bounds). Encloses pair (scored.starts score) scored.scale) (sym at.start) (start-enclosed checkers scored score first (is_scored.starts score is-score) goes low high u game),
        )

  true-till : (count : ℕ) → count ≤ length starts.pairs → (enough : ℕ) × IsTrueTill enough count
  true-till zero here = (0, λ scored is_scored more place less. absurd (omega arith))
  true-till (suc count) here =
      let before = true-till count (omega (arith, here)) in
      let inside : count < length starts.pairs = omega (arith, here) in
      let sound = (solved count inside).closed.closed.sound in (
        max before.0 sound.0,
        λ scored is_scored more place less. (
            let both = either-max before.0 sound.0 scored.turns more in
            elim (cases_lt place count) [
              | inl earlier ↦ before.1 scored is_scored both.0 place earlier
              | inr last ↦ subst (λ (n : ℕ). EnclosesGame scored starts n (words n) × EnclosesStart scored starts n) (sym (same-place place count less last))
                  (next-true count inside scored is_scored (λ place earlier. (before.1 scored is_scored both.0 place earlier).1) sound.0 sound.1 both.1)
            ]),
      )

  pub solved-true : (enough : ℕ) × IsTrueFrom enough checkers starts words
  solved-true = true-till (length starts.pairs) (omega arith)

-- ---- it is tight

plain-length : (checkers r match_length count : ℕ) → (plain_starts checkers r match_length count).match_length ≡ match_length
plain-length checkers r match_length zero = refl
plain-length checkers r match_length (suc count) = plain-length checkers r match_length count

plain-many : (checkers r match_length count : ℕ) → length (plain_starts checkers r match_length count).pairs ≡ count
plain-many checkers r match_length zero = refl
plain-many checkers r match_length (suc count) = length-append (plain_starts checkers r match_length count).pairs _ ∙ (let before = plain-many checkers r match_length count in omega (arith, before))

-- a plain start stays as it was made
plain-at : (checkers r match_length count place : ℕ) → place < count → start_pair_at (plain_starts checkers r match_length count) place ≡ start_pair_at (plain_starts checkers r match_length (suc place)) place
plain-at checkers r match_length zero place less = absurd (omega arith)
plain-at checkers r match_length (suc count) place less = elim (cases_lt place count) [
  | inl earlier ↦ get_or_append_left (plain_starts checkers r match_length count).pairs _ nothing place (rw plain-many earlier) ∙ plain-at checkers r match_length count place earlier
  | inr last ↦ ap (λ (n : ℕ). start_pair_at (plain_starts checkers r match_length (suc n)) place) (sym (same-place place count less last))
]

-- the last of them is that of the rounds for the stakes of those before it
plain-last : (checkers r match_length count : ℕ) → start_pair_at (plain_starts checkers r match_length (suc count)) count ≡ start_over checkers (rounds (terms_of (score_at match_length count) (plain_starts checkers r match_length count)) r) (score_at match_length count)
plain-last checkers r match_length count =
    let before = plain_starts checkers r match_length count in
    let start = start_over checkers (rounds (terms_of (score_at match_length count) before) r) (score_at match_length count) in
    subst (λ (n : ℕ). get_or (before.pairs ++ start ∷ []) n nothing ≡ start) (plain-many checkers r match_length count) (get_or-append_seam before.pairs start [] nothing)

no-looser : (pair : Bounds) → AreNoLooserPairs pair pair
no-looser pair = record { lower = le_refl _; upper = le_refl _ }

-- the start pairs before a place are as tight as the plain ones
pub till-tight : (checkers r : ℕ) (starts : StartPairs) (count : ℕ) → count ≤ length starts.pairs → ((place : ℕ) → place < count → AreNoLooserPairs (start_pair_at starts place) (start_pair_at (plain_starts checkers r starts.match_length (suc place)) place))
    → AreNoLooserStarts (starts_till starts count) (plain_starts checkers r starts.match_length count)
till-tight checkers r starts count here before =
    let plain = plain_starts checkers r starts.match_length in
    record {
      of_length = sym (plain-length checkers r starts.match_length count);
      pairs = λ place. elim (cases_lt place count) [
        | inl earlier ↦ rw (pair-till starts count place earlier, plain-at checkers r starts.match_length count place earlier) (before place earlier)
        | inr past ↦ rw (get_or-eq_default (take count starts.pairs) nothing {n = place} (rw (length-take-le count starts.pairs here) past), get_or-eq_default (plain count).pairs nothing {n = place} (rw (plain-many checkers r starts.match_length count) past)) (no-looser nothing)
      ];
    }

module _ (goes : GoOn) (checkers r : ℕ) (low : 1 ≤ checkers) (high : checkers ≤ 3) (starts : StartPairs) (words : ℕ → WordList) (solved : IsSolved checkers r starts words) where
  abbrev plain : ℕ → StartPairs
  plain = plain_starts checkers r starts.match_length

  next-tight : (count : ℕ) → count < length starts.pairs → ((place : ℕ) → place < count → AreNoLooserPairs (start_pair_at starts place) (start_pair_at (plain (suc place)) place)) → IsTightAt checkers r starts count (words count)
  next-tight count here before =
      let at = solved count here in
      let score = score_at starts.match_length count in
      let first = starts_till starts count in
      let game = game_at_score checkers score first in
      let u = words_in_list (words count) in
      let valid : IsGame game = subst IsGame at.closed.game at.closed.valid in
      let tight : AreNoLooser game u (rounds game.stakes r) = subst (λ (n : ℕ). AreNoLooser game u (rounds game.stakes n)) at.closed.rounds
      (subst (λ (g : Game). AreNoLooser g u (rounds g.stakes (words count).rounds)) at.closed.game at.closed.closed.tight) in
      let stakes = stakes-no-looser score first (plain count) (till-tight checkers r starts count (omega (arith, here)) before) in
      let rounds-tight : AreNoLooser game (rounds game.stakes r) (rounds (terms_of score (plain count)) r) = stakes-rounds-tighter game (terms_of score (plain count)) valid.stakes stakes r in
      let all : AreNoLooser game u (rounds (terms_of score (plain count)) r) = words-trans game.checkers (kinds_of game) u (rounds game.stakes r) (rounds (terms_of score (plain count)) r) tight rounds-tight in
      record {
        start = rw (at.start, plain-last checkers r starts.match_length count) (start-tighter goes checkers (kinds_of game) low high score (centred-terms score first) u (rounds (terms_of score (plain count)) r) all);
        states = subst (λ (g : Game). AreNoLooser g u (rounds (terms_of score (plain count)) r)) (sym at.closed.game) all;
      }

  tight-till : (count : ℕ) → count ≤ length starts.pairs → (place : ℕ) → place < count → IsTightAt checkers r starts place (words place)
  tight-till zero here place less = absurd (omega arith)
  tight-till (suc count) here place less =
      let before = tight-till count (omega (arith, here)) in
      elim (cases_lt place count) [
        | inl earlier ↦ before place earlier
        | inr last ↦ subst (λ (n : ℕ). IsTightAt checkers r starts n (words n)) (sym (same-place place count less last)) (next-tight count (omega (arith, here)) (λ place earlier. (before place earlier).start))
      ]

  pub solved-tight : (place : ℕ) → place < length starts.pairs → IsTightAt checkers r starts place (words place)
  solved-tight = tight-till (length starts.pairs) (omega arith)

-- so a ladder that is solved is true and tight
pub solved-ladder : GoOn → LeadDown → AreScores → (checkers r : ℕ) → 1 ≤ checkers → checkers ≤ 3 → (starts : StartPairs) → AreStarts starts → (words : ℕ → WordList) → IsSolved checkers r starts words → IsLadder checkers r starts words
solved-ladder goes down scores checkers r low high starts valid words solved = record {
  solved = solved;
  true_from = solved-true goes down scores checkers r low high starts valid words solved;
  tight = solved-tight goes checkers r low high starts words solved;
}

-- ---- one score more

-- the same, but for one place
pub and_then : {A : Type 0} → (ℕ → A) → ℕ → A → ℕ → A
and_then words count next place = cond (eqb place count) next (words place)

pub and_then-last : {A : Type 0} (words : ℕ → A) (count : ℕ) (next : A) → and_then words count next count ≡ next
unfolding and_then
and_then-last words count next = let same : eqb count count ≡ true = grind (arith, nat_tests) in rw same refl

pub and_then-before : {A : Type 0} (words : ℕ → A) (count : ℕ) (next : A) (place : ℕ) → place < count → and_then words count next place ≡ words place
unfolding and_then
and_then-before words count next place less = let apart : eqb place count ≡ false = grind (arith, nat_tests) in rw apart refl

pair-before : (starts : StartPairs) (pair : Bounds) (place : ℕ) → place < length starts.pairs → start_pair_at (with_pair starts pair) place ≡ start_pair_at starts place
pair-before starts pair place here = get_or_append_left starts.pairs (pair ∷ []) nothing place here

pub till-same : (starts : StartPairs) (pair : Bounds) (place : ℕ) → place ≤ length starts.pairs → starts_till (with_pair starts pair) place ≡ starts_till starts place
till-same starts pair place here = ap (λ (pairs : List Bounds). record starts { pairs = pairs }) (take-append-le place starts.pairs (pair ∷ []) here)

pub all-taken : (starts : StartPairs) → starts_till starts (length starts.pairs) ≡ starts
all-taken starts = ap (λ (pairs : List Bounds). record starts { pairs = pairs }) (take_all (length starts.pairs) starts.pairs (omega arith))

pub solved-next : (checkers r : ℕ) (starts : StartPairs) (words : ℕ → WordList) (next : WordList) → IsSolved checkers r starts words → AreWordsAt checkers r (score_at starts.match_length (length starts.pairs)) starts next
    → IsSolved checkers r (with_pair starts (start_over checkers (words_in_list next) (score_at starts.match_length (length starts.pairs)))) (and_then words (length starts.pairs) next)
solved-next checkers r starts words next solved closed place less =
    let count = length starts.pairs in
    let score = score_at starts.match_length count in
    let pair = start_over checkers (words_in_list next) score in
    let less' : place < suc count = (let many = length-append starts.pairs (pair ∷ []) in omega (arith, less, many)) in
    elim (cases_lt place count) [
      | inl earlier ↦ (let at = solved place earlier in
          rw (and_then-before words count next place earlier) (record { closed = rw (till-same starts pair place (omega (arith, earlier))) at.closed; start = pair-before starts pair place earlier ∙ at.start }))
      | inr last ↦ subst (λ (n : ℕ). IsSolvedAt checkers r (with_pair starts pair) n (and_then words count next n)) (sym (same-place place count less' last))
          (rw (and_then-last words count next) (record { closed = rw (till-same starts pair count (omega arith), all-taken starts) closed; start = get_or-append_seam starts.pairs pair [] nothing }))
    ]
