-- What is told of the words between two places.
use Rattle.std.proofs.Common.{◌≡◌, ◌≤◌, ◌<◌, ◌+◌, ◌*◌, ℕ, Option, Some, None, arith, inl, inr, refl, sym, subst}
use Rattle.std.proofs.lemmas.Bool.{cases_lt}
use Rattle.std.proofs.Math.Nat.{add-mul, mul-le-mul_right}
use Rattle.position_rank.specs.Placement.{Placement}
use Rattle.position_rank.specs.LiveRanks.{live_rank_of}
use Rattle.directed_fixed.specs.declared.bounds.End.{End}
use Rattle.directed_fixed.specs.declared.bounds.End.TheVariants.{Lower, Upper}
use Rattle.turn_rule.specs.Games.{kinds_of}
use Rattle.turn_rule.specs.States.{IsState}
use Rattle.interval_words.specs.Numbers.{state_of, word_of}
use Rattle.interval_words.specs.WordLists.{WordList}
use Rattle.interval_words.proofs.Places.{state-same}
use Rattle.base_verify.specs.declared.finding.Finding.{Finding}
use Rattle.base_verify.specs.Findings.{WordHolds, HoldBetween, told_at, place_of_finding}
use Rattle.base_verify.specs.Checks.{IsFindingOf, TellsBetween, IsFirstBetween, word_place}

add-mul-one : (n k : ℕ) → (n + 1) * k ≡ n * k + k
add-mul-one n k = omega (arith, add-mul n 1 k)

module _ (words : WordList) where
  pub hold-none : (a : ℕ) → HoldBetween words a a
  hold-none a side p k state from to = absurd (omega (arith, from, to))

  pub hold-more : (a b c : ℕ) → HoldBetween words a b → HoldBetween words b c → HoldBetween words a c
  hold-more a b c first rest side p k state from to = elim (cases_lt (told_at words side p k) b) [
    | inl before ↦ first side p k state from before
    | inr after ↦ rest side p k state after to
  ]

  -- what is told of the words behind others that hold
  pub tells-after : (a b c : ℕ) (found : Option Finding) → a ≤ b → HoldBetween words a b → TellsBetween words b c found → TellsBetween words a c found
  tells-after a b c None le held told = hold-more a b c held told
  tells-after a b c (Some f) le held told = record {
    found = told.found;
    after = omega (arith, le, told.after);
    inside = told.inside;
    before = hold-more a b (place_of_finding words f) held told.before;
  }

  -- a finding among the first words
  pub found-before : (a b c : ℕ) (f : Finding) → b ≤ c → IsFirstBetween words a b f → IsFirstBetween words a c f
  found-before a b c f le told = record { found = told.found; after = told.after; inside = omega (arith, le, told.inside); before = told.before }

  word_is : (side : End) (n m : ℕ) → word_of Lower m ≤ word_of side n → word_of side n < word_of Lower (m + 1) → n ≡ m
  word_is Lower n m from to = omega arith
  word_is Upper n m from to = omega arith

  module _ (p : Placement) (k : ℕ) (state : IsState words.game p k) where
    -- the two words from a state's lower one on are those of the state
    same-state : (P : Placement → ℕ → Type 0) (q : Placement) (j : ℕ) → IsState words.game q j → state_of (kinds_of words.game) p k ≡ state_of (kinds_of words.game) q j → P p k → P q j
    same-state P q j other same holds =
        let is = state-same words.game.checkers (kinds_of words.game) p q k j state other same in
        subst (λ (r : Placement). P r j) is.0 (subst (λ (n : ℕ). P p n) is.1 holds)

    both-hold : ((side : End) → WordHolds words side p k) → HoldBetween words (word_of Lower (state_of (kinds_of words.game) p k)) (word_of Lower (state_of (kinds_of words.game) p k + 1))
    both-hold holds side q j other from to = same-state (WordHolds words side) q j other (sym (word_is side _ _ from to)) (holds side)

    lower-holds : WordHolds words Lower p k → HoldBetween words (word_of Lower (state_of (kinds_of words.game) p k)) (word_of Upper (state_of (kinds_of words.game) p k))
    lower-holds holds Upper q j other from to = absurd (omega (arith, from, to))
    lower-holds holds Lower q j other from to = same-state (WordHolds words Lower) q j other (omega (arith, from, to)) holds

    finding-at : (f : Finding) (side : End) → IsFindingOf words p k f → f.side ≡ side → place_of_finding words f ≡ word_of side (state_of (kinds_of words.game) p k)
    finding-at f side is e = rw (e, is.position, is.kind) refl

    found-in : (f : Finding) (side : End) → IsFindingOf words p k f → f.side ≡ side → IsFirstBetween words (word_of Lower (state_of (kinds_of words.game) p k)) (word_of Lower (state_of (kinds_of words.game) p k + 1)) f
    found-in f Lower is e =
        let at = finding-at f Lower is e in
        record {
          found = is.found;
          after = omega (arith, at);
          inside = omega (arith, at);
          before = λ side q j other from to. absurd (omega (arith, at, from, to));
        }
    found-in f Upper is e =
        let at = finding-at f Upper is e in
        record {
          found = is.found;
          after = omega (arith, at);
          inside = omega (arith, at);
          before = λ side q j other from to. lower-holds (is.lower e) side q j other from (omega (arith, at, to));
        }

    -- one kind more of the position
    pub kind-more : HoldBetween words (word_place words (live_rank_of p)) (word_of Lower (state_of (kinds_of words.game) p k)) → ((side : End) → WordHolds words side p k) → HoldBetween words (word_place words (live_rank_of p)) (word_of Lower (state_of (kinds_of words.game) p (k + 1)))
    unfolding state_of
    kind-more held holds =
        let next : word_of Lower (state_of (kinds_of words.game) p k + 1) ≡ word_of Lower (state_of (kinds_of words.game) p (k + 1)) = omega arith in
        subst (HoldBetween words (word_place words (live_rank_of p))) next (hold-more _ _ _ held (both-hold holds))

    -- a finding of the position
    pub kind-found : (f : Finding) → HoldBetween words (word_place words (live_rank_of p)) (word_of Lower (state_of (kinds_of words.game) p k)) → IsFindingOf words p k f → IsFirstBetween words (word_place words (live_rank_of p)) (word_place words (live_rank_of p + 1)) f
    unfolding state_of
    kind-found f held is =
        let more : (live_rank_of p + 1) * kinds_of words.game ≡ live_rank_of p * kinds_of words.game + kinds_of words.game = add-mul-one (live_rank_of p) (kinds_of words.game) in
        found-before _ (word_of Lower (state_of (kinds_of words.game) p k + 1)) _ f (omega (arith, more, state.kind))
        (tells-after _ (word_of Lower (state_of (kinds_of words.game) p k)) _ (Some f) (omega arith) held (found-in f f.side is refl))

  -- no kind yet, and all kinds
  pub no-kind : (p : Placement) → HoldBetween words (word_place words (live_rank_of p)) (word_of Lower (state_of (kinds_of words.game) p 0))
  unfolding state_of
  no-kind p =
      let same : word_place words (live_rank_of p) ≡ word_of Lower (state_of (kinds_of words.game) p 0) = omega arith in
      subst (HoldBetween words (word_place words (live_rank_of p))) same (hold-none (word_place words (live_rank_of p)))

  pub all-kinds : (p : Placement) (k : ℕ) → k ≡ kinds_of words.game → HoldBetween words (word_place words (live_rank_of p)) (word_of Lower (state_of (kinds_of words.game) p k)) → HoldBetween words (word_place words (live_rank_of p)) (word_place words (live_rank_of p + 1))
  unfolding state_of
  all-kinds p k all held =
      let more : (live_rank_of p + 1) * kinds_of words.game ≡ live_rank_of p * kinds_of words.game + kinds_of words.game = add-mul-one (live_rank_of p) (kinds_of words.game) in
      let same : word_of Lower (state_of (kinds_of words.game) p k) ≡ word_place words (live_rank_of p + 1) = omega (arith, more, all) in
      subst (HoldBetween words (word_place words (live_rank_of p))) same held

  -- a later live rank has a later place
  pub places-rise : (a b : ℕ) → a ≤ b → word_place words a ≤ word_place words b
  places-rise a b le = let more : a * kinds_of words.game ≤ b * kinds_of words.game = mul-le-mul_right (kinds_of words.game) le in omega (arith, more)

  -- a finding of the next position
  pub rank-found : (from rank to : ℕ) (p : Placement) (f : Finding) → live_rank_of p ≡ rank → from ≤ rank → rank < to → HoldBetween words (word_place words from) (word_place words rank)
      → IsFirstBetween words (word_place words (live_rank_of p)) (word_place words (live_rank_of p + 1)) f → IsFirstBetween words (word_place words from) (word_place words to) f
  rank-found from rank to p f is low high held told =
      let here : IsFirstBetween words (word_place words rank) (word_place words (rank + 1)) f = subst (λ (r : ℕ). IsFirstBetween words (word_place words r) (word_place words (r + 1)) f) is told in
      found-before (word_place words from) (word_place words (rank + 1)) (word_place words to) f (places-rise (rank + 1) to (omega (arith, high)))
      (tells-after (word_place words from) (word_place words rank) (word_place words (rank + 1)) (Some f) (places-rise from rank low) held here)
