-- Where the words of a state stand.
use Rattle.std.proofs.Common.{◌≡◌, ◌≢◌, ◌<◌, ◌≤◌, ◌+◌, ◌*◌, ◌/◌, ◌%◌, ℕ, ℤ, List, length, get_or, set, arith, refl, sym, ap, subst, ◌∙◌, inl, inr}
use Rattle.std.proofs.lemmas.Bool.{cases_order}
use Rattle.std.proofs.lemmas.Nat.{div-mul-add, mod-mul-add}
use Rattle.std.proofs.lemmas.List.{get_or-set_same, get_or-set_other}
use Rattle.std.proofs.Math.Nat.{mul-le-mul_right}
use Rattle.position_rank.specs.Placement.{Placement}
use Rattle.position_rank.specs.LiveRanks.{live_rank_of, live_positions}
use Rattle.position_rank.proofs.LiveLaws.{live-same, live-rank-in}
use Rattle.directed_fixed.specs.declared.bounds.End.{End}
use Rattle.directed_fixed.specs.declared.bounds.End.TheVariants.{Lower, Upper}
use Rattle.turn_rule.specs.States.{IsStateOf}
use Rattle.interval_words.specs.Numbers.{state_of, states_in, word_of, words_of, value_of}

module _ (checkers kinds : ℕ) where
  -- states of equal numbers are the same
  pub state-same : (p q : Placement) (k l : ℕ) → IsStateOf checkers kinds p k → IsStateOf checkers kinds q l → state_of kinds p k ≡ state_of kinds q l → (p ≡ q) × (k ≡ l)
  unfolding state_of
  state-same p q k l is_p is_q same =
      let ranks : live_rank_of p ≡ live_rank_of q = sym (div-mul-add (live_rank_of p) kinds k is_p.kind) ∙ ap (λ (n : ℕ). n / kinds) same ∙ div-mul-add (live_rank_of q) kinds l is_q.kind in
      let rests : k ≡ l = sym (mod-mul-add (live_rank_of p) kinds k is_p.kind) ∙ ap (λ (n : ℕ). n % kinds) same ∙ mod-mul-add (live_rank_of q) kinds l is_q.kind in
      (live-same p q is_p.position is_q.position is_p.live is_q.live (is_p.many ∙ sym is_q.many) ranks, rests)

  pub state-in : (p : Placement) (k : ℕ) → IsStateOf checkers kinds p k → state_of kinds p k < states_in checkers kinds
  unfolding state_of states_in
  state-in p k is =
      let below : live_rank_of p < live_positions checkers = subst (λ (n : ℕ). live_rank_of p < live_positions n) is.many (live-rank-in p is.position is.live) in
      let room : (live_rank_of p + 1) * kinds ≤ live_positions checkers * kinds = mul-le-mul_right kinds (omega arith) in
      omega (arith, room, is.kind)

  -- words of equal numbers are the same end of the same state
  pub word-same : (d e : End) (m n : ℕ) → word_of d m ≡ word_of e n → (d ≡ e) × (m ≡ n)
  word-same Lower Lower m n same = (refl, omega arith)
  word-same Upper Upper m n same = (refl, omega arith)
  word-same Lower Upper m n same = absurd (omega arith)
  word-same Upper Lower m n same = absurd (omega arith)

  pub word-in : (end : End) (n all : ℕ) → n < all → word_of end n < 2 * all
  word-in Lower n all h = omega arith
  word-in Upper n all h = omega arith

  module _ (list : List ℕ) (full : length list ≡ 2 * states_in checkers kinds) (end : End) (p : Placement) (k : ℕ) (is : IsStateOf checkers kinds p k) (word : ℕ) where
    pub written : words_of kinds (set list (word_of end (state_of kinds p k)) word) end p k ≡ value_of word
    written =
        let inside : word_of end (state_of kinds p k) < length list = rw full (word-in end _ _ (state-in p k is)) in
        ap value_of (get_or-set_same list (word_of end (state_of kinds p k)) word 0 inside)

    -- what holds of the word written, and of each other word as it was, holds of every word
    pub by_words : (P : End → Placement → ℕ → ℤ → Type 0) → P end p k (value_of word) → ((d : End) (q : Placement) (l : ℕ) → IsStateOf checkers kinds q l → P d q l (words_of kinds list d q l)) → (d : End) (q : Placement) (l : ℕ) → IsStateOf checkers kinds q l → P d q l (words_of kinds (set list (word_of end (state_of kinds p k)) word) d q l)
    by_words P here there d q l state = elim (cases_order (word_of d (state_of kinds q l)) (word_of end (state_of kinds p k))) [
      | inl same ↦
          let ends = word-same d end (state_of kinds q l) (state_of kinds p k) same in
          let states = state-same q p l k state is ends.1 in
          let value : words_of kinds (set list (word_of end (state_of kinds p k)) word) d q l ≡ value_of word = ap (λ (n : ℕ). value_of (get_or (set list (word_of end (state_of kinds p k)) word) n 0)) same ∙ written in
          let one : P d p k (value_of word) = subst (λ (c : End). P c p k (value_of word)) (sym ends.0) here in
          let two : P d q k (value_of word) = subst (λ (r : Placement). P d r k (value_of word)) (sym states.0) one in
          let three : P d q l (value_of word) = subst (λ (n : ℕ). P d q n (value_of word)) (sym states.1) two in
          subst (λ (z : ℤ). P d q l z) (sym value) three
      | inr apart ↦ away d q l state (elim apart [ inl h ↦ (λ e. absurd (omega arith)) | inr h ↦ (λ e. absurd (omega arith)) ])
    ] where
      away : (d : End) (q : Placement) (l : ℕ) → IsStateOf checkers kinds q l → word_of d (state_of kinds q l) ≢ word_of end (state_of kinds p k) → P d q l (words_of kinds (set list (word_of end (state_of kinds p k)) word) d q l)
      away d q l state differs = subst (λ (w : ℕ). P d q l (value_of w)) (sym (get_or-set_other list (word_of end (state_of kinds p k)) (word_of d (state_of kinds q l)) word 0 differs)) (there d q l state)
