-- What is told of all words.
use Rattle.std.proofs.Common.{◌≡◌, ◌<◌, ◌*◌, ◌∙◌, ℕ, ℤ, arith, inl, inr, sym, subst}
use Rattle.std.proofs.lemmas.Bool.{cases_order}
use Rattle.std.proofs.lemmas.Int.{ints}
use Rattle.position_rank.specs.Placement.{Placement}
use Rattle.position_rank.specs.LiveRanks.{live_positions}
use Rattle.directed_fixed.specs.declared.bounds.End.{End}
use Rattle.directed_fixed.specs.declared.bounds.End.TheVariants.{Lower, Upper}
use Rattle.directed_fixed.specs.Bounds.{IsNoLooser}
use Rattle.turn_rule.specs.Games.{kinds_of}
use Rattle.turn_rule.specs.Turn.{Words}
use Rattle.turn_rule.specs.Truth.{AreConsistent}
use Rattle.interval_words.specs.Numbers.{state_of, states_in, word_of}
use Rattle.interval_words.specs.WordLists.{WordList, words_in_list}
use Rattle.interval_words.proofs.Places.{state-in, state-same, word-same}
use Rattle.base_verify.specs.declared.finding.Finding.{Finding}
use Rattle.base_verify.specs.Findings.{WordHolds, HoldBetween, IsFinding, IsFirstFinding, IsLooser, told_at, place_of_finding, turn_over}
use Rattle.base_verify.specs.Checks.{IsFirstBetween, word_place}

module _ (words : WordList) where
  word-inside : (side : End) (p : Placement) (k n : ℕ) → state_of (kinds_of words.game) p k < n → told_at words side p k < word_of Lower n
  word-inside Lower p k n below = omega (arith, below)
  word-inside Upper p k n below = omega (arith, below)

  pub all-hold : HoldBetween words (word_place words 0) (word_place words (live_positions words.game.checkers)) → AreConsistent words.game (words_in_list words)
  unfolding states_in
  all-hold held side p k state =
      held side p k state (omega arith) (word-inside side p k (live_positions words.game.checkers * kinds_of words.game) (state-in words.game.checkers (kinds_of words.game) p k state))

  pub first-of-all : (to : ℕ) (f : Finding) → IsFirstBetween words (word_place words 0) to f → IsFirstFinding words f
  first-of-all to f told = record {
    found = told.found;
    before = λ side p k state from below. told.before side p k state (omega arith) below;
  }

  clash : (side : End) (a b : ℤ) → IsLooser side a b → IsNoLooser side a b → ⊥
  clash Lower a b looser not = absurd (omega (arith, ints, looser, not))
  clash Upper a b looser not = absurd (omega (arith, ints, looser, not))

  pub never-holds : (f : Finding) → IsFinding words f → WordHolds words f.side f.position f.kind → ⊥
  never-holds f is holds =
      clash f.side (turn_over words f.side f.position f.kind) (words_in_list words f.side f.position f.kind)
      (subst (λ (z : ℤ). IsLooser f.side (turn_over words f.side f.position f.kind) z) is.stored (subst (λ (z : ℤ). IsLooser f.side z f.stored) is.computed is.looser)) holds

  same-word : (w : Words) (f g : Finding) → f.side ≡ g.side → f.position ≡ g.position → f.kind ≡ g.kind → w f.side f.position f.kind ≡ w g.side g.position g.kind
  same-word w f g sides positions kinds = λ i. w (sides i) (positions i) (kinds i)

  same-finding : (f g : Finding) → IsFinding words f → IsFinding words g → place_of_finding words f ≡ place_of_finding words g → f ≡ g
  same-finding f g is_f is_g same =
      let ends = word-same words.game.checkers (kinds_of words.game) f.side g.side (state_of (kinds_of words.game) f.position f.kind) (state_of (kinds_of words.game) g.position g.kind) same in
      let states = state-same words.game.checkers (kinds_of words.game) f.position g.position f.kind g.kind is_f.state is_g.state ends.1 in
      let stored : f.stored ≡ g.stored = is_f.stored ∙ same-word (words_in_list words) f g ends.0 states.0 states.1 ∙ sym is_g.stored in
      let computed : f.computed ≡ g.computed = is_f.computed ∙ same-word (turn_over words) f g ends.0 states.0 states.1 ∙ sym is_g.computed in
      λ i. record { position = states.0 i; kind = states.1 i; side = ends.0 i; stored = stored i; computed = computed i }

  pub one-first : (f g : Finding) → IsFirstFinding words f → IsFirstFinding words g → f ≡ g
  one-first f g first_f first_g = elim (cases_order (place_of_finding words f) (place_of_finding words g)) [
    | inl same ↦ same-finding f g first_f.found first_g.found same
    | inr apart ↦ elim apart [
      | inl less ↦ absurd (never-holds f first_f.found (first_g.before f.side f.position f.kind first_f.found.state (omega arith) less))
      | inr more ↦ absurd (never-holds g first_g.found (first_f.before g.side g.position g.kind first_g.found.state (omega arith) more))
    ]
  ]
