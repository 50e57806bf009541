-- What views tell of words.
use Rattle.std.proofs.Common.{◌≡◌, ◌≢◌, ◌==◌, ℕ, zero, suc, ℤ, List, [], ◌∷◌, ◌++◌, All, set, Bool, if◌then◌else◌, arith, refl, sym, subst, inl, inr, eq-eqb, ne_eqb}
use Rattle.std.specs.List.{Contains}
use Rattle.std.proofs.lemmas.Bool.{cases_order}
use Rattle.std.proofs.lemmas.List.Elements.{All-tail}
use mathlib.Core.Option.{some, some-injective, some-ne-none}
use lib.ListN.{get_elem?}
use Rattle.position_rank.specs.Placement.{Placement}
use Rattle.directed_fixed.specs.declared.bounds.End.{End}
use Rattle.directed_fixed.specs.Bounds.{IsNoLooser}
use Rattle.turn_rule.specs.Games.{kinds_of}
use Rattle.turn_rule.specs.Turn.{Words, bound_words}
use Rattle.turn_rule.specs.States.{IsState, AreNoLooser}
use Rattle.turn_rule.specs.declared.game.Game.{Game}
use Rattle.interval_words.specs.declared.view.Note.{Note}
use Rattle.interval_words.specs.Numbers.{state_of, word_of, tightest}
use Rattle.interval_words.specs.Core.{noted}
use Rattle.interval_words.proofs.Ends.{tightest-mono, tight-refl, tight-trans, tight-tightest, tightest-left, tightest-right}
use Rattle.interval_words.proofs.Places.{word-same, state-same}

-- all of a list, and one at a place
pub All-at : {X : Type 0} (P : X → Type 0) (xs : List X) (i : ℕ) (x : X) → All P xs → get_elem? xs i ≡ some x → P x
All-at P [] i x all at = absurd (some-ne-none x (sym at))
All-at P (y ∷ ys) zero x all at = subst P (some-injective y x at) (all 0 y (omega arith))
All-at P (y ∷ ys) (suc i) x all at = All-at P ys i x (All-tail P y ys all) at

-- what stands at a place of a list is in it
pub contains-at : {X : Type 0} (xs : List X) (i : ℕ) (x : X) → get_elem? xs i ≡ some x → Contains xs x
contains-at [] i x at = absurd (some-ne-none x (sym at))
contains-at (y ∷ ys) zero x at = (0, omega arith, some-injective y x at)
contains-at (y ∷ ys) (suc i) x at = let rest = contains-at ys i x at in (suc rest.0, omega (arith, rest.1), rest.2)

-- what was put at a place is there
pub set-at : {X : Type 0} (xs : List X) (i : ℕ) (x y : X) → get_elem? xs i ≡ some x → get_elem? (set xs i y) i ≡ some y
set-at [] i x y at = absurd (some-ne-none x (sym at))
set-at (z ∷ zs) zero x y at = refl
set-at (z ∷ zs) (suc i) x y at = set-at zs i x y at

-- a choice by whether two numbers are the same
pub by_number : (m n : ℕ) (a b : ℤ) (P : ℤ → Type 0) → (m ≡ n → P a) → (m ≢ n → P b) → P (if m == n then a else b)
by_number m n a b P hit miss = elim (cases_order m n) [
  | inl same ↦ subst (λ (t : Bool). P (if t then a else b)) (sym (eq-eqb m n same)) (hit same)
  | inr apart ↦ other (elim apart [ inl h ↦ (λ e. absurd (omega arith)) | inr h ↦ (λ e. absurd (omega arith)) ])
] where
  other : m ≢ n → P (if m == n then a else b)
  other differs = subst (λ (t : Bool). P (if t then a else b)) (sym (ne_eqb m n differs)) (miss differs)

module _ (game : Game) where
  -- one note more
  pub noted-cases : (note : Note) (notes : List Note) (end : End) (p : Placement) (k : ℕ) (P : ℤ → Type 0)
      → (note.word ≡ word_of end (state_of (kinds_of game) p k) → P (tightest end note.value (noted game notes end p k)))
      → (note.word ≢ word_of end (state_of (kinds_of game) p k) → P (noted game notes end p k))
      → P (noted game (note ∷ notes) end p k)
  noted-cases note notes end p k P hit miss = by_number note.word (word_of end (state_of (kinds_of game) p k)) (tightest end note.value (noted game notes end p k)) (noted game notes end p k) P hit miss

  -- no note loosens
  pub noted-more : (note : Note) (notes : List Note) → AreNoLooser game (noted game (note ∷ notes)) (noted game notes)
  noted-more note notes end p k state = noted-cases note notes end p k (λ z. IsNoLooser end z (noted game notes end p k)) (λ hit. tightest-right end note.value (noted game notes end p k)) (λ miss. tight-refl end (noted game notes end p k))

  -- a note is told
  pub noted-own : (value : ℤ) (notes : List Note) (end : End) (p : Placement) (k : ℕ) → IsNoLooser end (noted game (record { word = word_of end (state_of (kinds_of game) p k); value = value } ∷ notes) end p k) value
  noted-own value notes end p k = noted-cases (record { word = word_of end (state_of (kinds_of game) p k); value = value }) notes end p k (λ z. IsNoLooser end z value) (λ hit. tightest-left end value (noted game notes end p k)) (λ miss. absurd (miss refl))

  -- what holds of a note's value, and of what the other notes tell, holds of all that they tell
  pub noted-each : (value : ℤ) (notes : List Note) (end : End) (p : Placement) (k : ℕ) → IsState game p k → (P : End → Placement → ℕ → ℤ → Type 0)
      → (P end p k (noted game notes end p k) → P end p k (tightest end value (noted game notes end p k)))
      → ((d : End) (q : Placement) (l : ℕ) → IsState game q l → P d q l (noted game notes d q l))
      → (d : End) (q : Placement) (l : ℕ) → IsState game q l → P d q l (noted game (record { word = word_of end (state_of (kinds_of game) p k); value = value } ∷ notes) d q l)
  noted-each value notes end p k is P here there d q l state =
      noted-cases (record { word = word_of end (state_of (kinds_of game) p k); value = value }) notes d q l (P d q l)
      (λ hit.
      let ends = word-same game.checkers (kinds_of game) end d _ _ hit in
      let states = state-same game.checkers (kinds_of game) p q k l is state ends.1 in
      let Q : End → Placement → ℕ → Type 0 = λ c r n. P c r n (tightest c value (noted game notes c r n)) in
      let one : Q end p k = here (there end p k is) in
      let two : Q d p k = subst (λ (c : End). Q c p k) ends.0 one in
      let three : Q d q k = subst (λ (r : Placement). Q d r k) states.0 two in
      subst (λ (n : ℕ). Q d q n) states.1 three)
      (λ miss. there d q l state)

  -- notes of two lists tell no more than both
  pub noted-append : (u : Words) (ms ns : List Note) → AreNoLooser game u (noted game ms) → AreNoLooser game u (noted game ns) → AreNoLooser game u (noted game (ms ++ ns))
  noted-append u [] ns one two end p k state = two end p k state
  noted-append u (m ∷ ms) ns one two end p k state =
      let rest : AreNoLooser game u (noted game (ms ++ ns)) = noted-append u ms ns (λ d q l at. tight-trans d _ _ _ (one d q l at) (noted-more m ms d q l at)) two in
      noted-cases m (ms ++ ns) end p k (IsNoLooser end (u end p k))
      (λ hit. tight-tightest end m.value (noted game (ms ++ ns) end p k) (u end p k) (tight-trans end _ _ _ (one end p k state) (noted-cases m ms end p k (λ z. IsNoLooser end z m.value) (λ same. tightest-left end m.value (noted game ms end p k)) (λ miss. absurd (miss hit)))) (rest end p k state))
      (λ miss. rest end p k state)

  -- notes tell no less than the bound
  pub noted-opening : (notes : List Note) → AreNoLooser game (noted game notes) (bound_words game.stakes)
  noted-opening [] end p k state = tight-refl end (bound_words game.stakes end p k)
  noted-opening (n ∷ ns) end p k state = tight-trans end _ _ _ (noted-more n ns end p k state) (noted-opening ns end p k state)

  -- notes of two lists tell no less than those of each
  pub noted-second : (ms ns : List Note) → AreNoLooser game (noted game (ms ++ ns)) (noted game ns)
  noted-second [] ns end p k state = tight-refl end (noted game ns end p k)
  noted-second (m ∷ ms) ns end p k state = tight-trans end _ _ _ (noted-more m (ms ++ ns) end p k state) (noted-second ms ns end p k state)

  pub noted-first : (ms ns : List Note) → AreNoLooser game (noted game (ms ++ ns)) (noted game ms)
  noted-first [] ns end p k state = noted-opening ns end p k state
  noted-first (m ∷ ms) ns end p k state =
      let rest = noted-first ms ns end p k state in
      noted-cases m (ms ++ ns) end p k (λ z. IsNoLooser end z (noted game (m ∷ ms) end p k))
      (λ hit. noted-cases m ms end p k (IsNoLooser end (tightest end m.value (noted game (ms ++ ns) end p k))) (λ same. tightest-mono end m.value _ _ rest) (λ miss. absurd (miss hit)))
      (λ miss. noted-cases m ms end p k (IsNoLooser end (noted game (ms ++ ns) end p k)) (λ hit. absurd (miss hit)) (λ other. rest))
