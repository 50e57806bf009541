-- Where the values of positions and kinds stand.
use Rattle.std.proofs.Common.{◌≡◌, ◌<◌, ◌+◌, ◌*◌, ◌≢◌, ◌∙◌, ℕ, ℤ, pos, List, length, get_or, set, inl, inr, get_or-set_same, get_or-set_other, below_more, ap, arith}
use Rattle.std.proofs.lemmas.Bool.{cases_lt, cases_eq}
use Rattle.std.proofs.lemmas.Nat.{mul-add-lt}
use Rattle.std.proofs.lemmas.List.{get_or_default}
use Rattle.column_turns.specs.Turns.{place_in}

pub places-same : (kinds a b i j : ℕ) → i < kinds → j < kinds → place_in kinds a i ≡ place_in kinds b j → (a ≡ b) × (i ≡ j)
places-same kinds a b i j h k e = elim (cases_eq a b) [
  | inl same ↦ (same, omega (arith, e, ap (λ (n : ℕ). n * kinds) same))
  | inr apart ↦ absurd (elim (cases_lt a b) [ inl less ↦ omega (arith, e, mul-add-lt a kinds i b less h) | inr more ↦ omega (arith, e, mul-add-lt b kinds j a (omega (arith, apart, more)) k) ])
]

pub place-below : (kinds a many i : ℕ) → a < many → i < kinds → place_in kinds a i < many * kinds
place-below kinds a many i h k = omega (arith, mul-add-lt a kinds i many h k)

module _ {X : Type 0} (kinds number : ℕ) (all : List X) (none : X) (i : ℕ) (x : X) where
  -- the values of another position or kind stay
  pub put-other : (a k : ℕ) → k < kinds → number < kinds → (place_in kinds a k ≡ place_in kinds i number → ⊥) → get_or (set all (place_in kinds i number) x) (place_in kinds a k) none ≡ get_or all (place_in kinds a k) none
  put-other a k below within apart = get_or-set_other all (place_in kinds i number) (place_in kinds a k) x none apart

module _ (one all : List ℤ) (kinds number many i : ℕ) (x : ℤ) where
  pub put-more : number < kinds → i < many → many * kinds < length all + 1 → i < length one → x ≡ get_or one i x
      → ((a : ℕ) → a < i → get_or all (place_in kinds a number) (pos 0) ≡ get_or one a (pos 0))
      → (a : ℕ) → a < i + 1 → get_or (set all (place_in kinds i number) x) (place_in kinds a number) (pos 0) ≡ get_or one a (pos 0)
  put-more within here room there at before =
      let inside = place-below kinds i many number here within in
      let fits : place_in kinds i number < length all = omega (arith, inside, room) in
      below_more (λ (a : ℕ). get_or (set all (place_in kinds i number) x) (place_in kinds a number) (pos 0) ≡ get_or one a (pos 0)) i
      (λ a below. get_or-set_other all (place_in kinds i number) (place_in kinds a number) x (pos 0) (λ e. let same = places-same kinds a i number number within within e in omega (arith, below, same.0)) ∙ before a below)
      (get_or-set_same all (place_in kinds i number) x (pos 0) fits ∙ (at ∙ get_or_default one i x (pos 0) there))

  pub same-more : (first : List ℤ) → number < kinds → ((a k : ℕ) → k < kinds → k ≢ number → get_or all (place_in kinds a k) (pos 0) ≡ get_or first (place_in kinds a k) (pos 0))
      → (a k : ℕ) → k < kinds → k ≢ number → get_or (set all (place_in kinds i number) x) (place_in kinds a k) (pos 0) ≡ get_or first (place_in kinds a k) (pos 0)
  same-more first within before a k below apart =
      get_or-set_other all (place_in kinds i number) (place_in kinds a k) x (pos 0) (λ e. apart (places-same kinds a i k number below within e).1) ∙ before a k below apart
