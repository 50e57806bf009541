-- Elements of lists, place by place.
use Rattle.std.proofs.Common.{◌≡◌, ◌≢◌, ◌≤◌, ◌<◌, ◌+◌, ◌∙◌, inl, inr, ℕ, zero, suc, get_or, set, get_or-set_same, get_or-set_other, List, [], ◌∷◌, length, refl, sym, subst, arith}
use Rattle.std.proofs.lemmas.Bool.{cases_eq}

pub any-default : {A : Type 0} (xs : List A) (i : ℕ) (d e : A) → i < length xs → get_or xs i d ≡ get_or xs i e
any-default [] i d e h = absurd (omega (arith, h))
any-default (x ∷ xs) zero d e h = refl
any-default (x ∷ xs) (suc i) d e h = any-default xs i d e (omega (arith, h))

-- one more is put
pub put-more : {A : Type 0} (P : ℕ → A → Type 0) (xs : List A) (at : ℕ) (x : A) → at < length xs → ((i : ℕ) (none : A) → i < at → P i (get_or xs i none)) → P at x
    → (i : ℕ) (none : A) → i < at + 1 → P i (get_or (set xs at x) i none)
put-more P xs at x here before is i none below = elim (cases_eq i at) [
  | inl same ↦ subst (λ (n : ℕ). P n (get_or (set xs at x) n none)) (sym same) (subst (P at) (sym (get_or-set_same xs at x none here)) is)
  | inr apart ↦ subst (P i) (sym (get_or-set_other xs at i x none apart)) (before i none (omega (arith, below, apart)))
]

-- what holds of all still does
pub put-all : {A : Type 0} (P : ℕ → A → Type 0) (xs : List A) (at n : ℕ) (x : A) → at < length xs → ((i : ℕ) (none : A) → i < n → P i (get_or xs i none)) → P at x
    → (i : ℕ) (none : A) → i < n → P i (get_or (set xs at x) i none)
put-all P xs at n x here all is i none below = elim (cases_eq i at) [
  | inl same ↦ subst (λ (n : ℕ). P n (get_or (set xs at x) n none)) (sym same) (subst (P at) (sym (get_or-set_same xs at x none here)) is)
  | inr apart ↦ subst (P i) (sym (get_or-set_other xs at i x none apart)) (all i none below)
]

-- the places after it stay
pub put-rest : {A : Type 0} (start xs : List A) (at : ℕ) (x : A) → ((i : ℕ) (none : A) → at ≤ i → get_or xs i none ≡ get_or start i none)
    → (i : ℕ) (none : A) → at + 1 ≤ i → get_or (set xs at x) i none ≡ get_or start i none
put-rest start xs at x rest i none h = let apart : i ≢ at = omega (arith, h) in get_or-set_other xs at i x none apart ∙ rest i none (omega (arith, h))
