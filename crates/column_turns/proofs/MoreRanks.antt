-- A list of ranks with one more.
use Rattle.std.proofs.Common.{◌≡◌, ◌<◌, ◌+◌, ◌++◌, ◌∙◌, ℕ, zero, suc, List, [], ◌∷◌, length, All, get_or, inl, inr, ap, sym, subst, arith}
use Rattle.std.proofs.lemmas.Bool.{cases_lt}
use Rattle.std.proofs.lemmas.List.{length-append, get_or_append_left, get_or-append-add}
use Rattle.std.proofs.lemmas.List.Elements.{All-append}

module _ (items : List ℕ) (rank : ℕ) where
  pub at-end : get_or (items ++ rank ∷ []) (length items) 0 ≡ rank
  at-end = ap (λ (n : ℕ). get_or (items ++ rank ∷ []) n 0) (omega arith) ∙ get_or-append-add items (rank ∷ []) 0 0

  pub length-more : length (items ++ rank ∷ []) ≡ length items + 1
  length-more = omega (arith, length-append items (rank ∷ []))

  pub all-more : (P : ℕ → Type 0) → All P items → P rank → All P (items ++ rank ∷ [])
  all-more P before this = All-append P items (rank ∷ []) before one where
    one : All P (rank ∷ [])
    one zero d below = this
    one (suc k) d below = absurd (omega arith)

  -- what holds of each item
  pub each-more : (P : ℕ → Type 0) → ((i : ℕ) → i < length items → P (get_or items i 0)) → P rank → (i : ℕ) → i < length (items ++ rank ∷ []) → P (get_or (items ++ rank ∷ []) i 0)
  each-more P before this i below = elim (cases_lt i (length items)) [
    | inl earlier ↦ subst P (sym (get_or_append_left items (rank ∷ []) 0 i earlier)) (before i earlier)
    | inr from ↦ (
        let last : length items ≡ i = omega (arith, below, from, length-more) in
        subst (λ (n : ℕ). P (get_or (items ++ rank ∷ []) n 0)) last (subst P (sym at-end) this))
  ]

  -- each item is still there
  pub there-more : (wanted : ℕ) → (i : ℕ) × (i < length items) × (get_or items i 0 ≡ wanted) → (i : ℕ) × (i < length (items ++ rank ∷ [])) × (get_or (items ++ rank ∷ []) i 0 ≡ wanted)
  there-more wanted at =
      let here : at.0 < length (items ++ rank ∷ []) = omega (arith, length-more, at.1) in
      (at.0, here, get_or_append_left items (rank ∷ []) 0 at.0 at.1 ∙ at.2)

  -- and so is the new one
  pub there-last : (i : ℕ) × (i < length (items ++ rank ∷ [])) × (get_or (items ++ rank ∷ []) i 0 ≡ rank)
  there-last =
      let here : length items < length (items ++ rank ∷ []) = omega (arith, length-more) in
      (length items, here, at-end)
