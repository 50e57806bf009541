-- Lists of layouts by their ranks.
use Rattle.std.proofs.Common.{◌≡◌, ◌<◌, ℕ, List, [], ◌∷◌, ◌++◌, length, get_or, inl, inr, sym, subst, arith}
use Rattle.std.proofs.Math.Seq.{get_or-append_seam}
use Rattle.std.proofs.lemmas.Bool.{cases_lt}
use Rattle.std.proofs.lemmas.List.{get_or_append_left, length-append}
use Rattle.base_scan.specs.declared.sides.Listed.{Listed}

module _ (P : ℕ → Listed → Type 0) (all : List Listed) (one : Listed) where
  -- what holds of each layout, and of one more with the next rank
  pub each-more : ((rank : ℕ) (none : Listed) → rank < length all → P rank (get_or all rank none)) → P (length all) one
      → (rank : ℕ) (none : Listed) → rank < length (all ++ one ∷ []) → P rank (get_or (all ++ one ∷ []) rank none)
  each-more each here rank none inside = elim (cases_lt rank (length all)) [
    | inl before ↦ subst (P rank) (sym (get_or_append_left all (one ∷ []) none rank before)) (each rank none before)
    | inr from ↦ (
        let last : rank ≡ length all = omega (arith, from, inside, length-append all (one ∷ [])) in
        rw (last, get_or-append_seam all one [] none) here)
  ]
