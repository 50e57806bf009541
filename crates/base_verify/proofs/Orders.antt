-- The order of the words.
use Rattle.std.proofs.Common.{◌≡◌, ◌≤◌, ◌<◌, ◌+◌, ◌*◌, ℕ, arith, inl, inr, refl, sym}
use Rattle.std.proofs.lemmas.Bool.{cases_order}
use Rattle.std.proofs.Math.Nat.{add-mul, mul-le-mul_right}
use Rattle.position_rank.specs.Placement.{Placement}
use Rattle.position_rank.specs.LiveRanks.{live_rank_of}
use Rattle.directed_fixed.specs.declared.bounds.End.{End}
use Rattle.directed_fixed.specs.declared.bounds.End.TheVariants.{Lower, Upper}
use Rattle.interval_words.specs.Numbers.{state_of, word_of}
use Rattle.base_verify.specs.Findings.{WordComesBefore}

word-less : (side other : End) (n m : ℕ) → n < m → word_of side n < word_of other m
word-less Lower Lower n m less = omega (arith, less)
word-less Lower Upper n m less = omega (arith, less)
word-less Upper Lower n m less = omega (arith, less)
word-less Upper Upper n m less = omega (arith, less)

ends-less : (side other : End) (n m : ℕ) → n ≡ m → word_of side n < word_of other m → (side ≡ Lower) × (other ≡ Upper)
ends-less Lower Upper n m same less = (refl, refl)
ends-less Lower Lower n m same less = absurd (omega (arith, same, less))
ends-less Upper Lower n m same less = absurd (omega (arith, same, less))
ends-less Upper Upper n m same less = absurd (omega (arith, same, less))

lower-first : (side other : End) (n m : ℕ) → n ≡ m → side ≡ Lower → other ≡ Upper → word_of side n < word_of other m
lower-first Lower Upper n m same low high = omega (arith, same)
lower-first Lower Lower n m same low high = cc high
lower-first Upper Lower n m same low high = cc high
lower-first Upper Upper n m same low high = cc low

rank-less : (kinds r s k j : ℕ) → k < kinds → r < s → r * kinds + k < s * kinds + j
rank-less kinds r s k j kind less =
    let more : (r + 1) * kinds ≤ s * kinds = mul-le-mul_right kinds (omega (arith, less)) in
    omega (arith, more, kind, add-mul r 1 kinds)

same-rank : (kinds r s k j : ℕ) → r ≡ s → k < j → r * kinds + k < s * kinds + j
same-rank kinds r s k j same less = rw same (omega (arith, less))

module _ (kinds : ℕ) (side other : End) (p q : Placement) (k j : ℕ) (kind : k < kinds) (other_kind : j < kinds) where
  pub places-tell : word_of side (state_of kinds p k) < word_of other (state_of kinds q j) → WordComesBefore side p k other q j
  unfolding state_of
  places-tell before = elim (cases_order (live_rank_of p) (live_rank_of q)) [
    | inl same ↦ inr (
      same,
      elim (cases_order k j) [
        | inl kinds_same ↦ (
            let states : live_rank_of p * kinds + k ≡ live_rank_of q * kinds + j = rw (same, kinds_same) refl in
            let ends = ends-less side other _ _ states before in
            inr (kinds_same, ends.0, ends.1))
        | inr apart ↦ elim apart [
          | inl less ↦ inl less
          | inr more ↦ (
              let behind = word-less other side (live_rank_of q * kinds + j) (live_rank_of p * kinds + k) (same-rank kinds (live_rank_of q) (live_rank_of p) j k (sym same) more) in
              absurd (omega (arith, behind, before)))
        ]
      ],
    )
    | inr apart ↦ elim apart [
      | inl less ↦ inl less
      | inr more ↦ (
          let behind = word-less other side (live_rank_of q * kinds + j) (live_rank_of p * kinds + k) (rank-less kinds (live_rank_of q) (live_rank_of p) j k other_kind more) in
          absurd (omega (arith, behind, before)))
    ]
  ]

  pub told-by-places : WordComesBefore side p k other q j → word_of side (state_of kinds p k) < word_of other (state_of kinds q j)
  unfolding state_of
  told-by-places before = elim before [
    | inl less ↦ word-less side other _ _ (rank-less kinds (live_rank_of p) (live_rank_of q) k j kind less)
    | inr here ↦ elim here.1 [
      | inl less ↦ word-less side other _ _ (same-rank kinds (live_rank_of p) (live_rank_of q) k j here.0 less)
      | inr same ↦ (
          let states : live_rank_of p * kinds + k ≡ live_rank_of q * kinds + j = rw (here.0, same.0) refl in
          lower-first side other _ _ states same.1 same.2)
    ]
  ]
