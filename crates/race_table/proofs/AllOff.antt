-- The layout with the lowest rank has all its checkers off.
use Rattle.std.proofs.Common.{◌≡◌, ◌≤◌, ℕ, zero, suc, List, [], ◌∷◌, sum, replicate, get_or, inl, inr, refl, ap, sym, ◌∙◌, arith}
use Rattle.std.proofs.lemmas.Bool.{cases_eq}
use Rattle.position_rank.specs.Placement.{IsLayout}
use Rattle.position_rank.specs.Packed.{counts_of}
use Rattle.position_rank.specs.Ranks.{choose, rank_of}
use Rattle.position_rank.proofs.RankLaws.{layouts-same, rank-of_one, rank-of_two, rank-of_three}

zeros : (n k : ℕ) → ◌≡◌ {A = ℕ} (get_or (replicate n 0) k 0) 0
zeros zero k = refl
zeros (suc n) zero = refl
zeros (suc n) (suc k) = zeros n k

-- so many checkers off, and none elsewhere
abbrev off_alone : ℕ → List ℕ
off_alone n = n ∷ replicate 25 0

none-elsewhere : (n place : ℕ) → 1 ≤ place → get_or (off_alone n) place 0 ≡ 0
none-elsewhere n zero low = absurd (omega arith)
none-elsewhere n (suc k) low = zeros 25 k

one-off : counts_of (0 ∷ []) ≡ off_alone 1
unfolding counts_of
one-off = refl

two-off : counts_of (0 ∷ 0 ∷ []) ≡ off_alone 2
unfolding counts_of
two-off = refl

three-off : counts_of (0 ∷ 0 ∷ 0 ∷ []) ≡ off_alone 3
unfolding counts_of
three-off = refl

rank-one : rank_of (off_alone 1) ≡ 0
rank-one = ap rank_of (sym one-off) ∙ rank-of_one 0 (omega arith)

rank-two : rank_of (off_alone 2) ≡ 0
unfolding choose
rank-two = ap rank_of (sym two-off) ∙ rank-of_two 0 0 (omega arith) (omega arith)

rank-three : rank_of (off_alone 3) ≡ 0
unfolding choose
rank-three = ap rank_of (sym three-off) ∙ rank-of_three 0 0 0 (omega arith) (omega arith) (omega arith)

lowest-of : (n : ℕ) (counts : List ℕ) → 1 ≤ n → n ≤ 3 → rank_of (off_alone n) ≡ 0 → sum (off_alone n) ≡ n → IsLayout counts → sum counts ≡ n → rank_of counts ≡ 0 → (place : ℕ) → 1 ≤ place → get_or counts place 0 ≡ 0
lowest-of n counts low high lowest all layout many ranked place on =
    let right : IsLayout (off_alone n) = record { places = refl; at_least_one = omega (arith, all); at_most_three = omega (arith, all) } in
    let is = layouts-same counts (off_alone n) layout right (many ∙ sym all) (ranked ∙ sym lowest) in
    ap (λ (xs : List ℕ). get_or xs place 0) is ∙ none-elsewhere n place on

pub lowest-rank : (counts : List ℕ) → IsLayout counts → rank_of counts ≡ 0 → (place : ℕ) → 1 ≤ place → get_or counts place 0 ≡ 0
lowest-rank counts layout ranked = elim (cases_eq (sum counts) 1) [
  | inl one ↦ lowest-of 1 counts (omega arith) (omega arith) rank-one refl layout one ranked
  | inr not_one ↦ elim (cases_eq (sum counts) 2) [
    | inl two ↦ lowest-of 2 counts (omega arith) (omega arith) rank-two refl layout two ranked
    | inr not_two ↦ (
        let three : sum counts ≡ 3 = omega (arith, layout.at_least_one, layout.at_most_three, not_one, not_two) in
        lowest-of 3 counts (omega arith) (omega arith) rank-three refl layout three ranked)
  ]
]
