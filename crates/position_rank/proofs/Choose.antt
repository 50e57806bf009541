-- Ways to choose one to three things.
use Rattle.std.proofs.Common.{◌≡◌, ℕ, zero, suc, ◌+◌, ◌*◌, ◌<◌, ◌≤◌, refl, ap, inl, inr, arith, add-one}
use Rattle.std.proofs.lemmas.Bool.{cases_lt, cases_order}
use Rattle.position_rank.specs.Ranks.{choose}

pub choose-none : (n : ℕ) → choose n 0 ≡ 1
unfolding choose
choose-none zero = refl
choose-none (suc n) = refl

pub choose-more : (n k : ℕ) → choose (n + 1) (k + 1) ≡ choose n k + choose n (k + 1)
unfolding choose
choose-more n k = rw (add-one n, add-one k) refl

pub choose-too_many : (n k : ℕ) → n < k → choose n k ≡ 0
unfolding choose
choose-too_many zero zero h = absurd (omega arith)
choose-too_many zero (suc k) h = refl
choose-too_many (suc n) zero h = absurd (omega arith)
choose-too_many (suc n) (suc k) h = omega (arith, choose-too_many n k (omega arith), choose-too_many n (suc k) (omega arith))

pub choose-one : (n : ℕ) → choose n 1 ≡ n
choose-one zero = choose-too_many 0 1 (omega arith)
choose-one (suc n) = rw (← add-one) (omega (arith, choose-more n 0, choose-none n, choose-one n))

-- the sums 1 + 2 + .. and the sums of those
pub choose-two-more : (n : ℕ) → choose (n + 2) 2 ≡ choose (n + 1) 2 + (n + 1)
choose-two-more n =
    let same : n + 1 + 1 ≡ n + 2 = omega arith in
    rw (← same) (omega (arith, choose-more (n + 1) 1, choose-one (n + 1)))

pub choose-three-more : (n : ℕ) → choose (n + 3) 3 ≡ choose (n + 2) 3 + choose (n + 2) 2
choose-three-more n =
    let same : n + 2 + 1 ≡ n + 3 = omega arith in
    rw (← same) (omega (arith, choose-more (n + 2) 2))

-- closed forms
pub choose-two : (n : ℕ) → choose (n + 1) 2 * 2 ≡ n * (n + 1)
choose-two zero = omega (arith, choose-too_many 1 2 (omega arith))
choose-two (suc n) =
    let same : suc n + 1 ≡ n + 2 = omega arith in
    let last : suc n ≡ n + 1 = omega arith in
    rw same (rw last (omega (arith, choose-two-more n, choose-two n)))

pub choose-three : (n : ℕ) → choose (n + 2) 3 * 6 ≡ n * (n + 1) * (n + 2)
choose-three zero = omega (arith, choose-too_many 2 3 (omega arith))
choose-three (suc n) =
    let same : suc n + 2 ≡ n + 3 = omega arith in
    let last : suc n ≡ n + 1 = omega arith in
    let two : choose (n + 2) 2 * 2 ≡ (n + 1) * (n + 2) = omega (arith, choose-two-more n, choose-two n) in
    rw same (rw last (omega (arith, choose-three-more n, choose-three n, two)))

-- later places have more ways
pub rises : (f : ℕ → ℕ) → ((n : ℕ) → f n ≤ f (suc n)) → (m n : ℕ) → m ≤ n → f m ≤ f n
rises f step m zero h =
    let same : m ≡ 0 = omega arith in
    rw same (omega arith)
rises f step m (suc n) h = elim (cases_lt n m) [
  | inl past ↦ (
      let same : m ≡ suc n = omega arith in
      rw same (omega arith))
  | inr before ↦ omega (arith, step n, rises f step m n before)
]

pub choose-two-rises : (m n : ℕ) → m ≤ n → choose (m + 1) 2 ≤ choose (n + 1) 2
choose-two-rises = rises (λ n. choose (n + 1) 2)
    (λ n.
    let same : suc n + 1 ≡ n + 2 = omega arith in
    rw same (omega (arith, choose-two-more n)))

pub choose-three-rises : (m n : ℕ) → m ≤ n → choose (m + 2) 3 ≤ choose (n + 2) 3
choose-three-rises = rises (λ n. choose (n + 2) 3)
    (λ n.
    let same : suc n + 2 ≡ n + 3 = omega arith in
    rw same (omega (arith, choose-three-more n)))

-- the highest place can be read off the sum
pub two-below : (x y : ℕ) → x ≤ y → x + choose (y + 1) 2 < choose (y + 2) 2
two-below x y h = omega (arith, choose-two-more y)

pub three-below : (x y z : ℕ) → x ≤ y → y ≤ z → x + choose (y + 1) 2 + choose (z + 2) 3 < choose (z + 3) 3
three-below x y z h k =
    let later : choose (y + 2) 2 ≤ choose (z + 2) 2 = (let low : y + 1 + 1 ≡ y + 2 = omega arith in let high : z + 1 + 1 ≡ z + 2 = omega arith in rw (← low, ← high) (choose-two-rises (y + 1) (z + 1) (omega arith))) in
    omega (arith, two-below x y h, choose-three-more z, later)

two-order : (x y x' y' : ℕ) → x ≤ y → y < y' → x + choose (y + 1) 2 < x' + choose (y' + 1) 2
two-order x y x' y' h less =
    let later : choose (y + 2) 2 ≤ choose (y' + 1) 2 = (let low : y + 1 + 1 ≡ y + 2 = omega arith in rw (← low) (choose-two-rises (y + 1) y' (omega arith))) in
    omega (arith, two-below x y h, later)

three-order : (x y z x' y' z' : ℕ) → x ≤ y → y ≤ z → z < z' → x + choose (y + 1) 2 + choose (z + 2) 3 < x' + choose (y' + 1) 2 + choose (z' + 2) 3
three-order x y z x' y' z' h k less =
    let later : choose (z + 3) 3 ≤ choose (z' + 2) 3 = (let low : z + 1 + 2 ≡ z + 3 = omega arith in rw (← low) (choose-three-rises (z + 1) z' (omega arith))) in
    omega (arith, three-below x y z h k, later)

pub two-same : (x y x' y' : ℕ) → x ≤ y → x' ≤ y' → x + choose (y + 1) 2 ≡ x' + choose (y' + 1) 2 → (x ≡ x') × (y ≡ y')
two-same x y x' y' h h' same = elim (cases_order y y') [
  | inl e ↦ (omega (arith, ap (λ n. choose (n + 1) 2) e), e)
  | inr other ↦ elim other [
    | inl less ↦ absurd (omega (arith, two-order x y x' y' h less))
    | inr more ↦ absurd (omega (arith, two-order x' y' x y h' more))
  ]
]

pub three-same : (x y z x' y' z' : ℕ) → x ≤ y → y ≤ z → x' ≤ y' → y' ≤ z' → x + choose (y + 1) 2 + choose (z + 2) 3 ≡ x' + choose (y' + 1) 2 + choose (z' + 2) 3
    → (x ≡ x') × (y ≡ y') × (z ≡ z')
three-same x y z x' y' z' h k h' k' same = elim (cases_order z z') [
  | inl e ↦ (
      let rest = two-same x y x' y' h h' (omega (arith, ap (λ n. choose (n + 2) 3) e)) in
      (rest.0, rest.1, e))
  | inr other ↦ elim other [
    | inl less ↦ absurd (omega (arith, three-order x y z x' y' z' h k less))
    | inr more ↦ absurd (omega (arith, three-order x' y' z' x y z h' k' more))
  ]
]
