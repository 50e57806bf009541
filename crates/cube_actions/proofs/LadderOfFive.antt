-- A match has its scores among those of a match of five points.
use Rattle.std.proofs.Common.{◌≡◌, ◌≤◌, ℕ, zero, suc, Bool, List, length, take, refl, ap, length-take-le, arith}
use Rattle.std.specs.List.{filter}
use Rattle.std.proofs.lemmas.List.Sums.{length-filter, count_by-le-length}
use Rattle.cube_actions.specs.Ladder.{in_order, is_of_match, ladder}

-- what holds of 1 to 5
pub one_to_five : (P : ℕ → Type 0) → P 1 → P 2 → P 3 → P 4 → P 5 → (n : ℕ) → 1 ≤ n → n ≤ 5 → P n
one_to_five P a b c d e zero from to = absurd (omega arith)
one_to_five P a b c d e (suc zero) from to = a
one_to_five P a b c d e (suc (suc zero)) from to = b
one_to_five P a b c d e (suc (suc (suc zero))) from to = c
one_to_five P a b c d e (suc (suc (suc (suc zero)))) from to = d
one_to_five P a b c d e (suc (suc (suc (suc (suc zero))))) from to = e
one_to_five P a b c d e (suc (suc (suc (suc (suc (suc n)))))) from to = absurd (omega arith)

pub kept_of_five : (length : ℕ) → 1 ≤ length → length ≤ 5 → filter (is_of_match length) (ladder 5) ≡ ladder length
unfolding ladder in_order
kept_of_five = one_to_five (λ length. filter (is_of_match length) (ladder 5) ≡ ladder length) refl refl refl refl refl

pub length-five : length (ladder 5) ≡ 18
unfolding ladder in_order
length-five = refl

pub filter_few : {X : Type 0} (p : X → Bool) (xs : List X) → length (filter p xs) ≤ length xs
filter_few p xs = omega (arith, length-filter p xs, count_by-le-length p xs)

pub kept_few : {X : Type 0} (p : X → Bool) (xs : List X) (i : ℕ) → i ≤ length xs → length (filter p (take i xs)) ≤ i
kept_few p xs i within = omega (arith, filter_few p (take i xs), length-take-le i xs within)

pub ladder_few : (n : ℕ) → 1 ≤ n → n ≤ 5 → length (ladder n) ≤ 18
ladder_few n from to = omega (arith, filter_few (is_of_match n) (ladder 5), ap length (kept_of_five n from to), length-five)
