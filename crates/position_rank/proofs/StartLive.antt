-- The start of a game is live, and where its checkers stand.
use Rattle.std.proofs.Common.{◌≡◌, ◌≤◌, ◌<◌, ◌+◌, ◌-◌, ℕ, zero, suc, true, false, cond, eqb, get_or, sum, count_by, refl, arith, ◌∙◌}
use Rattle.std.proofs.lemmas.Bool.Decides.{nat_tests}
use Rattle.std.proofs.lemmas.List.Elements.{All-weaker}
use Rattle.std.proofs.lemmas.List.FromFn.{length-range_with_len}
use Rattle.std.proofs.lemmas.List.Sums.{sum_by-cons}
use Rattle.std.specs.List.{All, range_with_len}
use Rattle.position_rank.specs.LiveRanks.{is_live, are_apart}
use Rattle.position_rank.specs.Packed.{counts_of, start_counts, start_placement}
use Rattle.position_rank.proofs.PlaceCounts.{length-counts_of, counts_of-at, sum-counts_of}
use Rattle.position_rank.specs.Placement.{IsLayout, IsPosition, IsLive}
use Rattle.position_rank.proofs.LiveLaws.{All-range, live-from}

one : is_live (start_placement 1) ≡ true
unfolding counts_of are_apart
one = refl

two : is_live (start_placement 2) ≡ true
unfolding counts_of are_apart
two = refl

three : is_live (start_placement 3) ≡ true
unfolding counts_of are_apart
three = refl

pub start-live : (checkers : ℕ) → 1 ≤ checkers → checkers ≤ 3 → IsLive (start_placement checkers)
start-live zero low high = absurd (omega arith)
start-live (suc zero) low high = live-from _ one
start-live (suc (suc zero)) low high = live-from _ two
start-live (suc (suc (suc zero))) low high = live-from _ three
start-live (suc (suc (suc (suc n)))) low high = absurd (omega arith)

start-places : (checkers : ℕ) → checkers ≤ 3 → All (λ place. place ≤ 25) (range_with_len (25 - checkers) checkers)
start-places checkers high =
    All-weaker (λ (x : ℕ). (25 - checkers ≤ x) × (x < 25 - checkers + checkers)) (λ (x : ℕ). x ≤ 25) (λ x h. omega (arith, h.1)) (range_with_len (25 - checkers) checkers) (All-range (25 - checkers) checkers)

pub start-sum : (checkers : ℕ) → checkers ≤ 3 → sum (start_counts checkers) ≡ checkers
start-sum checkers high = sum-counts_of (range_with_len (25 - checkers) checkers) (start-places checkers high) ∙ length-range_with_len (25 - checkers) checkers

pub start-position : (checkers : ℕ) → 1 ≤ checkers → checkers ≤ 3 → IsPosition (start_placement checkers)
start-position checkers low high =
    let all = start-sum checkers high in
    let side : IsLayout (start_counts checkers) = record { places = length-counts_of (range_with_len (25 - checkers) checkers); at_least_one = omega (arith, all); at_most_three = omega (arith, all) } in
    record { mover = side; other = side; same = refl }

none-counted : (n a place : ℕ) → place < a → count_by (λ p. eqb p place) (range_with_len a n) ≡ 0
none-counted zero a place less = refl
none-counted (suc n) a place less =
    let apart : eqb a place ≡ false = grind (arith, nat_tests) in
    let cons = sum_by-cons (λ p. cond (eqb p place) 1 0) a (range_with_len (a + 1) n) in
    let rest = none-counted n (a + 1) place (omega arith) in
    cons ∙ rw apart (omega (arith, rest))

-- at the start no checker stands below the last three points
pub start-far : (checkers : ℕ) → checkers ≤ 3 → (place : ℕ) → place ≤ 21 → get_or (start_counts checkers) place 0 ≡ 0
start-far checkers high place low = counts_of-at (range_with_len (25 - checkers) checkers) place (omega arith) ∙ none-counted checkers (25 - checkers) place (omega arith)
