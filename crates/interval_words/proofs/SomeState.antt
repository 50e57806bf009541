-- Every game has a state.
use Rattle.std.proofs.Common.{◌≡◌, ◌≤◌, ◌<◌, ◌*◌, ◌+◌, ℕ, zero, suc, true, List, ◌∷◌, replicate, sum, arith, refl, ap, sym, ◌∙◌}
use Rattle.position_rank.specs.Placement.{Placement, IsLayout, IsPosition, IsLive}
use Rattle.position_rank.specs.LiveRanks.{are_apart, is_live, live_below, live_rank_of, live_positions}
use Rattle.position_rank.specs.Ranks.{layouts, square_rank_of}
use Rattle.position_rank.proofs.LiveLaws.{live-from, live-rank-in, live-counts, dead-counts}
use Rattle.std.proofs.Math.Nat.{mul-le-mul_right}
use Rattle.interval_words.specs.Numbers.{states_in}

-- all checkers on the first point
first_point : ℕ → List ℕ
first_point n = 0 ∷ n ∷ replicate 24 0

near : ℕ → Placement
unfolding first_point
near n = record { mover = first_point n; other = first_point n }

near-position : (n : ℕ) → 1 ≤ n → n ≤ 3 → IsPosition (near n)
unfolding near first_point
near-position n low high =
    let many : sum (0 ∷ n ∷ replicate 24 0) ≡ n = omega arith in
    let is : IsLayout (0 ∷ n ∷ replicate 24 0) = record { places = refl; at_least_one = omega (arith, many, low); at_most_three = omega (arith, many, high) } in
    record { mover = is; other = is; same = refl }

near-many : (n : ℕ) → sum (near n).mover ≡ n
unfolding near first_point
near-many n = omega arith

near-live : (n : ℕ) → 1 ≤ n → n ≤ 3 → is_live (near n) ≡ true
unfolding near first_point are_apart
near-live zero low high = absurd (omega arith)
near-live (suc zero) low high = refl
near-live (suc (suc zero)) low high = refl
near-live (suc (suc (suc zero))) low high = refl
near-live (suc (suc (suc (suc n)))) low high = absurd (omega arith)

pub some-live : (checkers : ℕ) → 1 ≤ checkers → checkers ≤ 3 → 0 < live_positions checkers
some-live checkers low high =
    let inside : live_rank_of (near checkers) < live_positions (sum (near checkers).mover) = live-rank-in (near checkers) (near-position checkers low high) (live-from (near checkers) (near-live checkers low high)) in
    let many = near-many checkers in
    let same : live_positions (sum (near checkers).mover) ≡ live_positions checkers = ap live_positions many in
    omega (arith, inside, same)

pub some-state : (checkers kinds : ℕ) → 1 ≤ checkers → checkers ≤ 3 → 0 < kinds → 0 < states_in checkers kinds
unfolding states_in
some-state checkers kinds low high some =
    let one : 1 * kinds ≤ live_positions checkers * kinds = mul-le-mul_right kinds (some-live checkers low high) in
    omega (arith, one, some)

module _ (checkers last : ℕ) (all : last + 1 ≡ layouts checkers * layouts checkers) (p : Placement) (is : IsPosition p) (many : sum p.mover ≡ checkers) (at : square_rank_of p ≡ last) where
  pub all-with-last : IsLive p → live_below checkers last + 1 ≡ live_positions checkers
  all-with-last live = sym (live-counts checkers last p is many at live) ∙ ap (live_below checkers) all

  pub all-but-last : (IsLive p → ⊥) → live_below checkers last ≡ live_positions checkers
  all-but-last dead = sym (dead-counts checkers last p is many at dead) ∙ ap (live_below checkers) all
