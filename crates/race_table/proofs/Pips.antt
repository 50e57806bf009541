-- How the pips of a side change when a checker moves.
use Rattle.std.proofs.Common.{◌≡◌, ◌≤◌, ◌<◌, ◌+◌, ◌-◌, ◌*◌, ℕ, zero, suc, List, [], ◌∷◌, length, sum, drop, set, get_or, ◌⊎◌, inl, inr, ap, sym, subst, arith, length-set}
use Rattle.std.proofs.lemmas.Bool.{cases_eq}
use Rattle.std.proofs.lemmas.List.{drop_more, drop_all}
use Rattle.std.proofs.lemmas.List.Sums.{sum_by-cons}
use Rattle.position_rank.specs.Placement.{IsLayout, moved}
use Rattle.move_rules.proofs.StayLive.{get_or-moved_other}
use Rattle.race_table.specs.Races.{IsHeld, pips_from, pips_of}

pips-set : (place : ℕ) (xs : List ℕ) (i v : ℕ) → i < length xs → pips_from place (set xs i v) + (place + i) * get_or xs i 0 ≡ pips_from place xs + (place + i) * v
pips-set place [] i v h = absurd (omega arith)
pips-set place (x ∷ xs) zero v h = omega arith
pips-set place (x ∷ xs) (suc i) v h = omega (arith, pips-set (place + 1) xs i v (omega arith))

-- a checker went from one place to another
pub pips-moved : (counts : List ℕ) (from to : ℕ) → from < length counts → to < length counts → IsHeld counts from → pips_of (moved counts from to) + from ≡ pips_of counts + to
unfolding pips_of
pips-moved counts from to a b held =
    let rest = get_or counts from 0 - 1 in
    let left : List ℕ = set counts from rest in
    let here : get_or counts from 0 ≡ rest + 1 = omega arith in
    let b' : to < length left = simp length-set b in
    let gone = pips-set 0 counts from rest a in
    let come = pips-set 0 left to (get_or left to 0 + 1) b' in
    let times = ap (λ (n : ℕ). from * n) here in
    omega (arith, gone, come, times)

-- where a checker stands after it, it went there or stood there before
pub held-moved : (counts : List ℕ) (from to place : ℕ) → IsHeld counts from → IsHeld (moved counts from to) place → (place ≡ to) ⊎ IsHeld counts place
held-moved counts from to place held h = elim (cases_eq place to) [
  | inl same ↦ inl same
  | inr apart ↦ elim (cases_eq place from) [
    | inl left ↦ inr (subst (IsHeld counts) (sym left) held)
    | inr other ↦ inr (omega (arith, get_or-moved_other counts from to place other apart, h))
  ]
]

-- each checker's place counts
pips-at : (place : ℕ) (xs : List ℕ) (i : ℕ) → (place + i) * get_or xs i 0 ≤ pips_from place xs
pips-at place [] i = omega arith
pips-at place (x ∷ xs) zero = omega arith
pips-at place (x ∷ xs) (suc i) = omega (arith, pips-at (place + 1) xs i)

some-times : (a b : ℕ) → 1 ≤ a → 0 < b → 1 ≤ a * b
some-times zero b h k = absurd (omega arith)
some-times (suc a) zero h k = absurd (omega arith)
some-times (suc a) (suc b) h k = omega arith

pub pips-held : (counts : List ℕ) (place : ℕ) → 1 ≤ place → IsHeld counts place → 1 ≤ pips_of counts
unfolding pips_of
pips-held counts place low held = omega (arith, pips-at 0 counts place, some-times place (get_or counts place 0) low held)

-- ---- all pips of a side, place by place

few-more : (place more x rest pips : ℕ) → pips + rest ≤ (place + 1 + more) * rest → place * x + pips + (x + rest) ≤ (place + suc more) * (x + rest)
few-more place more x rest pips h = omega arith

pips-few : (place : ℕ) (xs : List ℕ) → pips_from place xs + sum xs ≤ (place + length xs) * sum xs
pips-few place [] = omega arith
pips-few place (x ∷ xs) = rw (sum_by-cons (λ (n : ℕ). n) x xs) (few-more place (length xs) x (sum xs) (pips_from (place + 1) xs) (pips-few (place + 1) xs))

pub few-pips : (counts : List ℕ) → IsLayout counts → pips_of counts ≤ 75
unfolding pips_of
few-pips counts layout = omega (arith, pips-few 0 counts, layout.places, layout.at_most_three, ap (λ (n : ℕ). n * sum counts) layout.places)

-- the pips of the places before one, and of that one
pub pips-more : (counts : List ℕ) (place pips : ℕ) → place < length counts → pips + pips_from place (drop place counts) ≡ pips_of counts → pips + place * get_or counts place 0 + pips_from (place + 1) (drop (place + 1) counts) ≡ pips_of counts
pips-more counts place pips inside before =
    let next = ap (pips_from place) (drop_more counts place 0 inside) in
    omega (arith, before, next)

pub pips-none : (counts : List ℕ) → 0 + pips_from 0 (drop 0 counts) ≡ pips_of counts
unfolding pips_of
pips-none counts = omega arith

pub pips-all : (counts : List ℕ) (place pips : ℕ) → length counts ≤ place → pips + pips_from place (drop place counts) ≡ pips_of counts → pips ≡ pips_of counts
pips-all counts place pips past before = omega (arith, before, ap (pips_from place) (drop_all place counts past))
