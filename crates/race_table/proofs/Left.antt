-- The number of turns that are left of a race.
use Rattle.std.proofs.Common.{◌≡◌, ◌≤◌, ◌<◌, ◌+◌, ◌-◌, ℕ, zero, suc, List, [], ◌∷◌, map, Option, Some, None, inl, inr, refl, ap, subst, ◌∙◌, arith}
use Rattle.std.specs.List.{range_with_len}
use Rattle.position_rank.specs.Placement.{Placement, swap}
use Rattle.roll_table.specs.Rolls.{Dice, IsRoll, weighted_roll, all_rolls}
use Rattle.move_rules.specs.Ends.{legal_ends}
use Rattle.move_rules.specs.Listing.{Among}
use Rattle.move_rules.specs.Sequences.{IsLegalEnd}
use Rattle.move_rules.proofs.Members.{Among-Contains, Contains-Among, Among-flat_map, Among-map, Among-range}
use Rattle.move_rules.proofs.EndsExact.{legal_ends-sound, legal_ends-complete}
use Rattle.move_rules.specs.declared.payoff.Won.{Won}
use Rattle.move_rules.specs.Payoff.{points}
use Rattle.turn_rule.proofs.Greatest.{AreRolls, all_rolls-right}
use Rattle.race_table.specs.Races.{IsRace, pips}
use Rattle.race_table.specs.TurnsLeft.{most, most_over, if_goes_on, left_after, turns_upto, turns_left}
use Rattle.race_table.proofs.Pips.{pips-held}
use Rattle.race_table.proofs.Counts.{highest-held}
use Rattle.race_table.proofs.Lines.{legal-nearer, legal-race}

pub most-agree : (f g : Placement → ℕ) (qs : List Placement) → ((q : Placement) → Among q qs → f q ≡ g q) → most f qs ≡ most g qs
most-agree f g [] h = refl
most-agree f g (q ∷ qs) h = omega (arith, h q (inl refl), most-agree f g qs (λ x m. h x (inr m)))

most-bound : (f : Placement → ℕ) (q : Placement) (qs : List Placement) → Among q qs → f q ≤ most f qs
most-bound f q [] m = absurd m
most-bound f q (r ∷ qs) (inl e) = omega (arith, ap f e)
most-bound f q (r ∷ qs) (inr m) = omega (arith, most-bound f q qs m)

pub most-upto : (f : Placement → ℕ) (n : ℕ) (qs : List Placement) → ((q : Placement) → Among q qs → f q ≤ n) → most f qs ≤ n
most-upto f n [] h = omega arith
most-upto f n (q ∷ qs) h = omega (arith, h q (inl refl), most-upto f n qs (λ x m. h x (inr m)))

-- lists with the same members have the same greatest number
pub most-same : (f : Placement → ℕ) (qs rs : List Placement) → ((q : Placement) → Among q qs → Among q rs) → ((r : Placement) → Among r rs → Among r qs) → most f qs ≡ most f rs
most-same f qs rs h k = omega (arith, most-upto f (most f rs) qs (λ q m. most-bound f q rs (h q m)), most-upto f (most f qs) rs (λ r m. most-bound f r qs (k r m)))

pub over-agree : (f g : Placement → ℕ) (p : Placement) → ((roll : Dice) (q : Placement) → IsRoll roll → Among q (legal_ends p roll) → f q ≡ g q) → (rolls : List (Dice × ℕ)) → AreRolls rolls → most_over rolls f p ≡ most_over rolls g p
over-agree f g p h [] a = refl
over-agree f g p h (roll ∷ rolls) a = omega (arith, most-agree f g (legal_ends p roll.0) (λ q. h roll.0 q a.0), over-agree f g p h rolls a.1)

pub over-upto : (f : Placement → ℕ) (n : ℕ) (p : Placement) → ((roll : Dice) (q : Placement) → IsRoll roll → Among q (legal_ends p roll) → f q ≤ n) → (rolls : List (Dice × ℕ)) → AreRolls rolls → most_over rolls f p ≤ n
over-upto f n p h [] a = omega arith
over-upto f n p h (roll ∷ rolls) a = omega (arith, most-upto f n (legal_ends p roll.0) (λ q. h roll.0 q a.0), over-upto f n p h rolls a.1)

over-bound : (f : Placement → ℕ) (p : Placement) (roll : Dice × ℕ) (q : Placement) (rolls : List (Dice × ℕ)) → Among roll rolls → Among q (legal_ends p roll.0) → f q ≤ most_over rolls f p
over-bound f p roll q [] m k = absurd m
over-bound f p roll q (r ∷ rolls) (inl e) k = omega (arith, most-bound f q (legal_ends p r.0) (subst (λ (x : Dice × ℕ). Among q (legal_ends p x.0)) e k))
over-bound f p roll q (r ∷ rolls) (inr m) k = omega (arith, over-bound f p roll q rolls m k)

-- each roll is among them, with its weight
pub rolls-complete : (roll : Dice) → IsRoll roll → (w : ℕ) × Among (roll, w) all_rolls
unfolding all_rolls
rolls-complete roll right = (
  (weighted_roll roll.high roll.low).1,
  Among-flat_map (λ (high : ℕ). map (weighted_roll high) (range_with_len 1 high)) roll.high (weighted_roll roll.high roll.low) (range_with_len 1 6)
      (Among-range 1 6 roll.high (omega (arith, right.from, right.in_order)) (omega (arith, right.to)))
      (Among-map (weighted_roll roll.high) roll.low (range_with_len 1 roll.high) (Among-range 1 roll.high roll.low right.from (omega (arith, right.in_order)))),
)

pub legal-of : (p : Placement) (roll : Dice) (q : Placement) → Among q (legal_ends p roll) → IsLegalEnd p roll q
legal-of p roll q m = legal_ends-sound p roll q (Among-Contains q (legal_ends p roll) m)

-- ---- the count doesn't depend on how many turns are counted, if they are no fewer than the pips

pips-some : (p : Placement) → IsRace p → 1 ≤ pips p
pips-some p race =
    let top = highest-held p.mover race.live.mover in
    omega (arith, pips-held p.mover top.0 top.1 top.2.held)

left-agree : (f g : Placement → ℕ) (p : Placement) → IsRace p → ((q : Placement) → IsRace q → pips q < pips p → f q ≡ g q) → most_over all_rolls (left_after f) p ≡ most_over all_rolls (left_after g) p
left-agree f g p race h = over-agree (left_after f) (left_after g) p each all_rolls all_rolls-right where
  each : (roll : Dice) (end : Placement) → IsRoll roll → Among end (legal_ends p roll) → left_after f end ≡ left_after g end
  each roll end right m = by_points (points end) refl where
    legal : IsLegalEnd p roll end
    legal = legal-of p roll end m

    by_points : (o : Option Won) → points end ≡ o → if_goes_on o (f (swap end)) ≡ if_goes_on o (g (swap end))
    by_points None on = h (swap end) (legal-race roll right p race end legal on) (omega (arith, legal-nearer roll right p race end legal))
    by_points (Some won) over = refl

upto-same : (m n : ℕ) (p : Placement) → IsRace p → pips p ≤ m → pips p ≤ n → turns_upto m p ≡ turns_upto n p
unfolding turns_upto
upto-same zero n p race low high = absurd (omega (arith, pips-some p race))
upto-same (suc m) zero p race low high = absurd (omega (arith, pips-some p race))
upto-same (suc m) (suc n) p race low high =
    ap (λ (k : ℕ). 1 + k) (left-agree (turns_upto m) (turns_upto n) p race (λ q later less. upto-same m n q later (omega (arith, less, low)) (omega (arith, less, high))))

pub left-is : (p : Placement) → IsRace p → turns_left p ≡ 1 + most_over all_rolls (left_after turns_left) p
unfolding turns_left turns_upto
left-is p race =
    let some = pips-some p race in
    let n = pips p - 1 in
    let is : pips p ≡ suc n = omega (arith, some) in
    ap (λ (k : ℕ). turns_upto k p) is
    ∙ ap (λ (k : ℕ). 1 + k) (left-agree (turns_upto n) turns_left p race (λ q later less. upto-same n (pips q) q later (omega (arith, less, is)) (omega arith)))

pub left-some : (p : Placement) → IsRace p → 1 ≤ turns_left p
left-some p race = omega (arith, left-is p race)

-- what is left after a legal play that doesn't end the game is less
pub left-falls : (p : Placement) → IsRace p → (roll : Dice) (end : Placement) → IsRoll roll → IsLegalEnd p roll end → points end ≡ None → turns_left (swap end) < turns_left p
left-falls p race roll end right legal on =
    let weight = rolls-complete roll right in
    let among = Contains-Among end (legal_ends p roll) (legal_ends-complete p roll end legal) in
    let most = over-bound (left_after turns_left) p (roll, weight.0) end all_rolls weight.1 among in
    let here : left_after turns_left end ≡ turns_left (swap end) = ap (λ (o : Option Won). if_goes_on o (turns_left (swap end))) on in
    omega (arith, left-is p race, most, here)

few-left : (n k : ℕ) (o : Option Won) → k ≤ n → if_goes_on o k ≤ n
few-left n k None h = h
few-left n k (Some won) h = omega arith

upto-few : (n : ℕ) (p : Placement) → turns_upto n p ≤ n
unfolding turns_upto
upto-few zero p = omega arith
upto-few (suc n) p = omega (arith, over-upto (left_after (turns_upto n)) n p (λ roll end right m. few-left n (turns_upto n (swap end)) (points end) (upto-few n (swap end))) all_rolls all_rolls-right)

pub left-few : (p : Placement) → turns_left p ≤ pips p
unfolding turns_left
left-few p = upto-few (pips p) p
