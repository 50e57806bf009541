-- Sums that grow mover by mover and roll by roll.
use Rattle.std.proofs.Common.{◌≡◌, ◌≢◌, ◌≤◌, ◌<◌, ◌+◌, ◌*◌, ◌-◌, ◌^◌, ◌∙◌, inl, inr, ℕ, zero, suc, ℤ, pos, ◌+ℤ◌, ◌*ℤ◌, Bool, true, false, cond, eqb, get_or, set, get_or-set_same, get_or-set_other, List, [], ◌∷◌, length, take, Option, None, refl, ap, subst, sym, arith, add-one}
use Rattle.std.proofs.lemmas.Bool.{cases_eq}
use Rattle.std.proofs.lemmas.Int.{ints}
use Rattle.std.proofs.lemmas.Bool.{false≢true}
use Rattle.std.proofs.lemmas.Bool.Decides.{nat_tests}
use Rattle.std.proofs.lemmas.List.Folds.{list_all_at}
use Rattle.std.specs.List.{list_all}
use Rattle.position_rank.specs.Placement.{Placement}
use Rattle.roll_table.specs.Rolls.{Dice, all_rolls}
use Rattle.directed_fixed.specs.Bounds.{IsWithinUnits}
use Rattle.turn_rule.proofs.Greatest.{total}
use Rattle.turn_rule.proofs.RollSums.{few-rolls}
use Rattle.column_sums.specs.Cascade.{best_pair, best_double, best_of_roll, best_sum}
use Rattle.column_sums.specs.Cells.{no_cell, cell_placement}
use Rattle.column_sums.specs.Rolls.{pair_found, double_found}
use Rattle.column_sums.specs.MoveLists.{AreReady, IsDieList}
use Rattle.column_sums.specs.Sums.{DoubleTables, PairTables, IsAdded, die_list, mover_placement, sum_at, ways}
use Rattle.column_sums.specs.declared.cells.Reach.{Reach}
use Rattle.column_sums.specs.declared.moves.DieList.{DieList}
use Rattle.column_sums.specs.declared.moves.Moves.{Moves}
use Rattle.column_sums.proofs.Places.{any-default}
use Rattle.column_sums.proofs.RollLemmas.{IsPairReady, IsDoubleReady, pair-is, double-is}
use Rattle.column_sums.proofs.SumLemmas.{double-ready, pair-ready}

module _ (P : ℕ → ℤ → ℤ → Type 0) (start sums : List ℤ) (at : ℕ) (x : ℤ) where
  pub sums-done : at < length sums → ((r : ℕ) → r < at → P r (sum_at start r) (sum_at sums r)) → P at (sum_at start at) x → (r : ℕ) → r < at + 1 → P r (sum_at start r) (sum_at (set sums at x) r)
  sums-done here before is r below = elim (cases_eq r at) [
    | inl same ↦ subst (λ (i : ℕ). P i (sum_at start i) (sum_at (set sums at x) i)) (sym same) (subst (λ (y : ℤ). P at (sum_at start at) y) (sym (get_or-set_same sums at x (pos 0) here)) is)
    | inr apart ↦ subst (λ (y : ℤ). P r (sum_at start r) y) (sym (get_or-set_other sums at r x (pos 0) apart)) (before r (omega (arith, below, apart)))
  ]

  pub sums-rest : ((r : ℕ) → at ≤ r → sum_at sums r ≡ sum_at start r) → (r : ℕ) → at + 1 ≤ r → sum_at (set sums at x) r ≡ sum_at start r
  sums-rest rest r h = let apart : r ≢ at = omega (arith, h) in get_or-set_other sums at r x (pos 0) apart ∙ rest r (omega (arith, h))

-- ---- what was found of a mover is right

module _ (moves : Moves) (ready : AreReady moves) (i : ℕ) (h : i < moves.movers) where
  -- what a die leads to from the mover's cell, as a slice of the die's list has it
  pub from-slice : (die n : ℕ) (list : DieList) (none : Reach) (slice : List Reach) → 1 ≤ die → die ≤ 6 → n ≡ die → slice ≡ (get_or moves.lists (n - 1) list).reaches.items
      → get_or slice i none ≡ get_or (get_or moves.lists (n - 1) list).reaches.items i (get_or slice i none)
  from-slice die n list none slice a b same is =
      let are = subst (λ (m : ℕ). IsDieList moves.steps moves.layers moves.listing moves.movers die (get_or moves.lists (m - 1) list)) (sym same) (ready.each die list a b) in
      let here : i < length (get_or moves.lists (n - 1) list).reaches.items = omega (arith, h, are.first, are.longer, are.second) in
      ap (λ (xs : List Reach). get_or xs i none) is ∙ any-default (get_or moves.lists (n - 1) list).reaches.items i none (get_or slice i none) here

  mover-cell : (die : ℕ) (list : DieList) (none : Reach) → 1 ≤ die → die ≤ 6 → (get_or (die_list moves die list).reaches.items i none).cell ≡ get_or moves.listing i 0
  mover-cell die list none a b = let is = ready.each die list a b in is.at i none (omega (arith, h, is.first))

  pub double-right : (die n : ℕ) (row one two three : List (Option ℤ)) (list : DieList) (reach : Reach) (best : ℤ) → 1 ≤ die → die ≤ 6 → n ≡ die → reach ≡ get_or (get_or moves.lists (n - 1) list).reaches.items i reach
      → get_or three no_cell None ≡ None
      → best ≡ double_found reach row one two three
      → (value : Placement → ℤ) → DoubleTables value moves die row one two three → best ≡ best_double value die (mover_placement moves i)
  double-right die n row one two three list reach best a b same is missing found value tables =
      let at : reach ≡ get_or (die_list moves die list).reaches.items i reach = is ∙ ap (λ (m : ℕ). get_or (get_or moves.lists (m - 1) list).reaches.items i reach) same in
      let tables-are = double-ready value moves ready die row one two three list i reach a b h missing tables in
      let here = subst (λ (r : Reach). IsDoubleReady value moves.steps moves.layers die r row one two three) (sym at) tables-are in
      found ∙ double-is value moves.steps moves.layers die reach row one two three here
      ∙ ap (λ (cell : ℕ). best_double value die (cell_placement moves.steps moves.layers cell)) (ap (λ (r : Reach). r.cell) at ∙ mover-cell die list reach a b)

  pub pair-right : (high low n m : ℕ) (row after_high after_low : List (Option ℤ)) (first second : DieList) (by_high by_low : Reach) (best : ℤ) → 1 ≤ high → high ≤ 6 → 1 ≤ low → low ≤ 6 → n ≡ high → m ≡ low
      → by_high ≡ get_or (get_or moves.lists (n - 1) first).reaches.items i by_high → by_low ≡ get_or (get_or moves.lists (m - 1) second).reaches.items i by_low
      → get_or after_high no_cell None ≡ None → get_or after_low no_cell None ≡ None
      → best ≡ pair_found by_high by_low row after_high after_low
      → (value : Placement → ℤ) → PairTables value moves high low row after_high after_low → best ≡ best_pair value high low (mover_placement moves i)
  pair-right high low n m row after_high after_low first second by_high by_low best a b c d e f high-is low-is miss_high miss_low found value tables =
      let at_high : by_high ≡ get_or (die_list moves high first).reaches.items i by_high = high-is ∙ ap (λ (k : ℕ). get_or (get_or moves.lists (k - 1) first).reaches.items i by_high) e in
      let at_low : by_low ≡ get_or (die_list moves low second).reaches.items i by_low = low-is ∙ ap (λ (k : ℕ). get_or (get_or moves.lists (k - 1) second).reaches.items i by_low) f in
      let one = pair-ready value moves ready high low row after_high after_low first second i by_high a b c d h miss_high miss_low tables in
      let other : (get_or (die_list moves low second).reaches.items i by_high) ≡ get_or (die_list moves low second).reaches.items i by_low =
      (let is = ready.each low second c d in any-default (die_list moves low second).reaches.items i by_high by_low (omega (arith, h, is.first, is.longer, is.second))) in
      let here = subst (λ (r : Reach). IsPairReady value moves.steps moves.layers high low r by_low row after_high after_low) (sym at_high)
      (subst (λ (r : Reach). IsPairReady value moves.steps moves.layers high low (get_or (die_list moves high first).reaches.items i by_high) r row after_high after_low) (other ∙ sym at_low) one) in
      found ∙ pair-is value moves.steps moves.layers high low by_high by_low row after_high after_low here
      ∙ ap (λ (cell : ℕ). best_pair value high low (cell_placement moves.steps moves.layers cell)) (ap (λ (r : Reach). r.cell) at_high ∙ mover-cell high first by_high a b)

-- ---- roll by roll

pub double-roll : (value : Placement → ℤ) (p : Placement) (roll : Dice) → roll.high ≡ roll.low → best_double value roll.high p ≡ best_of_roll value p roll
unfolding best_of_roll
double-roll value p roll same = let test : eqb roll.high roll.low ≡ true = grind (arith, nat_tests) in rw test refl

pub pair-roll : (value : Placement → ℤ) (p : Placement) (roll : Dice) → roll.high ≢ roll.low → best_pair value roll.high roll.low p ≡ best_of_roll value p roll
unfolding best_of_roll
pair-roll value p roll apart = let test : eqb roll.high roll.low ≡ false = grind (arith, nat_tests) in rw test refl

pub one-way : (roll : Dice) → roll.high ≡ roll.low → ways roll ≡ 1
one-way roll same = let test : eqb roll.high roll.low ≡ true = grind (arith, nat_tests) in rw test refl

pub two-ways : (roll : Dice) → roll.high ≢ roll.low → ways roll ≡ 2
two-ways roll apart = let test : eqb roll.high roll.low ≡ false = grind (arith, nat_tests) in rw test refl

pub few-ways : (roll : Dice) → ways roll ≤ 2
few-ways roll = by_test (eqb roll.high roll.low) where
  by_test : (b : Bool) → cond b 1 2 ≤ 2
  by_test true = omega arith
  by_test false = omega arith

pub added-as : (n times : ℕ) (right found : ℤ → Type 0) (old new : ℤ) → n ≡ times → ((b : ℤ) → found b → right b) → IsAdded times found old new → IsAdded n right old new
added-as n times right found old new same means a = record {
  best = a.best;
  small = a.small;
  sum = a.sum ∙ ap (λ (t : ℕ). old +ℤ pos t *ℤ a.best) (sym same);
  is = means a.best a.is;
}

-- the rolls come in their ways
ways-all : list_all (λ (w : Dice × ℕ). eqb (ways w.0) w.1) all_rolls ≡ true
unfolding all_rolls
ways-all = refl

pub ways-at : (i : ℕ) (none : Dice × ℕ) → i < length all_rolls → ways (get_or all_rolls i none).0 ≡ (get_or all_rolls i none).1
ways-at i none h = by_test (eqb (ways (get_or all_rolls i none).0) (get_or all_rolls i none).1) refl where
  by_test : (b : Bool) → eqb (ways (get_or all_rolls i none).0) (get_or all_rolls i none).1 ≡ b → ways (get_or all_rolls i none).0 ≡ (get_or all_rolls i none).1
  by_test true e = grind (arith, nat_tests)
  by_test false e = absurd (false≢true (sym (list_all_at (λ (w : Dice × ℕ). eqb (ways w.0) w.1) all_rolls i none h e) ∙ ways-all))

first_of : (a : ℤ) → a +ℤ pos 0 ≡ pos 0 +ℤ a
first_of a = omega (arith, ints)

regroup : (a b c d : ℤ) → d ≡ b +ℤ c → a +ℤ d ≡ (a +ℤ b) +ℤ c
regroup a b c d h = omega (arith, ints)

best_sum-next : (f : Placement → ℤ) (p : Placement) (rolls : List (Dice × ℕ)) (i : ℕ) (none : Dice × ℕ) → i < length rolls
    → best_sum (take (suc i) rolls) f p ≡ best_sum (take i rolls) f p +ℤ pos (get_or rolls i none).1 *ℤ best_of_roll f p (get_or rolls i none).0
best_sum-next f p [] i none h = absurd (omega arith)
best_sum-next f p (first ∷ rest) zero none h = first_of (pos first.1 *ℤ best_of_roll f p first.0)
best_sum-next f p (first ∷ rest) (suc i) none h = regroup _ _ _ _ (best_sum-next f p rest i none (omega arith))

total-next : (rolls : List (Dice × ℕ)) (i : ℕ) (none : Dice × ℕ) → i < length rolls → total (take (suc i) rolls) ≡ total (take i rolls) + (get_or rolls i none).1
total-next [] i none h = absurd (omega arith)
total-next (first ∷ rest) zero none h = omega arith
total-next (first ∷ rest) (suc i) none h = omega (arith, total-next rest i none (omega arith))

-- a sum of so many small values, and times times one more
more-small : (t times : ℕ) (old best new : ℤ) → times ≤ 2 → IsWithinUnits (pos (t * 2 ^ 36)) old → IsWithinUnits (pos (2 ^ 36)) best → new ≡ old +ℤ pos times *ℤ best → IsWithinUnits (pos ((t + times) * 2 ^ 36)) new
more-small t zero old best new h a b e = record { from = omega (arith, ints, a.from); to = omega (arith, ints, a.to) }
more-small t (suc zero) old best new h a b e = record { from = omega (arith, ints, a.from, b.from); to = omega (arith, ints, a.to, b.to) }
more-small t (suc (suc zero)) old best new h a b e = record { from = omega (arith, ints, a.from, b.from); to = omega (arith, ints, a.to, b.to) }
more-small t (suc (suc (suc n))) old best new h a b e = absurd (omega arith)

pub all-small : (i : ℕ) (x : ℤ) → IsWithinUnits (pos (total (take i all_rolls) * 2 ^ 36)) x → IsWithinUnits (pos (2 ^ 42)) x
all-small i x h = let few = few-rolls i in record { from = omega (arith, ints, h.from, few); to = omega (arith, ints, h.to, few) }

pub sum-more : (f : Placement → ℤ) (p : Placement) (i times : ℕ) (none : Dice × ℕ) (roll : Dice) (old best new : ℤ) → i < length all_rolls → times ≡ (get_or all_rolls i none).1 → roll ≡ (get_or all_rolls i none).0
    → old ≡ best_sum (take i all_rolls) f p → best ≡ best_of_roll f p roll → new ≡ old +ℤ pos times *ℤ best → new ≡ best_sum (take (i + 1) all_rolls) f p
sum-more f p i times none roll old best new here times-is roll-is old-is best-is new-is =
    new-is
    ∙ (ap (λ (x : ℤ). x +ℤ pos times *ℤ best) old-is
    ∙ (ap (λ (x : ℤ). best_sum (take i all_rolls) f p +ℤ pos times *ℤ x) (best-is ∙ ap (λ (r : Dice). best_of_roll f p r) roll-is)
    ∙ (ap (λ (n : ℕ). best_sum (take i all_rolls) f p +ℤ pos n *ℤ best_of_roll f p (get_or all_rolls i none).0) times-is
    ∙ (sym (best_sum-next f p all_rolls i none here) ∙ ap (λ (n : ℕ). best_sum (take n all_rolls) f p) (sym (add-one i))))))

pub small-more : (i times : ℕ) (none : Dice × ℕ) (old best new : ℤ) → i < length all_rolls → times ≡ (get_or all_rolls i none).1 → times ≤ 2 → IsWithinUnits (pos (total (take i all_rolls) * 2 ^ 36)) old → IsWithinUnits (pos (2 ^ 36)) best
    → new ≡ old +ℤ pos times *ℤ best → IsWithinUnits (pos (total (take (i + 1) all_rolls) * 2 ^ 36)) new
small-more i times none old best new here times-is few a b e =
    let count : total (take i all_rolls) + times ≡ total (take (i + 1) all_rolls) = ap (λ (n : ℕ). total (take i all_rolls) + n) times-is ∙ (sym (total-next all_rolls i none here) ∙ ap (λ (n : ℕ). total (take n all_rolls)) (sym (add-one i))) in
    subst (λ (n : ℕ). IsWithinUnits (pos (n * 2 ^ 36)) new) count (more-small (total (take i all_rolls)) times old best new few a b e)
