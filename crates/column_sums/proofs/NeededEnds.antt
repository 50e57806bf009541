-- The cells that the ends of legal plays stand in are needed: a sum is the same for all values that a row has where they are needed, so it would
-- be the same if another cell had a greater value than all ends of a roll.
use Rattle.std.proofs.Common.{◌≡◌, ◌≢◌, ◌≤◌, ◌<◌, ◌∙◌, inl, inr, Bool, true, false, cond, eqb, ℕ, zero, suc, ℤ, pos, ◌≤ℤ◌, ◌+ℤ◌, ◌*ℤ◌, get_or, set, get_or-set_same, get_or-set_other, List, [], ◌∷◌, length, map, replicate, Option, Some, None, refl, ap, sym, subst, arith}
use Rattle.std.proofs.lemmas.Bool.{cases_eq, false≢true}
use Rattle.std.proofs.lemmas.Int.{ints}
use Rattle.std.proofs.lemmas.List.{get_or-replicate}
use Rattle.std.specs.List.{range_with_len}
use Rattle.position_rank.specs.Placement.{Placement}
use Rattle.position_rank.specs.Ranks.{rank_of}
use Rattle.roll_table.specs.Rolls.{Dice, IsRoll, weighted_roll, all_rolls}
use Rattle.move_rules.specs.Ends.{legal_ends}
use Rattle.move_rules.specs.Listing.{Among}
use Rattle.move_rules.proofs.Members.{Among-flat_map, Among-map, Among-range}
use Rattle.turn_rule.specs.Turn.{greatest, sum_over}
use Rattle.turn_rule.specs.Layouts.{AreLayouts}
use Rattle.turn_rule.proofs.Integers.{le_refl, mul_mono}
use Rattle.turn_rule.proofs.Greatest.{greatest-mono, greatest-bound}
use Rattle.column_sums.specs.Cascade.{or_value, best_over, best_sum}
use Rattle.column_sums.specs.Cells.{cell_of}
use Rattle.column_sums.specs.Needed.{IsNeeded}
use Rattle.column_sums.specs.Tables.{IsRow, IsNeededRow}
use Rattle.column_sums.specs.AfterHits.{AreDistinct}
use Rattle.column_sums.specs.Values.{index_in, cell_value}
use Rattle.column_sums.specs.FoundCells.{placement_of}
use Rattle.column_sums.proofs.TableLemmas.{row-set}
use Rattle.column_sums.proofs.RowValues.{row-values}
use Rattle.column_sums.proofs.Found.{all-best}

-- a roll is one of the 21, in one way or two
ways-some : (b : Bool) → 1 ≤ cond b 1 2
ways-some true = omega arith
ways-some false = omega arith

roll-among : (roll : Dice) → IsRoll roll → (n : ℕ) × Among (roll, n) all_rolls × (1 ≤ n)
unfolding all_rolls
roll-among roll is = (
  (weighted_roll roll.high roll.low).1,
  Among-flat_map (λ high. map (weighted_roll high) (range_with_len 1 high)) roll.high (weighted_roll roll.high roll.low) (range_with_len 1 6) (Among-range 1 6 roll.high (omega (arith, is.from, is.in_order)) (omega (arith, is.to)))
      (Among-map (weighted_roll roll.high) roll.low (range_with_len 1 roll.high) (Among-range 1 roll.high roll.low is.from (omega (arith, is.in_order)))),
  ways-some (eqb roll.high roll.low),
)

add-first : (a b c d : ℤ) → (a +ℤ pos 1) ≤ℤ b → c ≤ℤ d → ((a +ℤ c) +ℤ pos 1) ≤ℤ (b +ℤ d)
add-first a b c d h k = omega (arith, ints)

add-later : (a b c d : ℤ) → a ≤ℤ b → (c +ℤ pos 1) ≤ℤ d → ((a +ℤ c) +ℤ pos 1) ≤ℤ (b +ℤ d)
add-later a b c d h k = omega (arith, ints)

one-more : (n : ℕ) (x : ℤ) → pos (suc n) *ℤ x ≡ x +ℤ pos n *ℤ x
one-more n x = omega (arith, ints)

le-more : (a b : ℤ) → (a +ℤ pos 1) ≤ℤ b → a ≤ℤ b
le-more a b h = omega (arith, ints)

times-more : (n : ℕ) (a b : ℤ) → 1 ≤ n → (a +ℤ pos 1) ≤ℤ b → (pos n *ℤ a +ℤ pos 1) ≤ℤ (pos n *ℤ b)
times-more zero a b some h = absurd (omega (arith, some))
times-more (suc n) a b some h = rw (one-more n a, one-more n b) (add-first a b (pos n *ℤ a) (pos n *ℤ b) h (mul_mono n a b (le-more a b h)))

module _ (f g : Placement → ℤ) (p : Placement) (below : (q : Placement) → f q ≤ℤ g q) where
  sum-below : (rolls : List (Dice × ℕ)) → sum_over rolls f p ≤ℤ sum_over rolls g p
  sum-below [] = le_refl (pos 0)
  sum-below (roll ∷ rolls) =
      let this = mul_mono roll.1 _ _ (greatest-mono f g (legal_ends p roll.0) (λ q m. below q)) in
      let rest = sum-below rolls in
      omega (arith, ints, this, rest)

  -- a greater value at one roll makes a greater sum
  pub sum-more : (roll : Dice × ℕ) → 1 ≤ roll.1 → (greatest f (legal_ends p roll.0) +ℤ pos 1) ≤ℤ greatest g (legal_ends p roll.0) → (rolls : List (Dice × ℕ)) → Among roll rolls → (sum_over rolls f p +ℤ pos 1) ≤ℤ sum_over rolls g p
  sum-more roll some more [] m = absurd m
  sum-more roll some more (r ∷ rolls) (inl e) =
      let this : (pos r.1 *ℤ greatest f (legal_ends p r.0) +ℤ pos 1) ≤ℤ (pos r.1 *ℤ greatest g (legal_ends p r.0)) = subst (λ (s : Dice × ℕ). (pos s.1 *ℤ greatest f (legal_ends p s.0) +ℤ pos 1) ≤ℤ (pos s.1 *ℤ greatest g (legal_ends p s.0))) e (times-more roll.1 _ _ some more) in
      add-first _ _ _ _ this (sum-below rolls)
  sum-more roll some more (r ∷ rolls) (inr m) =
      add-later _ _ _ _ (mul_mono r.1 _ _ (greatest-mono f g (legal_ends p r.0) (λ q m. below q))) (sum-more roll some more rolls m)

some-same : (o : Option ℤ) (x y : ℤ) → o ≡ Some x → o ≡ Some y → x ≡ y
some-same None x y e f = absurd (grind arith)
some-same (Some z) x y e f = cc

value-some : (o : Option ℤ) (x : ℤ) → o ≡ Some x → or_value o (pos 0) ≡ x
value-some None x e = absurd (grind arith)
value-some (Some y) x e = cc

not-more : (x : ℤ) → (x +ℤ pos 1) ≤ℤ x → ⊥
not-more x h = omega (arith, ints)

more-than : (a b : ℤ) → a ≤ℤ b → a ≤ℤ (b +ℤ pos 1)
more-than a b h = omega (arith, ints)

module _ (checkers : ℕ) (all others : List (List ℕ)) (needed : List Bool) (layouts-are : AreLayouts checkers all) (few : length all ≤ 3276) (eight : length others ≤ 8) (distinct : AreDistinct others) where
  -- the value of the placement of a cell
  pub value-at : (row : List (Option ℤ)) (layer rank : ℕ) → IsRow row → layer < length others → rank < length all → get_or row (cell_of layer rank) None ≡ Some (cell_value others row (placement_of all others layer rank))
  unfolding best_over
  value-at row layer rank is h k = row-values checkers all others (replicate 32768 true) row layouts-are few eight distinct is layer rank h k (get_or-replicate 32768 (cell_of layer rank) true false (omega (arith, h, k, few, eight)))

  module _ (row : List (Option ℤ)) (is-row : IsRow row) (p : Placement) (x : ℤ) (sum : (value : Placement → ℤ) → IsNeededRow value all others needed row → x ≡ best_sum all_rolls value p)
      (roll : Dice) (right : IsRoll roll) (q : Placement) (m : Among q (legal_ends p roll)) (layer rank : ℕ) (h : layer < length others) (k : rank < length all) (at : placement_of all others layer rank ≡ q) where
    abbrev value : Placement → ℤ
    value = cell_value others row

    abbrev more : ℤ
    more = greatest value (legal_ends p roll) +ℤ pos 1

    abbrev raised : List (Option ℤ)
    raised = set row (cell_of layer rank) (Some more)

    abbrev raised_value : Placement → ℤ
    raised_value = cell_value others raised

    raised-row : IsRow raised
    raised-row = row-set row layer rank more (omega (arith, h, eight)) (omega (arith, k, few)) is-row

    here : cell_of layer rank < length row
    here = omega (arith, h, k, few, eight, is-row.many)

    value-here : get_or row (cell_of layer rank) None ≡ Some (value q)
    value-here = subst (λ (r : Placement). get_or row (cell_of layer rank) None ≡ Some (value r)) at (value-at row layer rank is-row h k)

    raised-here : get_or raised (cell_of layer rank) None ≡ Some more
    raised-here = get_or-set_same row (cell_of layer rank) (Some more) None here

    raised-at : raised_value q ≡ more
    raised-at = some-same (get_or raised (cell_of layer rank) None) (raised_value q) more (subst (λ (r : Placement). get_or raised (cell_of layer rank) None ≡ Some (raised_value r)) at (value-at raised layer rank raised-row h k)) raised-here

    below : (r : Placement) → value r ≤ℤ raised_value r
    below r = elim (cases_eq (cell_of (index_in others r.other) (rank_of r.mover)) (cell_of layer rank)) [
      | inl same ↦ (
          let old : value r ≡ value q = value-some _ (value q) (ap (λ (c : ℕ). get_or row c None) same ∙ value-here) in
          let new : raised_value r ≡ more = value-some _ more (ap (λ (c : ℕ). get_or raised c None) same ∙ raised-here) in
          rw (old, new) (more-than _ _ (greatest-bound value q (legal_ends p roll) m)))
      | inr apart ↦ (
          let same : raised_value r ≡ value r = ap (λ (o : Option ℤ). or_value o (pos 0)) (get_or-set_other row (cell_of layer rank) (cell_of (index_in others r.other) (rank_of r.mover)) (Some more) None apart) in
          rw same (le_refl (value r)))
    ]

    still : get_or needed (cell_of layer rank) false ≡ false → IsNeededRow raised_value all others needed row
    still unmarked l r a b n =
        let apart : cell_of l r ≢ cell_of layer rank = λ e. false≢true (sym unmarked ∙ (ap (λ (c : ℕ). get_or needed c false) (sym e) ∙ n)) in
        sym (get_or-set_other row (cell_of layer rank) (cell_of l r) (Some more) None apart) ∙ row-values checkers all others needed raised layouts-are few eight distinct raised-row l r a b n

    never : get_or needed (cell_of layer rank) false ≡ false → ⊥
    never unmarked =
        let among = roll-among roll right in
        let greater : (greatest value (legal_ends p roll) +ℤ pos 1) ≤ℤ greatest raised_value (legal_ends p roll) = subst (λ (y : ℤ). y ≤ℤ greatest raised_value (legal_ends p roll)) raised-at (greatest-bound raised_value q (legal_ends p roll) m) in
        let sums = sum-more value raised_value p below (roll, among.0) among.2 greater all_rolls among.1 in
        let same : sum_over all_rolls raised_value p ≡ sum_over all_rolls value p =
        all-best raised_value p ∙ (sym (sum raised_value (still unmarked)) ∙ (sum value (row-values checkers all others needed row layouts-are few eight distinct is-row) ∙ sym (all-best value p))) in
        not-more _ (subst (λ (y : ℤ). (sum_over all_rolls value p +ℤ pos 1) ≤ℤ y) same sums)

    pub end-needed : IsNeeded needed (cell_of layer rank)
    end-needed = by_mark (get_or needed (cell_of layer rank) false) refl where
      by_mark : (b : Bool) → get_or needed (cell_of layer rank) false ≡ b → b ≡ true
      by_mark true e = refl
      by_mark false e = absurd (never e)
