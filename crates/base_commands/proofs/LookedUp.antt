-- A position's pairs from a file.
use Rattle.std.proofs.Common.{◌≡◌, ◌∙◌, ◌+◌, ℕ, zero, suc, ℤ, ◌≤ℤ◌, List, [], ◌∷◌, ◌++◌, length, take, Option, Some, None, refl, sym, ap, subst, arith}
use Rattle.std.specs.Int.{int_max, int_min}
use Rattle.std.proofs.lemmas.Int.{ints, clamps}
use Rattle.std.proofs.lemmas.Option.{none-some}
use Rattle.std.specs.Prelude.{slice_get, unwrap_or}
use Rattle.position_rank.specs.Placement.{Placement}
use Rattle.directed_fixed.specs.declared.bounds.End.TheVariants.{Lower, Upper}
use Rattle.directed_fixed.specs.Bounds.{Bounds}
use Rattle.cube_actions.specs.declared.name.KindName.{KindName}
use Rattle.turn_rule.specs.Turn.{Words}
use Rattle.base_reports.specs.declared.shown.KindRow.{KindRow}
use Rattle.base_commands.specs.Shows.{rows_from}
use Rattle.turn_rule.specs.States.{IsStateOf, pair_of}
use Rattle.base_head.specs.Headers.{IsHeader}
use Rattle.base_head.specs.declared.header.Header.{Header}
use Rattle.database_file.specs.Paged.{flaw_at, word_at}
use Rattle.database_file.proofs.PagedLooks.{told-right}
use Rattle.database_file.proofs.PagedWords.{told-within}

pub min-max : (x y : ℤ) → int_min x y ≤ℤ int_max x y
min-max x y = omega (arith, ints, clamps)

in_order-min : (x y : ℤ) → x ≤ℤ y → int_min x y ≡ x
in_order-min x y h = omega (arith, ints, clamps)

in_order-max : (x y : ℤ) → x ≤ℤ y → int_max x y ≡ y
in_order-max x y h = omega (arith, ints, clamps)

-- the words of a state on a right page are in order
on-page : (header : Header) (file : Option (List ℕ)) → IsHeader header → (p : Placement) (k : ℕ) → IsStateOf header.checkers header.kinds p k → flaw_at header file p ≡ None → word_at header file Lower p k ≤ℤ word_at header file Upper p k
on-page header file valid p k state right =
    rw (told-right header file Lower p k right, told-right header file Upper p k right) at (told-within header file valid p k state).in_order

pub pair-told : (header : Header) (file : Option (List ℕ)) → IsHeader header → (p : Placement) (k : ℕ) → IsStateOf header.checkers header.kinds p k → flaw_at header file p ≡ None
    → (lower upper : ℤ) → lower ≡ word_at header file Lower p k → upper ≡ word_at header file Upper p k
    → (pair : Bounds) → pair ≡ record { lower = int_min lower upper; upper = int_max lower upper } → pair ≡ pair_of (word_at header file) p k
pair-told header file valid p k state right lower upper low high pair is =
    let order = on-page header file valid p k state right in
    is ∙ rw (low, high, in_order-min _ _ order, in_order-max _ _ order) refl

pub length-rows : (u : Words) (p : Placement) (k : ℕ) (names : List KindName) → length (rows_from u p k names) ≡ length names
length-rows u p k [] = refl
length-rows u p k (name ∷ names) = ap (λ (n : ℕ). suc n) (length-rows u p (suc k) names)

-- one row more
pub one-row-more : (u : Words) (p : Placement) (k n : ℕ) (names : List KindName) (name : KindName) → slice_get names n ≡ Some name
    → take n (rows_from u p k names) ++ record { kind = name; pair = pair_of u p (n + k) } ∷ [] ≡ take (suc n) (rows_from u p k names)
one-row-more u p k zero [] name is = absurd (none-some name is)
one-row-more u p k (suc n) [] name is = absurd (none-some name is)
one-row-more u p k zero (first ∷ names) name is =
    let none : k ≡ 0 + k = omega arith in
    subst (λ (m : ℕ). take 0 (rows_from u p k (first ∷ names)) ++ record { kind = name; pair = pair_of u p m } ∷ [] ≡ take 1 (rows_from u p k (first ∷ names))) none
    (ap (λ (kind : KindName). record { kind = kind; pair = pair_of u p k } ∷ []) (sym (ap (λ (o : Option KindName). unwrap_or o first) is)))
one-row-more u p k (suc n) (first ∷ names) name is =
    let next : n + suc k ≡ suc n + k = omega arith in
    let more = one-row-more u p (suc k) n names name is in
    ap (λ (rows : List KindRow). record { kind = first; pair = pair_of u p k } ∷ rows) (subst (λ (m : ℕ). take n (rows_from u p (suc k) names) ++ record { kind = name; pair = pair_of u p m } ∷ [] ≡ take (suc n) (rows_from u p (suc k) names)) next more)
