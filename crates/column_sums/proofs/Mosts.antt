-- The greatest of values that may be missing.
use Rattle.std.proofs.Common.{◌≡◌, ◌++◌, ◌∙◌, ℤ, List, [], ◌∷◌, Option, Some, None, map, refl, ap, sym, arith}
use Rattle.std.specs.Int.{int_max}
use Rattle.std.proofs.lemmas.Int.{ints, clamps}
use Rattle.position_rank.specs.Placement.{Placement}
use Rattle.move_rules.specs.Ends.{Line}
use Rattle.move_rules.specs.Listing.{or_else}
use Rattle.turn_rule.specs.Turn.{greatest}
use Rattle.column_sums.specs.Cascade.{or_max, or_value, greatest_if_any}

max_assoc : (a b c : ℤ) → int_max a (int_max b c) ≡ int_max (int_max a b) c
max_assoc a b c = omega (arith, ints, clamps)

pub or_max-assoc : (a b c : Option ℤ) → or_max a (or_max b c) ≡ or_max (or_max a b) c
or_max-assoc None b c = refl
or_max-assoc (Some a) None c = refl
or_max-assoc (Some a) (Some b) None = refl
or_max-assoc (Some a) (Some b) (Some c) = ap (λ (x : ℤ). Some x) (max_assoc a b c)

pub or_max-none : (a : Option ℤ) → or_max a None ≡ a
or_max-none None = refl
or_max-none (Some a) = refl

pub most-append : (f : Placement → ℤ) (qs rs : List Placement) → greatest_if_any f (qs ++ rs) ≡ or_max (greatest_if_any f qs) (greatest_if_any f rs)
most-append f [] rs = refl
most-append f (q ∷ qs) rs = ap (λ (x : Option ℤ). or_max (Some (f q)) x) (most-append f qs rs) ∙ or_max-assoc (Some (f q)) (greatest_if_any f qs) (greatest_if_any f rs)

-- of a list that isn't empty
pub most-greatest : (f : Placement → ℤ) (q : Placement) (qs : List Placement) → greatest_if_any f (q ∷ qs) ≡ Some (greatest f (q ∷ qs))
most-greatest f q [] = refl
most-greatest f q (r ∷ qs) = ap (λ (x : Option ℤ). or_max (Some (f q)) x) (most-greatest f r qs)

pub most-is : (f : Placement → ℤ) (qs : List Placement) (x : ℤ) → greatest_if_any f qs ≡ Some x → greatest f qs ≡ x
most-is f [] x e = absurd (grind arith)
most-is f (q ∷ qs) x e = grind (arith, most-greatest f q qs)

-- the greatest value of the ends of some lines
abbrev pub most_of : (Placement → ℤ) → List Line → Option ℤ
most_of f lines = greatest_if_any f (map (λ (line : Line). line.1) lines)

pub most_of-append : (f : Placement → ℤ) (ls ms : List Line) → most_of f (ls ++ ms) ≡ or_max (most_of f ls) (most_of f ms)
most_of-append f [] ms = refl
most_of-append f (l ∷ ls) ms = ap (λ (x : Option ℤ). or_max (Some (f l.1)) x) (most_of-append f ls ms) ∙ or_max-assoc (Some (f l.1)) (most_of f ls) (most_of f ms)

some_first : (f : Placement → ℤ) (l : Line) (ls : List Line) (x : Option ℤ) → (y : ℤ) × (or_max (Some (f l.1)) x ≡ Some y)
some_first f l ls None = (f l.1, refl)
some_first f l ls (Some x) = (int_max (f l.1) x, refl)

filled : (a : Option ℤ) (x y b : ℤ) → a ≡ Some y → x ≡ or_value a b → a ≡ Some x
filled None x y b e is = absurd (grind arith)
filled (Some a) x y b e is = ap (λ (z : ℤ). Some z) (sym is)

-- the first lines that there are
pub most_of-or_else : (f : Placement → ℤ) (ls ms : List Line) (x : ℤ) → most_of f ms ≡ Some x → most_of f (or_else ls ms) ≡ Some (or_value (most_of f ls) x)
most_of-or_else f [] ms x e = e
most_of-or_else f (l ∷ ls) ms x e = let y = some_first f l ls (most_of f ls) in filled (most_of f (l ∷ ls)) (or_value (most_of f (l ∷ ls)) x) y.0 x y.1 refl
