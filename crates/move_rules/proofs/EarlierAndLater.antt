-- What holds of each element of a list and each later one, by recursion on the list.
use Rattle.std.proofs.Common.{◌<◌, ℕ, zero, suc, List, [], ◌∷◌, ◌++◌, length, map, get_or, inl, inr, refl, subst, sym, arith}
use Rattle.std.proofs.lemmas.List.Kept.{AllPairs-cons}
use Rattle.std.specs.List.{AllPairs, flat_map}
use Rattle.move_rules.specs.Ends.{down_from}
use Rattle.move_rules.specs.Listing.{Among}
use Rattle.move_rules.proofs.Members.{Among-right, Among-cases, Among-map, map-cases, flat_map-cases}
use Rattle.move_rules.proofs.EndsExact.{of_down}

abbrev pub Pairs : {X : Type 0} → (X → X → Type 0) → List X → Type 0
Pairs R [] = Unit {0}
Pairs R (x ∷ xs) = ((y : _) → Among y xs → R x y) × Pairs R xs

pub Pairs-append : {X : Type 0} (R : X → X → Type 0) (xs ys : List X) → Pairs R xs → Pairs R ys → ((x y : X) → Among x xs → Among y ys → R x y) → Pairs R (xs ++ ys)
Pairs-append R [] ys a b across = b
Pairs-append R (x ∷ xs) ys a b across =
    (λ y h. elim (Among-cases y xs ys h) [ inl i ↦ a.0 y i | inr j ↦ across x y (inl refl) j ], Pairs-append R xs ys a.1 b (λ x' y i j. across x' y (inr i) j))

pub Pairs-push : {X : Type 0} (R : X → X → Type 0) (xs : List X) (y : X) → Pairs R xs → ((x : X) → Among x xs → R x y) → Pairs R (xs ++ y ∷ [])
Pairs-push R xs y a all = Pairs-append R xs (y ∷ []) a (λ z h. absurd h, tt) (λ x z i j. elim j [ inl e ↦ subst (λ w. R x w) (sym e) (all x i) | inr k ↦ absurd k ])

pub Pairs-down : {X : Type 0} (R : X → X → Type 0) (F : ℕ → List X) (n : ℕ) → ((k : ℕ) → Pairs R (F k)) → ((j k : ℕ) (x y : X) → j < k → Among x (F k) → Among y (F j) → R x y) → Pairs R (flat_map F (down_from n))
Pairs-down R F zero each across = tt
Pairs-down R F (suc n) each across =
    Pairs-append R (F (suc n)) (flat_map F (down_from n)) (each (suc n)) (Pairs-down R F n each across)
    (λ x y i j. let r = flat_map-cases F y (down_from n) j in across r.0 (suc n) x y (omega (arith, of_down n r.0 r.1)) i r.2)

pub Pairs-map : {X Y : Type 0} (R : Y → Y → Type 0) (f : X → Y) (xs : List X) → Pairs (λ x y. R (f x) (f y)) xs → Pairs R (map f xs)
Pairs-map R f [] a = tt
Pairs-map R f (x ∷ xs) a = (λ y h. let r = map-cases f y xs h in subst (λ z. R (f x) z) (sym r.2) (a.0 r.0 r.1), Pairs-map R f xs a.1)

pub Pairs-of_map : {X Y : Type 0} (R : Y → Y → Type 0) (f : X → Y) (xs : List X) → Pairs R (map f xs) → Pairs (λ x y. R (f x) (f y)) xs
Pairs-of_map R f [] a = tt
Pairs-of_map R f (x ∷ xs) a = (λ y h. a.0 (f y) (Among-map f y xs h), Pairs-of_map R f xs a.1)

-- each element before this one
pub Pairs-before : {X : Type 0} (R : X → X → Type 0) (xs : List X) (y : X) (ys : List X) (x : X) → Pairs R (xs ++ y ∷ ys) → Among x xs → R x y
Pairs-before R [] y ys x a h = absurd h
Pairs-before R (z ∷ xs) y ys x a (inl e) = subst (λ w. R w y) (sym e) (a.0 y (Among-right y xs (y ∷ ys) (inl refl)))
Pairs-before R (z ∷ xs) y ys x a (inr h) = Pairs-before R xs y ys x a.1 h

pub Among-at : {X : Type 0} (xs : List X) (k : ℕ) (d : X) → k < length xs → Among (get_or xs k d) xs
Among-at [] k d h = absurd (omega arith)
Among-at (x ∷ xs) zero d h = inl refl
Among-at (x ∷ xs) (suc k) d h = inr (Among-at xs k d (omega arith))

pub AllPairs-of : {X : Type 0} (R : X → X → Type 0) (xs : List X) → Pairs R xs → AllPairs R xs
AllPairs-of R [] a = λ i j d h k. absurd (omega arith)
AllPairs-of R (x ∷ xs) a = AllPairs-cons R x xs (λ k d h. a.0 (get_or xs k d) (Among-at xs k d h)) (AllPairs-of R xs a.1)
