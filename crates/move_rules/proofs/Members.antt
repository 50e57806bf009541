-- Membership by recursion on the list.
use Rattle.std.proofs.Common.{◌≡◌, ◌≤◌, ◌<◌, ◌+◌, ℕ, zero, suc, Bool, true, false, cond, List, [], ◌∷◌, ◌++◌, map, ◌⊎◌, inl, inr, refl, ap, subst, sym, arith}
use Rattle.std.proofs.lemmas.Bool.{cases_lt}
use Rattle.move_rules.specs.Listing.{Among}
use Rattle.std.specs.List.{filter, flat_map, range_with_len, Contains}

pub Among-left : {X : Type 0} (x : X) (xs ys : List X) → Among x xs → Among x (xs ++ ys)
Among-left x [] ys h = absurd h
Among-left x (y ∷ xs) ys (inl e) = inl e
Among-left x (y ∷ xs) ys (inr h) = inr (Among-left x xs ys h)

pub Among-right : {X : Type 0} (x : X) (xs ys : List X) → Among x ys → Among x (xs ++ ys)
Among-right x [] ys h = h
Among-right x (y ∷ xs) ys h = inr (Among-right x xs ys h)

pub Among-cases : {X : Type 0} (x : X) (xs ys : List X) → Among x (xs ++ ys) → Among x xs ⊎ Among x ys
Among-cases x [] ys h = inr h
Among-cases x (y ∷ xs) ys (inl e) = inl (inl e)
Among-cases x (y ∷ xs) ys (inr h) = elim (Among-cases x xs ys h) [ inl a ↦ inl (inr a) | inr b ↦ inr b ]

pub Among-map : {X Y : Type 0} (f : X → Y) (x : X) (xs : List X) → Among x xs → Among (f x) (map f xs)
Among-map f x [] h = absurd h
Among-map f x (y ∷ xs) (inl e) = inl (ap f e)
Among-map f x (y ∷ xs) (inr h) = inr (Among-map f x xs h)

pub map-cases : {X Y : Type 0} (f : X → Y) (y : Y) (xs : List X) → Among y (map f xs) → (x : X) × Among x xs × (y ≡ f x)
map-cases f y [] h = absurd h
map-cases f y (x ∷ xs) (inl e) = (x, inl refl, e)
map-cases f y (x ∷ xs) (inr h) = let r = map-cases f y xs h in (r.0, inr r.1, r.2)

pub Among-flat_map : {X Y : Type 0} (f : X → List Y) (x : X) (y : Y) (xs : List X) → Among x xs → Among y (f x) → Among y (flat_map f xs)
Among-flat_map f x y [] h k = absurd h
Among-flat_map f x y (z ∷ xs) (inl e) k = Among-left y (f z) (flat_map f xs) (subst (λ w. Among y (f w)) e k)
Among-flat_map f x y (z ∷ xs) (inr h) k = Among-right y (f z) (flat_map f xs) (Among-flat_map f x y xs h k)

pub flat_map-cases : {X Y : Type 0} (f : X → List Y) (y : Y) (xs : List X) → Among y (flat_map f xs) → (x : X) × Among x xs × Among y (f x)
flat_map-cases f y [] h = absurd h
flat_map-cases f y (x ∷ xs) h = elim (Among-cases y (f x) (flat_map f xs) h) [
  | inl a ↦ (x, inl refl, a)
  | inr b ↦ (let r = flat_map-cases f y xs b in (r.0, inr r.1, r.2))
]

pub Among-filter : {X : Type 0} (p : X → Bool) (x : X) (xs : List X) → Among x xs → p x ≡ true → Among x (filter p xs)
Among-filter p x [] h k = absurd h
Among-filter p x (y ∷ xs) (inl e) k = rw (← e) (rw k (inl refl))
Among-filter p x (y ∷ xs) (inr h) k =
    elim (p y) as (λ b. Among x (cond b (y ∷ filter p xs) (filter p xs))) [ true ↦ inr (Among-filter p x xs h k) | false ↦ Among-filter p x xs h k ]

chosen : {X : Type 0} (b : Bool) (x y : X) (zs : List X) → Among x (cond b (y ∷ zs) zs) → ((b ≡ true) × (x ≡ y)) ⊎ Among x zs
chosen true x y zs (inl e) = inl (refl, e)
chosen true x y zs (inr h) = inr h
chosen false x y zs h = inr h

pub filter-cases : {X : Type 0} (p : X → Bool) (x : X) (xs : List X) → Among x (filter p xs) → Among x xs × (p x ≡ true)
filter-cases p x [] h = absurd h
filter-cases p x (y ∷ xs) h = elim (chosen (p y) x y (filter p xs) h) [
  | inl here ↦ (inl here.1, subst (λ z. p z ≡ true) (sym here.1) here.0)
  | inr later ↦ (let r = filter-cases p x xs later in (inr r.0, r.1))
]

pub Among-range : (a n i : ℕ) → a ≤ i → i < a + n → Among i (range_with_len a n)
Among-range a zero i low high = absurd (omega arith)
Among-range a (suc n) i low high = elim (cases_lt a i) [ inl l ↦ inr (Among-range (a + 1) n i (omega arith) (omega arith)) | inr g ↦ inl (omega arith) ]

pub range-cases : (a n i : ℕ) → Among i (range_with_len a n) → (a ≤ i) × (i < a + n)
range-cases a zero i h = absurd h
range-cases a (suc n) i (inl e) = (omega arith, omega arith)
range-cases a (suc n) i (inr h) = let r = range-cases (a + 1) n i h in (omega arith, omega arith)

pub Contains-Among : {X : Type 0} (x : X) (xs : List X) → Contains xs x → Among x xs
Contains-Among x [] (k, low, e) = absurd (omega arith)
Contains-Among x (y ∷ xs) (zero, low, e) = inl (sym e)
Contains-Among x (y ∷ xs) (suc k, low, e) = inr (Contains-Among x xs (k, omega arith, e))

pub Among-Contains : {X : Type 0} (x : X) (xs : List X) → Among x xs → Contains xs x
Among-Contains x [] h = absurd h
Among-Contains x (y ∷ xs) (inl e) = (0, omega arith, sym e)
Among-Contains x (y ∷ xs) (inr h) = let r = Among-Contains x xs h in (suc r.0, omega (arith, r.1), r.2)
