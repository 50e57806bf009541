-- A roll has one list of plays, so a word chooses one of them.
use Rattle.std.proofs.Common.{◌≡◌, ◌∙◌, ◌%◌, ◌<◌, ℕ, suc, List, [], ◌∷◌, Some, length, map, get_or, slice_get, refl, sym, ap, subst, inl, inr, ◌⊎◌, arith}
use Rattle.std.specs.Prelude.{AllPairs, unwrap_or}
use Rattle.std.proofs.lemmas.Bool.{cases_lt}
use Rattle.std.proofs.lemmas.List.Elements.{All-contains}
use Rattle.position_rank.specs.Placement.{Placement}
use Rattle.roll_table.specs.Rolls.{Dice}
use Rattle.move_rules.specs.Listing.{Among}
use Rattle.move_rules.specs.Order.{IsFirst, PlayComesBefore, ends_of, plays_of}
use Rattle.move_rules.specs.declared.play.Entry.{Entry}
use Rattle.move_rules.specs.declared.play.Move.{Move}
use Rattle.move_rules.proofs.Members.{Among-Contains, Among-map, Contains-Among, map-cases}
use Rattle.record_maker.specs.Draws.{ArePlays, IsChosen}

-- ---- lists in order

all-among : {X : Type 0} (P : X → Type 0) (xs : List X) → ((i : ℕ) (d : X) → i < length xs → P (get_or xs i d)) → (y : X) → Among y xs → P y
all-among P [] at y h = absurd h
all-among P (x ∷ xs) at y (inl e) = subst P (sym e) (at 0 x (omega arith))
all-among P (x ∷ xs) at y (inr h) = all-among P xs (λ i d low. at (suc i) d (omega (arith, low))) y h

-- each item comes before those behind it
abbrev pub Ordered : {X : Type 0} → (X → X → Type 0) → List X → Type 0
Ordered {X} R [] = Unit {0}
Ordered {X} R (x ∷ xs) = ((y : X) → Among y xs → R x y) × Ordered R xs

ordered : {X : Type 0} (R : X → X → Type 0) (xs : List X) → AllPairs R xs → Ordered R xs
ordered R [] h = tt
ordered R (x ∷ xs) h =
    (λ y among. all-among (R x) xs (λ i d low. h 0 (suc i) d (omega arith) (omega (arith, low))) y among, ordered R xs (λ i j d less low. h (suc i) (suc j) d (omega (arith, less)) (omega (arith, low))))

ordered-of : {X Y : Type 0} (R : Y → Y → Type 0) (f : X → Y) (xs : List X) → Ordered R (map f xs) → Ordered (λ (x y : X). R (f x) (f y)) xs
ordered-of R f [] h = tt
ordered-of R f (x ∷ xs) (here, later) = (λ y among. here (f y) (Among-map f y xs among), ordered-of R f xs later)

-- two lists in one order that have the same items are one
same-lists : {X : Type 0} (R : X → X → Type 0) → ((x y : X) → R x y → R y x → ⊥) → (xs ys : List X) → Ordered R xs → Ordered R ys → ((z : X) → Among z xs → Among z ys) → ((z : X) → Among z ys → Among z xs) → xs ≡ ys
same-lists R apart [] [] o p to back = refl
same-lists R apart [] (y ∷ ys) o p to back = absurd (back y (inl refl))
same-lists R apart (x ∷ xs) [] o p to back = absurd (to x (inl refl))
same-lists {X} R apart (x ∷ xs) (y ∷ ys) o p to back =
    let head = first (to x (inl refl)) (back y (inl refl)) in
    let rest = same-lists R apart xs ys o.1 p.1 (λ z h. behind z h head (to z (inr h))) (λ z h. behind-too z h head (back z (inr h))) in
    λ i. head i ∷ rest i where
      first : (x ≡ y) ⊎ Among x ys → (y ≡ x) ⊎ Among y xs → x ≡ y
      first (inl e) other = e
      first (inr h) (inl e) = sym e
      first (inr h) (inr k) = absurd (apart x y (o.0 y k) (p.0 x h))

      behind : (z : X) → Among z xs → x ≡ y → (z ≡ y) ⊎ Among z ys → Among z ys
      behind z h head (inl e) = (let self = subst (λ (w : X). R x w) (e ∙ sym head) (o.0 z h) in absurd (apart x x self self))
      behind z h head (inr k) = k

      behind-too : (z : X) → Among z ys → x ≡ y → (z ≡ x) ⊎ Among z xs → Among z xs
      behind-too z h head (inl e) = (let self = subst (λ (w : X). R y w) (e ∙ head) (p.0 z h) in absurd (apart y y self self))
      behind-too z h head (inr k) = k

-- ---- plays in order

one-way : (a b : List Move) → PlayComesBefore a b → PlayComesBefore b a → ⊥
one-way [] b h k = absurd h
one-way (m ∷ a) [] h k = absurd h
one-way (m ∷ a) (n ∷ b) (inl h) (inl k) = absurd (omega (arith, h, k))
one-way (m ∷ a) (n ∷ b) (inl h) (inr (inl k)) = absurd (omega (arith, h, k.0))
one-way (m ∷ a) (n ∷ b) (inl h) (inr (inr k)) = (let dies = ap (λ (x : Move). x.die) k.0 in absurd (omega (arith, h, dies)))
one-way (m ∷ a) (n ∷ b) (inr (inl h)) (inl k) = absurd (omega (arith, h.0, k))
one-way (m ∷ a) (n ∷ b) (inr (inl h)) (inr (inl k)) = absurd (omega (arith, h.1, k.1))
one-way (m ∷ a) (n ∷ b) (inr (inl h)) (inr (inr k)) = (let froms = ap (λ (x : Move). x.from) k.0 in absurd (omega (arith, h.1, froms)))
one-way (m ∷ a) (n ∷ b) (inr (inr h)) (inl k) = (let dies = ap (λ (x : Move). x.die) h.0 in absurd (omega (arith, k, dies)))
one-way (m ∷ a) (n ∷ b) (inr (inr h)) (inr (inl k)) = (let froms = ap (λ (x : Move). x.from) h.0 in absurd (omega (arith, k.1, froms)))
one-way (m ∷ a) (n ∷ b) (inr (inr h)) (inr (inr k)) = one-way a b h.1 k.1

-- of two plays of as many moves one comes before the other, or they are one
abbrev pub Compared : List Move → List Move → Type 0
Compared a b = (a ≡ b) ⊎ PlayComesBefore a b ⊎ PlayComesBefore b a

compared : (a b : List Move) → length a ≡ length b → Compared a b
compared [] [] e = inl refl
compared [] (n ∷ b) e = absurd (omega (arith, e))
compared (m ∷ a) [] e = absurd (omega (arith, e))
compared (m ∷ a) (n ∷ b) e = elim (cases_lt n.die m.die) [
  | inl high ↦ inr (inl (inl high))
  | inr low ↦ elim (cases_lt m.die n.die) [
    | inl high ↦ inr (inr (inl high))
    | inr low_too ↦ (let dies : m.die ≡ n.die = omega (arith, low, low_too) in elim (cases_lt n.from m.from) [
      | inl far ↦ inr (inl (inr (inl (dies, far))))
      | inr near ↦ elim (cases_lt m.from n.from) [
        | inl far ↦ inr (inr (inr (inl (sym dies, far))))
        | inr near_too ↦ (let froms : m.from ≡ n.from = omega (arith, near, near_too) in with_first (λ i. record { from = froms i; die = dies i }) (compared a b (omega (arith, e))))
      ]
    ])
  ]
] where
  with_first : m ≡ n → Compared a b → Compared (m ∷ a) (n ∷ b)
  with_first same (inl rest) = inl (λ i. same i ∷ rest i)
  with_first same (inr (inl before)) = inr (inl (inr (inr (same, before))))
  with_first same (inr (inr before)) = inr (inr (inr (inr (sym same, before))))

-- an end has one first play
one-first : (p : Placement) (roll : Dice) (a b : List Move) (end : Placement) → IsFirst p roll a end → IsFirst p roll b end → a ≡ b
one-first p roll a b end one other =
    let long = one.legal.longest b end other.legal.sequence in
    let short = other.legal.longest a end one.legal.sequence in
    elim (compared a b (omega (arith, long, short))) [
      | inl same ↦ same
      | inr (inl before) ↦ absurd (other.first a one.legal before)
      | inr (inr before) ↦ absurd (one.first b other.legal before)
    ]

-- ---- the list of a roll

listed-too : (p : Placement) (roll : Dice) (xs ys : List Entry) → ArePlays p roll xs → ArePlays p roll ys → (entry : Entry) → Among entry xs → Among entry ys
listed-too p roll xs ys one other entry among =
    let end_of = λ (entry : Entry). entry.end in
    let legal = (one.ends entry.end).0 (Among-Contains entry.end (ends_of xs) (Among-map end_of entry xs among)) in
    let found = map-cases end_of entry.end ys (Contains-Among entry.end (ends_of ys) ((other.ends entry.end).1 legal)) in
    let first = All-contains (λ (entry : Entry). IsFirst p roll entry.play.items entry.end) xs entry one.first (Among-Contains entry xs among) in
    let first_too = All-contains (λ (entry : Entry). IsFirst p roll entry.play.items entry.end) ys found.0 other.first (Among-Contains found.0 ys found.1) in
    let plays = one-first p roll entry.play.items found.0.play.items entry.end first (subst (λ (end : Placement). IsFirst p roll found.0.play.items end) (sym found.2) first_too) in
    let same : found.0 ≡ entry = λ i. record { play = record { items = sym plays i }; end = sym found.2 i } in
    subst (λ (e : Entry). Among e ys) same found.1

one-list : (p : Placement) (roll : Dice) (xs ys : List Entry) → ArePlays p roll xs → ArePlays p roll ys → xs ≡ ys
one-list p roll xs ys one other =
    let play_of = λ (entry : Entry). entry.play.items in
    same-lists (λ (a b : Entry). PlayComesBefore a.play.items b.play.items) (λ a b. one-way a.play.items b.play.items) xs ys
    (ordered-of PlayComesBefore play_of xs (ordered PlayComesBefore (plays_of xs) one.in_order)) (ordered-of PlayComesBefore play_of ys (ordered PlayComesBefore (plays_of ys) other.in_order))
    (listed-too p roll xs ys one other) (listed-too p roll ys xs other one)

-- a word chooses one play
pub one-chosen : (p : Placement) (roll : Dice) (chooser : ℕ) (a b : Entry) → IsChosen p roll chooser a → IsChosen p roll chooser b → a ≡ b
one-chosen p roll chooser a b one other =
    let lists = one-list p roll one.0 other.0 one.1 other.1 in
    let there = subst (λ (entries : List Entry). slice_get entries (chooser % length entries) ≡ Some a) lists one.2 in
    ap (λ o. unwrap_or o a) (sym there ∙ other.2)
