-- Sums over the opening rolls of what the best plays are worth.
use Rattle.std.proofs.Common.{◌≡◌, ◌<◌, ◌≤◌, ◌+◌, ◌++◌, ◌*◌, ◌^◌, ◌∙◌, ℕ, zero, suc, ℤ, pos, ◌+ℤ◌, ◌*ℤ◌, ◌≤ℤ◌, ◌↔◌, List, [], ◌∷◌, All, Contains, length, map, take, get_or, inl, inr, ap, add-one, refl, sym, subst, arith}
use Rattle.std.specs.Int.{int_max}
use Rattle.std.proofs.lemmas.Int.{ints, clamps}
use Rattle.std.proofs.lemmas.List.{take_more, get_or-map, length-map}
use Rattle.position_rank.specs.Placement.{Placement, IsPosition, IsLive, swap}
use Rattle.position_rank.specs.Packed.{start_placement}
use Rattle.position_rank.proofs.StartLive.{start-live, start-sum, start-position}
use Rattle.roll_table.specs.Rolls.{Dice, IsRoll, all_rolls, opening_rolls}
use Rattle.move_rules.specs.Ends.{legal_ends}
use Rattle.move_rules.specs.Listing.{Among}
use Rattle.move_rules.specs.Order.{ends_of}
use Rattle.move_rules.specs.Sequences.{IsLegalEnd}
use Rattle.move_rules.specs.declared.play.Entry.{Entry}
use Rattle.move_rules.proofs.Members.{Contains-Among, Among-Contains, map-cases, filter-cases}
use Rattle.move_rules.proofs.EndsExact.{legal_ends-sound, legal_ends-complete}
use Rattle.move_rules.proofs.StayLive.{legal_end-stays}
use Rattle.directed_fixed.specs.Bounds.{IsWithinUnits}
use Rattle.turn_rule.specs.Turn.{greatest, sum_over}
use Rattle.turn_rule.specs.States.{IsStateOf}
use Rattle.turn_rule.proofs.Integers.{le_refl, mul_mono, add_mono, distribute}
use Rattle.turn_rule.proofs.Greatest.{AreRolls, all_rolls-right, greatest-mono, greatest-append, greatest-same}
use Rattle.turn_rule.proofs.Scaled.{greatest-scaled, times-scaled}
use Rattle.match_scores.specs.Openings.{openings}

-- ---- what an opening play leaves

-- no opening play ends a game
abbrev pub GoOn : Type 0
GoOn =
    (checkers : ℕ) (roll : Dice) (q : Placement) → 1 ≤ checkers → checkers ≤ 3 → Contains opening_rolls roll
    → IsLegalEnd (start_placement checkers) roll q → IsPosition q × IsLive (swap q)

right_among : (rolls : List (Dice × ℕ)) → AreRolls rolls → (roll : Dice × ℕ) → Among roll rolls → IsRoll roll.0
right_among [] right roll m = absurd m
right_among (r ∷ rolls) right roll (inl e) = subst (λ (x : Dice × ℕ). IsRoll x.0) (sym e) right.0
right_among (r ∷ rolls) right roll (inr m) = right_among rolls right.1 roll m

opening-right : (roll : Dice) → Contains opening_rolls roll → IsRoll roll
unfolding opening_rolls
opening-right roll is =
    let kept = filter-cases _ roll _ (Contains-Among roll opening_rolls is) in
    let from = map-cases (λ (weighted : Dice × ℕ). weighted.0) roll all_rolls kept.0 in
    subst IsRoll (sym from.2) (right_among all_rolls all_rolls-right from.0 from.1)

-- what an opening play leaves is a state for the other side, in every kind
pub opening-state : GoOn → (checkers kinds : ℕ) → 1 ≤ checkers → checkers ≤ 3 → (roll : Dice) → Contains opening_rolls roll → (q : Placement) → IsLegalEnd (start_placement checkers) roll q → (k : ℕ) → k < kinds → IsStateOf checkers kinds (swap q) k
opening-state goes checkers kinds low high roll is q legal k inside =
    let on = goes checkers roll q low high is legal in
    let stays = legal_end-stays (start_placement checkers) roll q (opening-right roll is) (start-position checkers low high) (start-live checkers low high) legal in
    record {
      position = record { mover = on.0.other; other = on.0.mover; same = sym on.0.same };
      many = omega (arith, on.0.same, stays.1, start-sum checkers high);
      live = on.1;
      kind = inside;
    }

-- each roll of the openings is an opening roll
pub opening-among : (roll : Dice × ℕ) → Among roll openings → Contains opening_rolls roll.0
opening-among roll m =
    let from = map-cases (λ (roll : Dice). (roll, 1)) roll opening_rolls m in
    subst (λ (r : Dice × ℕ). Contains opening_rolls r.0) (sym from.2) (Among-Contains from.0 opening_rolls from.1)

-- what holds of each state that an opening play leaves holds of the end of each play of each opening
pub each-end : GoOn → (checkers kinds : ℕ) → 1 ≤ checkers → checkers ≤ 3 → (k : ℕ) → k < kinds → (P : Placement → Type 0) → ((q : Placement) → IsStateOf checkers kinds (swap q) k → P q)
    → (roll : Dice × ℕ) (q : Placement) → Among roll openings → Among q (legal_ends (start_placement checkers) roll.0) → P q
each-end goes checkers kinds low high k inside P holds roll q m n =
    holds q (opening-state goes checkers kinds low high roll.0 (opening-among roll m) q (legal_ends-sound (start_placement checkers) roll.0 q (Among-Contains q _ n)) k inside)

-- ---- comparing the sums

plus-scaled : (c d : ℕ) (a b x y : ℤ) → (pos c *ℤ a) ≤ℤ (pos d *ℤ x) → (pos c *ℤ b) ≤ℤ (pos d *ℤ y) → (pos c *ℤ (a +ℤ b)) ≤ℤ (pos d *ℤ (x +ℤ y))
plus-scaled c d a b x y h k = rw (distribute c a b, distribute d x y) (add_mono _ _ _ _ h k)

pub rolls-scaled : (c d : ℕ) (f g : Placement → ℤ) (p : Placement) (rolls : List (Dice × ℕ)) → ((roll : Dice × ℕ) (q : Placement) → Among roll rolls → Among q (legal_ends p roll.0) → (pos c *ℤ f q) ≤ℤ (pos d *ℤ g q)) → (pos c *ℤ sum_over rolls f p) ≤ℤ (pos d *ℤ sum_over rolls g p)
rolls-scaled c d f g p [] h = omega (arith, ints)
rolls-scaled c d f g p (roll ∷ rolls) h =
    plus-scaled c d _ _ _ _ (times-scaled roll.1 c d _ _ (greatest-scaled c d f g (legal_ends p roll.0) (λ q n. h roll q (inl refl) n))) (rolls-scaled c d f g p rolls (λ r q m n. h r q (inr m) n))

pub rolls-mono : (f g : Placement → ℤ) (p : Placement) (rolls : List (Dice × ℕ)) → ((roll : Dice × ℕ) (q : Placement) → Among roll rolls → Among q (legal_ends p roll.0) → f q ≤ℤ g q) → sum_over rolls f p ≤ℤ sum_over rolls g p
rolls-mono f g p [] h = le_refl (pos 0)
rolls-mono f g p (roll ∷ rolls) h =
    add_mono _ _ _ _ (mul_mono roll.1 _ _ (greatest-mono f g (legal_ends p roll.0) (λ q n. h roll q (inl refl) n))) (rolls-mono f g p rolls (λ r q m n. h r q (inr m) n))

-- ---- adding them up

-- one play more
pub greatest-next : (f : Placement → ℤ) (qs : List Placement) (i : ℕ) (r : Placement) → 0 < i → i < length qs → r ≡ get_or qs i r → greatest f (take (i + 1) qs) ≡ int_max (greatest f (take i qs)) (f r)
greatest-next f qs zero r low high e = absurd (omega arith)
greatest-next f [] (suc i) r low high e = absurd (omega arith)
greatest-next f (first ∷ rest) (suc i) r low high e =
    ap (greatest f) (take_more (first ∷ rest) (suc i) r high ∙ ap (λ (x : Placement). take (suc i) (first ∷ rest) ++ x ∷ []) (sym e)) ∙ greatest-append f first r (take i rest)

once-more : (a : ℤ) → pos 1 *ℤ a +ℤ pos 0 ≡ pos 0 +ℤ a
once-more a = omega (arith, ints)

regroup : (a b c d : ℤ) → d ≡ b +ℤ c → a +ℤ d ≡ (a +ℤ b) +ℤ c
regroup a b c d h = omega (arith, ints)

-- one roll more, each of which comes once
pub sum-next : (f : Placement → ℤ) (p : Placement) (rolls : List Dice) (i : ℕ) (roll : Dice) → i < length rolls → roll ≡ get_or rolls i roll
    → sum_over (take (suc i) (map (λ (roll : Dice). (roll, 1)) rolls)) f p ≡ sum_over (take i (map (λ (roll : Dice). (roll, 1)) rolls)) f p +ℤ greatest f (legal_ends p roll)
sum-next f p [] i roll h e = absurd (omega arith)
sum-next f p (first ∷ rest) zero roll h e = ap (λ (r : Dice). pos 1 *ℤ greatest f (legal_ends p r) +ℤ pos 0) (sym e) ∙ once-more (greatest f (legal_ends p roll))
sum-next f p (first ∷ rest) (suc i) roll h e = regroup _ _ _ _ (sum-next f p rest i roll (omega arith) e)

-- the listed plays have the greatest worth of the legal ends
pub listed-best : (f : Placement → ℤ) (p : Placement) (roll : Dice) (ends : List Placement) → ((q : Placement) → Contains ends q → IsLegalEnd p roll q) → ((q : Placement) → IsLegalEnd p roll q → Contains ends q) → greatest f ends ≡ greatest f (legal_ends p roll)
listed-best f p roll ends sound complete =
    greatest-same f ends (legal_ends p roll)
    (λ q m. Contains-Among q _ (legal_ends-complete p roll q (sound q (Among-Contains q _ m))))
    (λ q m. Contains-Among q _ (complete q (legal_ends-sound p roll q (Among-Contains q _ m))))

pub all-members : {X : Type 0} (P : X → Type 0) (xs : List X) → ((x : X) → Among x xs → P x) → All P xs
all-members P [] h i d below = absurd (omega arith)
all-members P (x ∷ xs) h zero d below = h x (inl refl)
all-members P (x ∷ xs) h (suc i) d below = all-members P xs (λ y m. h y (inr m)) i d (omega arith)

-- what holds of each state that an opening play leaves holds of the ends of the listed plays
pub listed-states : GoOn → (checkers kinds : ℕ) → 1 ≤ checkers → checkers ≤ 3 → (k : ℕ) → k < kinds → (roll : Dice) → Contains opening_rolls roll → (ends : List Placement) → ((q : Placement) → Contains ends q → IsLegalEnd (start_placement checkers) roll q)
    → All (λ (q : Placement). IsStateOf checkers kinds (swap q) k) ends
listed-states goes checkers kinds low high k inside roll is ends sound =
    all-members (λ (q : Placement). IsStateOf checkers kinds (swap q) k) ends
    (λ q m. opening-state goes checkers kinds low high roll is q (sound q (Among-Contains q ends m)) k inside)

length-opening_rolls : length opening_rolls ≡ 15
unfolding opening_rolls all_rolls
length-opening_rolls = refl

-- a roll of the list is an opening roll
pub roll-at : (rolls : List Dice) (i : ℕ) (roll : Dice) → rolls ≡ opening_rolls → i < 15 → roll ≡ get_or rolls i roll → (i < length opening_rolls) × (roll ≡ get_or opening_rolls i roll) × Contains opening_rolls roll
roll-at rolls i roll same here e =
    let at : roll ≡ get_or opening_rolls i roll = subst (λ (xs : List Dice). roll ≡ get_or xs i roll) same e in
    let inside : i < length opening_rolls = omega (arith, length-opening_rolls) in
    (inside, at, (i, inside, sym at))

pub within-next : (i : ℕ) (bound x y z : ℤ) → bound ≡ pos (1 * 2 ^ 32) → IsWithinUnits (pos (i * 2 ^ 32)) x → IsWithinUnits bound y → z ≡ x +ℤ y → IsWithinUnits (pos ((i + 1) * 2 ^ 32)) z
within-next i bound x y z is h k added = record { from = omega (arith, ints, h.from, k.from); to = omega (arith, ints, h.to, k.to) }

pub max-within : (bound a b : ℤ) → IsWithinUnits bound a → IsWithinUnits bound b → IsWithinUnits bound (int_max a b)
max-within bound a b h k = record { from = omega (arith, ints, clamps, h.from, k.from); to = omega (arith, ints, clamps, h.to, k.to) }

-- what holds of all ends of listed plays holds of the end of each
pub listed-state : (entries : List Entry) (i : ℕ) (d : Entry) (P : Placement → Type 0) → i < length entries → All P (ends_of entries) → P (get_or entries i d).end
listed-state entries i d P here all =
    subst P (get_or-map (λ (entry : Entry). entry.end) entries i d d.end here) (all i d.end (rw length-map (here)))

-- the best of one play more
pub best-next : (f : Placement → ℤ) (entries : List Entry) (i : ℕ) (d : Entry) (best worth more : ℤ) → 0 < i → i < length entries → more ≡ int_max best worth → best ≡ greatest f (take i (ends_of entries)) → worth ≡ f (get_or entries i d).end → more ≡ greatest f (take (i + 1) (ends_of entries))
best-next f entries i d best worth more low here is so_far one =
    let q = (get_or entries i d).end in
    is ∙ (ap (λ (x : ℤ). int_max x worth) so_far ∙ (ap (λ (x : ℤ). int_max (greatest f (take i (ends_of entries))) x) one
    ∙ sym (greatest-next f (ends_of entries) i q low (rw length-map here) (sym (get_or-map (λ (entry : Entry). entry.end) entries i d q here)))))

-- the sum with one roll more
pub roll-next : (f : Placement → ℤ) (p : Placement) (i : ℕ) (roll : Dice) (ends : List Placement) (sum best more : ℤ) → i < length opening_rolls → roll ≡ get_or opening_rolls i roll → ((q : Placement) → Contains ends q ↔ IsLegalEnd p roll q) → more ≡ sum +ℤ best → sum ≡ sum_over (take i openings) f p → best ≡ greatest f ends → more ≡ sum_over (take (i + 1) openings) f p
roll-next f p i roll ends sum best more here at legal is so_far one =
    let of_roll = one ∙ listed-best f p roll ends (λ q. (legal q).0) (λ q. (legal q).1) in
    is ∙ (ap (λ (x : ℤ). x +ℤ best) so_far ∙ (ap (λ (x : ℤ). sum_over (take i openings) f p +ℤ x) of_roll
    ∙ (sym (sum-next f p opening_rolls i roll here at) ∙ ap (λ (n : ℕ). sum_over (take n openings) f p) (sym (add-one i)))))
