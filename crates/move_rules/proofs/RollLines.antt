-- The lines that are listed for a roll are the legal sequences in their order.
use Rattle.std.proofs.Common.{◌≡◌, ◌≤◌, ◌<◌, ℕ, zero, suc, true, false, eqb, List, [], ◌∷◌, ◌++◌, length, replicate, ◌⊎◌, inl, inr, refl, ap, subst, sym, ◌∙◌, arith}
use Rattle.std.proofs.lemmas.Bool.Decides.{nat_tests}
use Rattle.position_rank.specs.Placement.{Placement}
use Rattle.roll_table.specs.Rolls.{Dice, dice_of}
use Rattle.move_rules.specs.Moves.{IsMove}
use Rattle.move_rules.specs.Sequences.{IsSequence, CanPlay, IsLegal}
use Rattle.move_rules.specs.Ends.{Line}
use Rattle.move_rules.specs.Listing.{full, or_else, double_lines, pair_lines, Among}
use Rattle.move_rules.specs.Order.{PlayComesBefore}
use Rattle.move_rules.specs.declared.play.Move.{Move}
use Rattle.move_rules.proofs.Members.{Among-left, Among-right, Among-cases}
use Rattle.move_rules.proofs.EndsExact.{same_dice}
use Rattle.move_rules.proofs.EarlierAndLater.{Pairs, Pairs-append}
use Rattle.move_rules.proofs.FullLines.{IsPlayed, dice_used, IsDraw, Before, sequence-played, played-sequence, full-sound, full-complete, full-ordered}

pub record IsListing (p : Placement) (roll : Dice) (lines : List Line) : Type 0 where
  pub sound : (line : Line) → Among line lines → IsLegal p roll line.0 line.1
  pub complete : (moves : List Move) (q : Placement) → IsLegal p roll moves q → Among (moves, q) lines
  pub ordered : Pairs Before lines

-- ---- sequences as lines

length-used : (moves : List Move) → length (dice_used moves) ≡ length moves
length-used [] = refl
length-used (move ∷ moves) = omega (arith, length-used moves)

from_draw : (p : Placement) (dice drawn : List ℕ) (line : Line) → IsDraw dice drawn → Among line (full drawn [] p) → IsSequence p dice line.0 line.1 × (dice_used line.0 ≡ drawn)
from_draw p dice drawn line draw h =
    let g = full-sound drawn [] p line h in
    let s : IsSequence p dice g.rest line.1 = played-sequence p dice g.rest line.1 g.played (subst (λ (x : List ℕ). IsDraw dice x) (sym g.used) draw) in
    (subst (λ (x : List Move). IsSequence p dice x line.1) (sym g.is) s, ap (λ (x : List Move). dice_used x) g.is ∙ g.used)

-- with the dice that were drawn
to_draw : (p : Placement) (moves : List Move) (q : Placement) (drawn : List ℕ) → IsPlayed p moves q → dice_used moves ≡ drawn → Among (moves, q) (full drawn [] p)
to_draw p moves q drawn played e = subst (λ (x : List ℕ). Among (moves, q) (full x [] p)) e (full-complete moves [] p q played)

-- ---- a double

same-draw : (k n d : ℕ) → k ≤ n → IsDraw (replicate n d) (replicate k d)
same-draw zero n d h = tt
same-draw (suc k) zero d h = absurd (omega arith)
same-draw (suc k) (suc n) d h = (0, refl, same-draw k n d (omega arith))

draw-same : (n d : ℕ) (drawn : List ℕ) → IsDraw (replicate n d) drawn → (length drawn ≤ n) × (drawn ≡ replicate (length drawn) d)
draw-same n d [] draw = (omega arith, refl)
draw-same n d (x ∷ drawn) (i, e, draw) =
    let r = same_dice n d i x e in
    let s = draw-same r.0 d drawn (subst (λ (xs : List ℕ). IsDraw xs drawn) r.3 draw) in
    (omega (arith, s.0, r.1), ap (λ (y : ℕ). y ∷ drawn) r.2 ∙ ap (λ (xs : List ℕ). d ∷ xs) s.1)

length-replicate : (n d : ℕ) → length (replicate n d) ≡ n
length-replicate zero d = refl
length-replicate (suc n) d = omega (arith, length-replicate n d)

four : (roll : Dice) → roll.high ≡ roll.low → dice_of roll ≡ replicate 4 roll.high
four roll e = let test : eqb roll.high roll.low ≡ true = grind (arith, nat_tests) in rw test refl

from_double : (p : Placement) (roll : Dice) (k : ℕ) (line : Line) → roll.high ≡ roll.low → k ≤ 4 → Among line (full (replicate k roll.high) [] p) → IsSequence p (dice_of roll) line.0 line.1 × (length line.0 ≡ k)
from_double p roll k line same h i =
    let draw : IsDraw (dice_of roll) (replicate k roll.high) = subst (λ (x : List ℕ). IsDraw x (replicate k roll.high)) (sym (four roll same)) (same-draw k 4 roll.high h) in
    let s = from_draw p (dice_of roll) (replicate k roll.high) line draw i in
    (s.0, omega (arith, length-used line.0, ap (λ (x : List ℕ). length x) s.1, length-replicate k roll.high))

to_double : (p : Placement) (roll : Dice) (moves : List Move) (q : Placement) → roll.high ≡ roll.low → IsSequence p (dice_of roll) moves q → (length moves ≤ 4) × Among (moves, q) (full (replicate (length moves) roll.high) [] p)
to_double p roll moves q same h =
    let s = sequence-played p (dice_of roll) moves q h in
    let d = draw-same 4 roll.high (dice_used moves) (subst (λ (x : List ℕ). IsDraw x (dice_used moves)) (four roll same) s.1) in
    (omega (arith, d.0, length-used moves), to_draw p moves q (replicate (length moves) roll.high) s.0 (d.1 ∙ ap (λ (n : ℕ). replicate n roll.high) (length-used moves)))

-- where no more than so many of the four moves can be made, and so many can
double_level : (p : Placement) (roll : Dice) (k : ℕ) → roll.high ≡ roll.low → k ≤ 4 → ((moves : List Move) (q : Placement) → IsSequence p (dice_of roll) moves q → length moves ≤ k)
    → (some : Line) → Among some (full (replicate k roll.high) [] p) → IsListing p roll (full (replicate k roll.high) [] p)
double_level p roll k same h bound some there = record {
  sound = λ line i. (let s = from_double p roll k line same h i in record {
    sequence = s.0;
    longest = λ others end o. omega (arith, bound others end o, s.1);
    higher = λ one apart can. absurd (apart same);
  });
  complete = λ moves q legal. (
      let s = from_double p roll k some same h there in
      let t = to_double p roll moves q same legal.sequence in
      let count : length moves ≡ k = omega (arith, legal.longest some.0 some.1 s.0, s.1, bound moves q legal.sequence) in
      subst (λ (n : ℕ). Among (moves, q) (full (replicate n roll.high) [] p)) count t.1);
  ordered = full-ordered (replicate k roll.high) [] p;
}

abbrev tries : Placement → ℕ → ℕ → List Line
tries p d zero = full [] [] p
tries p d (suc k) = or_else (full (replicate (suc k) d) [] p) (tries p d k)

-- no sequence is longer
abbrev AtMost : Placement → Dice → ℕ → Type 0
AtMost p roll k = (moves : List Move) (q : Placement) → IsSequence p (dice_of roll) moves q → length moves ≤ k

fewer : (p : Placement) (roll : Dice) (k : ℕ) → roll.high ≡ roll.low → full (replicate (suc k) roll.high) [] p ≡ [] → AtMost p roll (suc k) → AtMost p roll k
fewer p roll k same none bound moves q o = below (to_double p roll moves q same o).1 (bound moves q o) where
  below : Among (moves, q) (full (replicate (length moves) roll.high) [] p) → length moves ≤ suc k → length moves ≤ k
  below there most = omega (arith, most, λ (n : length moves ≡ suc k). subst (λ (x : List Line). Among (moves, q) x) none (subst (λ (m : ℕ). Among (moves, q) (full (replicate m roll.high) [] p)) n there))

double_try : (p : Placement) (roll : Dice) (k : ℕ) → roll.high ≡ roll.low → suc k ≤ 4 → AtMost p roll (suc k) → (AtMost p roll k → IsListing p roll (tries p roll.high k))
    → (lines : List Line) → full (replicate (suc k) roll.high) [] p ≡ lines → IsListing p roll (or_else (full (replicate (suc k) roll.high) [] p) (tries p roll.high k))
double_try p roll k same h bound rest [] e = subst (λ (x : List Line). IsListing p roll (or_else x (tries p roll.high k))) (sym e) (rest (fewer p roll k same e bound))
double_try p roll k same h bound rest (line ∷ lines) e =
    let all = double_level p roll (suc k) same h bound line (subst (λ (x : List Line). Among line x) (sym e) (inl refl)) in
    subst (λ (x : List Line). IsListing p roll (or_else x (tries p roll.high k))) (sym e) (subst (λ (x : List Line). IsListing p roll x) e all)

double_from : (p : Placement) (roll : Dice) (k : ℕ) → roll.high ≡ roll.low → k ≤ 4 → AtMost p roll k → IsListing p roll (tries p roll.high k)
unfolding full
double_from p roll zero same h bound = double_level p roll 0 same h bound ([], p) (inl refl)
double_from p roll (suc k) same h bound = double_try p roll k same h bound (λ less. double_from p roll k same (omega arith) less) (full (replicate (suc k) roll.high) [] p) refl

pub double-listing : (p : Placement) (roll : Dice) → roll.high ≡ roll.low → IsListing p roll (double_lines p roll.high)
unfolding double_lines
double-listing p roll same = double_from p roll 4 same (omega arith) (λ moves q o. (to_double p roll moves q same o).0)

-- ---- two dice

two : (roll : Dice) → roll.low < roll.high → dice_of roll ≡ roll.high ∷ roll.low ∷ []
two roll h = let test : eqb roll.high roll.low ≡ false = grind (arith, nat_tests) in rw test refl

-- what can be drawn of two dice
abbrev Drawn : ℕ → ℕ → List ℕ → Type 0
Drawn a b drawn = (drawn ≡ a ∷ b ∷ []) ⊎ (drawn ≡ b ∷ a ∷ []) ⊎ (drawn ≡ a ∷ []) ⊎ (drawn ≡ b ∷ []) ⊎ (drawn ≡ [])

draw-one : (a : ℕ) (drawn : List ℕ) → IsDraw (a ∷ []) drawn → (drawn ≡ []) ⊎ (drawn ≡ a ∷ [])
draw-one a [] draw = inl refl
draw-one a (x ∷ []) (zero, e, draw) = inr (let same : x ≡ a = cc in ap (λ (y : ℕ). y ∷ []) same)
draw-one a (x ∷ []) (suc i, e, draw) = absurd (grind arith)
draw-one a (x ∷ y ∷ drawn) (zero, e, (i, f, draw)) = absurd (grind arith)
draw-one a (x ∷ y ∷ drawn) (suc i, e, (j, f, draw)) = absurd (grind arith)

draw-two : (a b : ℕ) (drawn : List ℕ) → IsDraw (a ∷ b ∷ []) drawn → Drawn a b drawn
draw-two a b [] draw = inr (inr (inr (inr refl)))
draw-two a b (x ∷ drawn) (zero, e, draw) =
    let same : x ≡ a = cc in
    elim (draw-one b drawn draw) [
      | inl none ↦ inr (inr (inl (ap (λ (y : ℕ). y ∷ drawn) same ∙ ap (λ (ys : List ℕ). a ∷ ys) none)))
      | inr one ↦ inl (ap (λ (y : ℕ). y ∷ drawn) same ∙ ap (λ (ys : List ℕ). a ∷ ys) one)
    ]
draw-two a b (x ∷ drawn) (suc zero, e, draw) =
    let same : x ≡ b = cc in
    elim (draw-one a drawn draw) [
      | inl none ↦ inr (inr (inr (inl (ap (λ (y : ℕ). y ∷ drawn) same ∙ ap (λ (ys : List ℕ). b ∷ ys) none))))
      | inr one ↦ inr (inl (ap (λ (y : ℕ). y ∷ drawn) same ∙ ap (λ (ys : List ℕ). b ∷ ys) one))
    ]
draw-two a b (x ∷ drawn) (suc (suc i), e, draw) = absurd (grind arith)

-- a sequence of two dice, as a line of the dice that it uses
abbrev IsOneOf : Placement → Dice → List Move → Placement → Type 0
IsOneOf p roll moves q =
    ((length moves ≡ 2) × Among (moves, q) (full (roll.high ∷ roll.low ∷ []) [] p))
    ⊎ ((length moves ≡ 2) × Among (moves, q) (full (roll.low ∷ roll.high ∷ []) [] p))
    ⊎ ((dice_used moves ≡ roll.high ∷ []) × Among (moves, q) (full (roll.high ∷ []) [] p))
    ⊎ ((dice_used moves ≡ roll.low ∷ []) × Among (moves, q) (full (roll.low ∷ []) [] p))
    ⊎ ((length moves ≡ 0) × Among (moves, q) (full [] [] p))

used-length : (moves : List Move) (drawn : List ℕ) → dice_used moves ≡ drawn → length moves ≡ length drawn
used-length moves drawn e = sym (length-used moves) ∙ ap (λ (x : List ℕ). length x) e

to_pair : (p : Placement) (roll : Dice) (moves : List Move) (q : Placement) → roll.low < roll.high → IsSequence p (dice_of roll) moves q → IsOneOf p roll moves q
to_pair p roll moves q less h =
    let s = sequence-played p (dice_of roll) moves q h in
    elim (draw-two roll.high roll.low (dice_used moves) (subst (λ (x : List ℕ). IsDraw x (dice_used moves)) (two roll less) s.1)) [
      | inl e ↦ inl (used-length moves _ e, to_draw p moves q _ s.0 e)
      | inr (inl e) ↦ inr (inl (used-length moves _ e, to_draw p moves q _ s.0 e))
      | inr (inr (inl e)) ↦ inr (inr (inl (e, to_draw p moves q _ s.0 e)))
      | inr (inr (inr (inl e))) ↦ inr (inr (inr (inl (e, to_draw p moves q _ s.0 e))))
      | inr (inr (inr (inr e))) ↦ inr (inr (inr (inr (used-length moves _ e, to_draw p moves q _ s.0 e))))
    ]

-- a line of dice that are drawn of the two
from_pair : (p : Placement) (roll : Dice) (drawn : List ℕ) (line : Line) → roll.low < roll.high → IsDraw (roll.high ∷ roll.low ∷ []) drawn → Among line (full drawn [] p)
    → IsSequence p (dice_of roll) line.0 line.1 × (dice_used line.0 ≡ drawn)
from_pair p roll drawn line less draw h = from_draw p (dice_of roll) drawn line (subst (λ (x : List ℕ). IsDraw x drawn) (sym (two roll less)) draw) h

at_most_two : (p : Placement) (roll : Dice) (moves : List Move) (q : Placement) → IsOneOf p roll moves q → length moves ≤ 2
at_most_two p roll moves q (inl h) = omega (arith, h.0)
at_most_two p roll moves q (inr (inl h)) = omega (arith, h.0)
at_most_two p roll moves q (inr (inr (inl h))) = omega (arith, used-length moves _ h.0)
at_most_two p roll moves q (inr (inr (inr (inl h)))) = omega (arith, used-length moves _ h.0)
at_most_two p roll moves q (inr (inr (inr (inr h)))) = omega (arith, h.0)

-- the moves whose first die is the higher come before
higher-first : (one other : List Move) (a b : ℕ) (later rest : List ℕ) → dice_used one ≡ a ∷ later → dice_used other ≡ b ∷ rest → b < a → PlayComesBefore one other
higher-first [] other a b later rest e f h = absurd (grind arith)
higher-first (m ∷ one) [] a b later rest e f h = absurd (grind arith)
higher-first (m ∷ one) (n ∷ other) a b later rest e f h =
    let x : m.die ≡ a = cc in
    let y : n.die ≡ b = cc in
    inl (omega (arith, x, y, h))

abbrev both_dice : Placement → Dice → List Line
both_dice p roll = full (roll.high ∷ roll.low ∷ []) [] p ++ full (roll.low ∷ roll.high ∷ []) [] p

both-sequence : (p : Placement) (roll : Dice) (line : Line) → roll.low < roll.high → Among line (both_dice p roll) → IsSequence p (dice_of roll) line.0 line.1 × (length line.0 ≡ 2)
both-sequence p roll line less h = elim (Among-cases line (full (roll.high ∷ roll.low ∷ []) [] p) (full (roll.low ∷ roll.high ∷ []) [] p) h) [
  | inl i ↦ (let s = from_pair p roll _ line less (0, refl, (0, refl, tt)) i in (s.0, used-length line.0 _ s.1))
  | inr i ↦ (let s = from_pair p roll _ line less (1, refl, (0, refl, tt)) i in (s.0, used-length line.0 _ s.1))
]

both-listing : (p : Placement) (roll : Dice) (some : Line) → roll.low < roll.high → Among some (both_dice p roll) → IsListing p roll (both_dice p roll)
both-listing p roll some less there = record {
  sound = λ line h. (let s = both-sequence p roll line less h in record {
    sequence = s.0;
    longest = λ others end o. omega (arith, s.1, at_most_two p roll others end (to_pair p roll others end less o));
    higher = λ one apart can. absurd (omega (arith, s.1, one));
  });
  complete = λ moves q legal. (
      let s = both-sequence p roll some less there in
      let most : 2 ≤ length moves = omega (arith, s.1, legal.longest some.0 some.1 s.0) in
      elim (to_pair p roll moves q less legal.sequence) [
        | inl h ↦ Among-left (moves, q) (full (roll.high ∷ roll.low ∷ []) [] p) (full (roll.low ∷ roll.high ∷ []) [] p) h.1
        | inr (inl h) ↦ Among-right (moves, q) (full (roll.high ∷ roll.low ∷ []) [] p) (full (roll.low ∷ roll.high ∷ []) [] p) h.1
        | inr (inr (inl h)) ↦ absurd (omega (arith, most, used-length moves _ h.0))
        | inr (inr (inr (inl h))) ↦ absurd (omega (arith, most, used-length moves _ h.0))
        | inr (inr (inr (inr h))) ↦ absurd (omega (arith, most, h.0))
      ]);
  ordered = Pairs-append Before (full (roll.high ∷ roll.low ∷ []) [] p) (full (roll.low ∷ roll.high ∷ []) [] p) (full-ordered (roll.high ∷ roll.low ∷ []) [] p) (full-ordered (roll.low ∷ roll.high ∷ []) [] p)
      (λ x y i j.
      let a = from_pair p roll _ x less (0, refl, (0, refl, tt)) i in
      let b = from_pair p roll _ y less (1, refl, (0, refl, tt)) j in
      higher-first x.0 y.0 roll.high roll.low (roll.low ∷ []) (roll.high ∷ []) a.1 b.1 less);
}

none-of : (line : Line) (lines : List Line) → lines ≡ [] → Among line lines → ⊥
none-of line lines e h = subst (λ (x : List Line). Among line x) e h

none-both : (p : Placement) (roll : Dice) (line : Line) → both_dice p roll ≡ [] → Among line (full (roll.high ∷ roll.low ∷ []) [] p) ⊎ Among line (full (roll.low ∷ roll.high ∷ []) [] p) → ⊥
none-both p roll line e (inl h) = none-of line (both_dice p roll) e (Among-left line (full (roll.high ∷ roll.low ∷ []) [] p) (full (roll.low ∷ roll.high ∷ []) [] p) h)
none-both p roll line e (inr h) = none-of line (both_dice p roll) e (Among-right line (full (roll.high ∷ roll.low ∷ []) [] p) (full (roll.low ∷ roll.high ∷ []) [] p) h)

can-from : (p q : Placement) (moves : List Move) (die : ℕ) → dice_used moves ≡ die ∷ [] → IsPlayed p moves q → CanPlay p die
can-from p q [] die e played = absurd (grind arith)
can-from p q (move ∷ moves) die e (next, made, rest) = let same : move.die ≡ die = cc in (move.from, next, subst (λ (d : ℕ). IsMove p d move.from next) same made)

can-line : (p : Placement) (die : ℕ) (line : Line) → Among line (full (die ∷ []) [] p) → CanPlay p die
can-line p die line h = let g = full-sound (die ∷ []) [] p line h in can-from p line.1 g.rest die g.used g.played

line-can : (p : Placement) (die : ℕ) → CanPlay p die → (line : Line) × Among line (full (die ∷ []) [] p)
line-can p die (from, q, made) =
    let move : Move = record { from = from; die = die } in
    ((move ∷ [], q), full-complete (move ∷ []) [] p q (q, made, refl))

higher-listing : (p : Placement) (roll : Dice) (some : Line) → roll.low < roll.high → both_dice p roll ≡ [] → Among some (full (roll.high ∷ []) [] p) → IsListing p roll (full (roll.high ∷ []) [] p)
higher-listing p roll some less none there = record {
  sound = λ line h. (let s = from_pair p roll (roll.high ∷ []) line less (0, refl, tt) h in let one : length line.0 ≡ 1 = used-length line.0 _ s.1 in record {
    sequence = s.0;
    longest = λ others end o. elim (to_pair p roll others end less o) [
      | inl h ↦ absurd (none-both p roll (others, end) none (inl h.1))
      | inr (inl h) ↦ absurd (none-both p roll (others, end) none (inr h.1))
      | inr (inr (inl h)) ↦ omega (arith, one, used-length others _ h.0)
      | inr (inr (inr (inl h))) ↦ omega (arith, one, used-length others _ h.0)
      | inr (inr (inr (inr h))) ↦ omega (arith, one, h.0)
    ];
    higher = λ one apart can. s.1;
  });
  complete = λ moves q legal. (
      let s = from_pair p roll (roll.high ∷ []) some less (0, refl, tt) there in
      let most : 1 ≤ length moves = omega (arith, used-length some.0 _ s.1, legal.longest some.0 some.1 s.0) in
      elim (to_pair p roll moves q less legal.sequence) [
        | inl h ↦ absurd (none-both p roll (moves, q) none (inl h.1))
        | inr (inl h) ↦ absurd (none-both p roll (moves, q) none (inr h.1))
        | inr (inr (inl h)) ↦ h.1
        | inr (inr (inr (inl h))) ↦ (
            let e = legal.higher (used-length moves _ h.0) (λ same. omega (arith, same, less)) (can-line p roll.high some there) in
            let same : roll.low ≡ roll.high = cc (h.0, e) in
            absurd (omega (arith, same, less)))
        | inr (inr (inr (inr h))) ↦ absurd (omega (arith, most, h.0))
      ]);
  ordered = full-ordered (roll.high ∷ []) [] p;
}

lower-listing : (p : Placement) (roll : Dice) (some : Line) → roll.low < roll.high → both_dice p roll ≡ [] → full (roll.high ∷ []) [] p ≡ [] → Among some (full (roll.low ∷ []) [] p) → IsListing p roll (full (roll.low ∷ []) [] p)
lower-listing p roll some less none no_high there = record {
  sound = λ line h. (let s = from_pair p roll (roll.low ∷ []) line less (1, refl, tt) h in let one : length line.0 ≡ 1 = used-length line.0 _ s.1 in record {
    sequence = s.0;
    longest = λ others end o. elim (to_pair p roll others end less o) [
      | inl h ↦ absurd (none-both p roll (others, end) none (inl h.1))
      | inr (inl h) ↦ absurd (none-both p roll (others, end) none (inr h.1))
      | inr (inr (inl h)) ↦ omega (arith, one, used-length others _ h.0)
      | inr (inr (inr (inl h))) ↦ omega (arith, one, used-length others _ h.0)
      | inr (inr (inr (inr h))) ↦ omega (arith, one, h.0)
    ];
    higher = λ one apart can. (let l = line-can p roll.high can in absurd (none-of l.0 _ no_high l.1));
  });
  complete = λ moves q legal. (
      let s = from_pair p roll (roll.low ∷ []) some less (1, refl, tt) there in
      let most : 1 ≤ length moves = omega (arith, used-length some.0 _ s.1, legal.longest some.0 some.1 s.0) in
      elim (to_pair p roll moves q less legal.sequence) [
        | inl h ↦ absurd (none-both p roll (moves, q) none (inl h.1))
        | inr (inl h) ↦ absurd (none-both p roll (moves, q) none (inr h.1))
        | inr (inr (inl h)) ↦ absurd (none-of (moves, q) _ no_high h.1)
        | inr (inr (inr (inl h))) ↦ h.1
        | inr (inr (inr (inr h))) ↦ absurd (omega (arith, most, h.0))
      ]);
  ordered = full-ordered (roll.low ∷ []) [] p;
}

nothing-listing : (p : Placement) (roll : Dice) → roll.low < roll.high → both_dice p roll ≡ [] → full (roll.high ∷ []) [] p ≡ [] → full (roll.low ∷ []) [] p ≡ [] → IsListing p roll (full [] [] p)
nothing-listing p roll less none no_high no_low = record {
  sound = λ line h. (let s = from_pair p roll [] line less tt h in let zero_moves : length line.0 ≡ 0 = used-length line.0 _ s.1 in record {
    sequence = s.0;
    longest = λ others end o. elim (to_pair p roll others end less o) [
      | inl h ↦ absurd (none-both p roll (others, end) none (inl h.1))
      | inr (inl h) ↦ absurd (none-both p roll (others, end) none (inr h.1))
      | inr (inr (inl h)) ↦ absurd (none-of (others, end) _ no_high h.1)
      | inr (inr (inr (inl h))) ↦ absurd (none-of (others, end) _ no_low h.1)
      | inr (inr (inr (inr h))) ↦ omega (arith, zero_moves, h.0)
    ];
    higher = λ one apart can. absurd (omega (arith, one, zero_moves));
  });
  complete = λ moves q legal. elim (to_pair p roll moves q less legal.sequence) [
    | inl h ↦ absurd (none-both p roll (moves, q) none (inl h.1))
    | inr (inl h) ↦ absurd (none-both p roll (moves, q) none (inr h.1))
    | inr (inr (inl h)) ↦ absurd (none-of (moves, q) _ no_high h.1)
    | inr (inr (inr (inl h))) ↦ absurd (none-of (moves, q) _ no_low h.1)
    | inr (inr (inr (inr h))) ↦ h.1
  ];
  ordered = full-ordered [] [] p;
}

-- the first lines if there are any, and otherwise the others
choose : (P : List Line → Type 0) (lines others : List Line) → ((some : Line) → Among some lines → P lines) → (lines ≡ [] → P others) → P (or_else lines others)
choose P [] others some none = none refl
choose P (line ∷ lines) others some none = some line (inl refl)

pub pair-listing : (p : Placement) (roll : Dice) → roll.low < roll.high → IsListing p roll (pair_lines p roll.high roll.low)
unfolding pair_lines
pair-listing p roll less =
    choose (IsListing p roll) (both_dice p roll) _ (λ some h. both-listing p roll some less h) (λ a.
    choose (IsListing p roll) (full (roll.high ∷ []) [] p) _ (λ some h. higher-listing p roll some less a h) (λ b.
    choose (IsListing p roll) (full (roll.low ∷ []) [] p) _ (λ some h. lower-listing p roll some less a b h) (λ c. nothing-listing p roll less a b c)))
