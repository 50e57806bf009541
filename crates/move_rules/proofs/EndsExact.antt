-- The list of the legal ends has exactly the legal ends.
use Rattle.std.proofs.Common.{◌≡◌, ◌≤◌, ◌<◌, ◌-◌, ℕ, zero, suc, Bool, true, false, not, ◌&&◌, ◌||◌, slice_index, cond, eqb, List, [], ◌∷◌, ◌++◌, length, replicate, map, ◌⊎◌, Option, Some, None, inl, inr, refl, ap, subst, sym, ◌∙◌, arith}
use Rattle.std.proofs.lemmas.Bool.Decides.{nat_tests}
use Rattle.std.proofs.lemmas.Bool.{cases_lt}
use Rattle.std.specs.List.{slice_get, remove, list_any, Contains}
use Rattle.std.specs.Option.{option_to_list, is_some}
use Rattle.position_rank.specs.Placement.{Placement}
use Rattle.position_rank.specs.Placement.{above}
use Rattle.move_rules.specs.Moves.{IsMove}
use Rattle.roll_table.specs.Rolls.{Dice, dice_of}
use Rattle.move_rules.specs.Sequences.{IsSequence, CanPlay, IsLegal, IsLegalEnd}
use Rattle.move_rules.specs.declared.play.Move.{Move}
use Rattle.move_rules.specs.Ends.{can_run, can_bear_off, after_move, down_from, places, Line, before, lines_from, lines, all_lines, longest, can_play, right_die, legal_lines, legal_ends}
use Rattle.move_rules.specs.Listing.{Among}
use Rattle.move_rules.proofs.Members.{Among-left, Among-right, Among-cases, Among-map, map-cases, Among-flat_map, flat_map-cases, Among-filter, filter-cases, Contains-Among, Among-Contains}

either : (a b : Bool) → (a || b) ≡ true → (a ≡ true) ⊎ (b ≡ true)
either true b h = inl refl
either false b h = inr h

any_or : (a : Bool) → (a || true) ≡ true
any_or true = refl
any_or false = refl

both-left : (m n : ℕ) (b : Bool) → (eqb m n && b) ≡ true → m ≡ n
both-left m n b h = grind (arith, nat_tests)

both-right : (a b : Bool) → (a && b) ≡ true → b ≡ true
both-right true b h = h
both-right false b h = absurd (grind arith)

both : (m n : ℕ) (b : Bool) → m ≡ n → b ≡ true → (eqb m n && b) ≡ true
both m n b e h = rw h (grind (arith, nat_tests))

right : (one same can high : Bool) → (not one || same || not can || high) ≡ true → one ≡ true → same ≡ false → can ≡ true → high ≡ true
right one same can high h a b c = grind arith

any_or_two : (same can high : Bool) → (true || same || not can || high) ≡ true
any_or_two same can high = refl

right-from : (one same can high : Bool) → (one ≡ true → same ≡ false → can ≡ true → high ≡ true) → (not one || same || not can || high) ≡ true
right-from true false true high f = rw (f refl refl refl) refl
right-from true false false high f = refl
right-from true true can high f = refl
right-from false same can high f = any_or_two same can high

first_true : {X : Type 0} (b c : Bool) (x y q : X) → cond b (Some x) (cond c (Some y) None) ≡ Some q → ((b ≡ true) × (q ≡ x)) ⊎ ((c ≡ true) × (q ≡ y))
first_true true c x y q e = inl (refl, grind arith)
first_true false true x y q e = inr (refl, grind arith)
first_true false false x y q e = absurd (grind arith)

-- a move that can be made is the one that the list has
pub after_move-complete : (p : Placement) (die from : ℕ) (q : Placement) → IsMove p die from q → after_move p die from ≡ Some q
unfolding after_move
after_move-complete p die from q (inl runs) =
    let passes : can_run p die from ≡ true = grind (arith, nat_tests) in
    rw passes (ap Some (sym runs.after))
after_move-complete p die from q (inr off) =
    let fails : can_run p die from ≡ false = grind (arith, nat_tests) in
    let passes : can_bear_off p die from ≡ true = grind (arith, nat_tests) in
    rw (fails, passes) (ap Some (sym off.after))

run_parts : (p : Placement) (die from : ℕ) → can_run p die from ≡ true → (0 < slice_index p.mover from) × ((from ≡ 25) ⊎ (slice_index p.mover 25 ≡ 0)) × (die < from) × (slice_index p.other (25 - (from - die)) ≤ 1)
run_parts p die from h = grind (arith, nat_tests)

off_parts : (p : Placement) (die from : ℕ) → can_bear_off p die from ≡ true → (0 < slice_index p.mover from) × ((from ≡ 25) ⊎ (slice_index p.mover 25 ≡ 0)) × (from ≤ die) × (above p.mover 6 ≡ 0) × ((from ≡ die) ⊎ (above p.mover from ≡ 0))
off_parts p die from h = grind (arith, nat_tests)

pub after_move-sound : (p : Placement) (die from : ℕ) (q : Placement) → 1 ≤ from → from ≤ 25 → after_move p die from ≡ Some q → IsMove p die from q
unfolding after_move
after_move-sound p die from q low high e =
    elim (first_true (can_run p die from) (can_bear_off p die from) _ _ q e) [
      | inl run ↦ (let t = run_parts p die from run.0 in inl (record {
        leaves = record { place = low; within = high; checker = t.0; bar_first = t.1 };
        on_board = t.2;
        open_point = t.3;
        after = run.1;
      }))
      | inr off ↦ (let t = off_parts p die from off.0 in inr (record {
        leaves = record { place = low; within = high; checker = t.0; bar_first = t.1 };
        reaches = t.2;
        home = t.3;
        highest = t.4;
        after = off.1;
      }))
    ]

-- ---- sequences of moves by dice in this order

pub same_dice : (n d i x : ℕ) → slice_get (replicate n d) i ≡ Some x → (m : ℕ) × (n ≡ suc m) × (x ≡ d) × (remove (replicate n d) i ≡ replicate m d)
same_dice zero d i x e = absurd (grind arith)
same_dice (suc n) d zero x e = (n, refl, grind arith, refl)
same_dice (suc n) d (suc i) x e =
    let r = same_dice n d i x e in
    (n, refl, r.2, ap (λ (xs : List ℕ). d ∷ xs) r.3 ∙ ap (λ (k : ℕ). replicate k d) (sym r.1))

pub of_down : (n i : ℕ) → Among i (down_from n) → (1 ≤ i) × (i ≤ n)
of_down zero i h = absurd h
of_down (suc n) i (inl e) = (omega arith, omega arith)
of_down (suc n) i (inr h) = let r = of_down n i h in (r.0, omega (arith, r.1))

pub to_down : (n i : ℕ) → 1 ≤ i → i ≤ n → Among i (down_from n)
to_down zero i low high = absurd (omega arith)
to_down (suc n) i low high = elim (cases_lt i (suc n)) [ inl less ↦ inr (to_down n i low (omega (arith, less))) | inr more ↦ inl (omega (arith, more)) ]

pub of_places : (i : ℕ) → Among i places → (1 ≤ i) × (i ≤ 25)
unfolding places
of_places i h = of_down 25 i h

pub to_places : (i : ℕ) → 1 ≤ i → i ≤ 25 → Among i places
unfolding places
to_places i low high = to_down 25 i low high

pub of_option : {X : Type 0} (x : X) (o : Option X) → Among x (option_to_list o) → o ≡ Some x
of_option x None h = absurd h
of_option x (Some y) (inl e) = ap Some (sym e)
of_option x (Some y) (inr h) = absurd h

pub lines-sound : (dice : List ℕ) (p : Placement) (line : Line) → Among line (lines dice p) → IsSequence p dice line.0 line.1
unfolding lines lines_from
lines-sound [] p line (inl e) = subst (λ (l : Line). IsSequence p [] l.0 l.1) (sym e) refl
lines-sound [] p line (inr h) = absurd h
lines-sound (die ∷ dice) p line (inl e) = subst (λ (l : Line). IsSequence p (die ∷ dice) l.0 l.1) (sym e) refl
lines-sound (die ∷ dice) p line (inr h) =
    let a = flat_map-cases (lines_from (lines dice) p die) line places h in
    let from = a.0 in
    let b = map-cases (before die from) line _ a.2 in
    let c = flat_map-cases (lines dice) b.0 _ b.1 in
    let here = of_places from a.1 in
    let move = after_move-sound p die from c.0 here.0 here.1 (of_option c.0 (after_move p die from) c.1) in
    subst (λ (l : Line). IsSequence p (die ∷ dice) l.0 l.1) (sym b.2) (0, refl, c.0, move, lines-sound dice c.0 b.0 c.2)

pub leaves_from : (p : Placement) (die from : ℕ) (q : Placement) → IsMove p die from q → (1 ≤ from) × (from ≤ 25)
leaves_from p die from q (inl runs) = (runs.leaves.place, runs.leaves.within)
leaves_from p die from q (inr off) = (off.leaves.place, off.leaves.within)

-- one more move in front
extend : (die from : ℕ) (dice : List ℕ) (p next : Placement) (line : Line) → IsMove p die from next → Among line (lines dice next) → Among (before die from line) (lines (die ∷ dice) p)
unfolding lines lines_from
extend die from dice p next line move h =
    let within = leaves_from p die from next move in
    let here = Among-flat_map (lines dice) next line (option_to_list (after_move p die from)) (rw (after_move-complete p die from next move) (inl refl)) h in
    inr (Among-flat_map (lines_from (lines dice) p die) from (before die from line) places (to_places from within.0 within.1) (Among-map (before die from) line _ here))

nothing_played : (dice : List ℕ) (p q : Placement) → q ≡ p → Among ([], q) (lines dice p)
unfolding lines
nothing_played [] p q e = inl (ap (λ (r : Placement). ([], r)) e)
nothing_played (die ∷ dice) p q e = inl (ap (λ (r : Placement). ([], r)) e)

-- a first move by the one of these dice
first : (d : ℕ) (dice : List ℕ) (p : Placement) (m : Move) (moves : List Move) (q next : Placement) → m.die ≡ d → IsMove p m.die m.from next → Among (moves, q) (lines dice next) → Among (m ∷ moves, q) (lines (d ∷ dice) p)
first d dice p m moves q next e move later =
    subst (λ (x : ℕ). Among (m ∷ moves, q) (lines (x ∷ dice) p)) e (extend m.die m.from dice p next (moves, q) move later)

pub lines-complete : (n d : ℕ) (p : Placement) (moves : List Move) (q : Placement) → IsSequence p (replicate n d) moves q → Among (moves, q) (lines (replicate n d) p)
lines-complete n d p [] q h = nothing_played (replicate n d) p q h
lines-complete n d p (m ∷ moves) q (i, e, next, move, rest) =
    let r = same_dice n d i m.die e in
    let later = lines-complete r.0 d next moves q (rw (← r.3) rest) in
    rw r.1 (first d (replicate r.0 d) p m moves q next r.2 move later)

two-complete : (a b : ℕ) (p : Placement) (moves : List Move) (q : Placement) → IsSequence p (a ∷ b ∷ []) moves q → Among (moves, q) (lines (a ∷ b ∷ []) p) ⊎ Among (moves, q) (lines (b ∷ a ∷ []) p)
two-complete a b p [] q h = inl (nothing_played (a ∷ b ∷ []) p q h)
two-complete a b p (m ∷ moves) q (zero, e, next, move, rest) = inl (first a (b ∷ []) p m moves q next (grind arith) move (lines-complete 1 b next moves q rest))
two-complete a b p (m ∷ moves) q (suc zero, e, next, move, rest) = inr (first b (a ∷ []) p m moves q next (grind arith) move (lines-complete 1 a next moves q rest))
two-complete a b p (m ∷ moves) q (suc (suc i), e, next, move, rest) = absurd (grind arith)

two-swapped : (a b : ℕ) (p : Placement) (moves : List Move) (q : Placement) → IsSequence p (a ∷ b ∷ []) moves q → IsSequence p (b ∷ a ∷ []) moves q
two-swapped a b p [] q h = h
two-swapped a b p (m ∷ moves) q (zero, e, next, move, rest) = (1, e, next, move, rest)
two-swapped a b p (m ∷ moves) q (suc zero, e, next, move, rest) = (0, e, next, move, rest)
two-swapped a b p (m ∷ moves) q (suc (suc i), e, next, move, rest) = absurd (grind arith)

-- ---- all sequences of a roll

joined : (b : Bool) (f g h : List Line) (line : Line) → Among line (cond b f (g ++ h)) → ((b ≡ true) × Among line f) ⊎ ((b ≡ false) × (Among line g ⊎ Among line h))
joined true f g h line m = inl (refl, m)
joined false f g h line m = inr (refl, Among-cases line g h m)

pub all_lines-sound : (p : Placement) (roll : Dice) (line : Line) → Among line (all_lines p roll) → IsSequence p (dice_of roll) line.0 line.1
unfolding all_lines
all_lines-sound p roll line h = sound (joined (eqb roll.high roll.low) (lines (roll.high ∷ roll.high ∷ roll.high ∷ roll.high ∷ []) p) (lines (roll.high ∷ roll.low ∷ []) p) (lines (roll.low ∷ roll.high ∷ []) p) line h) where
  sound : ((eqb roll.high roll.low ≡ true) × Among line (lines (roll.high ∷ roll.high ∷ roll.high ∷ roll.high ∷ []) p)) ⊎ ((eqb roll.high roll.low ≡ false) × (Among line (lines (roll.high ∷ roll.low ∷ []) p) ⊎ Among line (lines (roll.low ∷ roll.high ∷ []) p))) → IsSequence p (dice_of roll) line.0 line.1
  sound (inl same) = rw same.0 (lines-sound _ p line same.1)
  sound (inr (apart, inl a)) = rw apart (lines-sound _ p line a)
  sound (inr (apart, inr b)) = rw apart (two-swapped roll.low roll.high p line.0 line.1 (lines-sound _ p line b))

pub all_lines-complete : (p : Placement) (roll : Dice) (moves : List Move) (q : Placement) → IsSequence p (dice_of roll) moves q → Among (moves, q) (all_lines p roll)
unfolding all_lines
all_lines-complete p roll moves q h = complete (eqb roll.high roll.low) refl h where
  complete : (b : Bool) → eqb roll.high roll.low ≡ b → IsSequence p (cond b (roll.high ∷ roll.high ∷ roll.high ∷ roll.high ∷ []) (roll.high ∷ roll.low ∷ [])) moves q → Among (moves, q) (all_lines p roll)
  complete true e h = rw e (lines-complete 4 roll.high p moves q h)
  complete false e h = rw e (elim (two-complete roll.high roll.low p moves q h) [
    | inl a ↦ Among-left (moves, q) _ _ a
    | inr b ↦ Among-right (moves, q) (lines (roll.high ∷ roll.low ∷ []) p) _ b
  ])

-- ---- the legal ones

pub longest-bound : (line : Line) (all : List Line) → Among line all → length line.0 ≤ longest all
longest-bound line [] h = absurd h
longest-bound line (l ∷ all) (inl e) = omega (arith, ap (λ (x : Line). length x.0) e)
longest-bound line (l ∷ all) (inr h) = omega (arith, longest-bound line all h)

pub longest-reached : (line : Line) (all : List Line) → Among line all → (best : Line) × Among best all × (length best.0 ≡ longest all)
longest-reached line [] h = absurd h
longest-reached line (l ∷ []) h = (l, inl refl, omega arith)
longest-reached line (l ∷ m ∷ all) h =
    let later = longest-reached m (m ∷ all) (inl refl) in
    elim (cases_lt (length l.0) (longest (m ∷ all))) [
      | inl less ↦ (later.0, inr later.1, omega (arith, later.2, less))
      | inr more ↦ (l, inl refl, omega (arith, more))
    ]

any-true : {X : Type 0} (test : X → Bool) (xs : List X) → list_any test xs ≡ true → (x : X) × Among x xs × (test x ≡ true)
any-true test [] h = absurd (grind arith)
any-true test (x ∷ xs) h = elim (either (test x) (list_any test xs) h) [
  | inl here ↦ (x, inl refl, here)
  | inr later ↦ (let r = any-true test xs later in (r.0, inr r.1, r.2))
]

true-any : {X : Type 0} (test : X → Bool) (x : X) (xs : List X) → Among x xs → test x ≡ true → list_any test xs ≡ true
true-any test x [] h t = absurd h
true-any test x (y ∷ xs) (inl e) t = rw (← e) (rw t refl)
true-any test x (y ∷ xs) (inr h) t = rw (true-any test x xs h t) (any_or (test y))

some_of : {X : Type 0} (o : Option X) → is_some o ≡ true → (x : X) × (o ≡ Some x)
some_of None h = absurd (grind arith)
some_of (Some x) h = (x, refl)

pub can_play-sound : (p : Placement) (die : ℕ) → can_play p die ≡ true → CanPlay p die
can_play-sound p die h =
    let r = any-true (λ (from : ℕ). is_some (after_move p die from)) places h in
    let within = of_places r.0 r.1 in
    let q = some_of (after_move p die r.0) r.2 in
    (r.0, q.0, after_move-sound p die r.0 q.0 within.0 within.1 q.1)

pub can_play-complete : (p : Placement) (die : ℕ) → CanPlay p die → can_play p die ≡ true
can_play-complete p die (from, q, move) =
    let within = leaves_from p die from q move in
    true-any (λ (from : ℕ). is_some (after_move p die from)) from places (to_places from within.0 within.1) (rw (after_move-complete p die from q move) refl)

one_die : (high : ℕ) (moves : List Move) → length moves ≡ 1 → list_any (λ (m : Move). eqb m.die high) moves ≡ true → map (λ (m : Move). m.die) moves ≡ high ∷ []
one_die high [] e h = absurd (omega arith)
one_die high (m ∷ []) e h = let d : m.die ≡ high = grind (arith, nat_tests) in ap (λ (x : ℕ). x ∷ []) d
one_die high (m ∷ n ∷ moves) e h = absurd (omega arith)

one_test : (high : ℕ) (moves : List Move) → map (λ (m : Move). m.die) moves ≡ high ∷ [] → list_any (λ (m : Move). eqb m.die high) moves ≡ true
one_test high [] e = absurd (grind arith)
one_test high (m ∷ moves) e = let d : m.die ≡ high = cc in grind (arith, nat_tests)

pub legal_lines-sound : (p : Placement) (roll : Dice) (line : Line) → Among line (legal_lines p roll) → IsLegal p roll line.0 line.1
unfolding legal_lines
legal_lines-sound p roll line h =
    let r = filter-cases (λ (l : Line). eqb (length l.0) (longest (all_lines p roll)) && right_die p roll l) line (all_lines p roll) h in
    let most : length line.0 ≡ longest (all_lines p roll) = both-left _ _ _ r.1 in
    record {
      sequence = all_lines-sound p roll line r.0;
      longest = λ others end s. omega (arith, most, longest-bound (others, end) (all_lines p roll) (all_lines-complete p roll others end s));
      higher = λ one apart can. one_die roll.high line.0 one (right (eqb (length line.0) 1) (eqb roll.high roll.low) (can_play p roll.high) _ (both-right _ _ r.1) (grind (arith, nat_tests)) (grind (arith, nat_tests)) (can_play-complete p roll.high can));
    }

pub legal_lines-complete : (p : Placement) (roll : Dice) (moves : List Move) (q : Placement) → IsLegal p roll moves q → Among (moves, q) (legal_lines p roll)
unfolding legal_lines
legal_lines-complete p roll moves q legal =
    let here = all_lines-complete p roll moves q legal.sequence in
    let best = longest-reached (moves, q) (all_lines p roll) here in
    let below = legal.longest best.0.0 best.0.1 (all_lines-sound p roll best.0 best.1) in
    let most : length moves ≡ longest (all_lines p roll) = omega (arith, below, best.2, longest-bound (moves, q) (all_lines p roll) here) in
    let right : right_die p roll (moves, q) ≡ true =
    right-from (eqb (length moves) 1) (eqb roll.high roll.low) (can_play p roll.high) _ (λ one apart can. one_test roll.high moves (legal.higher (grind (arith, nat_tests)) (grind (arith, nat_tests)) (can_play-sound p roll.high can))) in
    Among-filter (λ (l : Line). eqb (length l.0) (longest (all_lines p roll)) && right_die p roll l) (moves, q) (all_lines p roll) here (both (length moves) (longest (all_lines p roll)) _ most right)

pub legal_ends-sound : (p : Placement) (roll : Dice) (q : Placement) → Contains (legal_ends p roll) q → IsLegalEnd p roll q
unfolding legal_ends
legal_ends-sound p roll q h =
    let r = map-cases (λ (line : Line). line.1) q (legal_lines p roll) (Contains-Among q (legal_ends p roll) h) in
    subst (λ (x : Placement). IsLegalEnd p roll x) (sym r.2) (r.0.0, legal_lines-sound p roll r.0 r.1)

pub legal_ends-complete : (p : Placement) (roll : Dice) (q : Placement) → IsLegalEnd p roll q → Contains (legal_ends p roll) q
unfolding legal_ends
legal_ends-complete p roll q (moves, legal) =
    Among-Contains q (legal_ends p roll) (Among-map (λ (line : Line). line.1) (moves, q) (legal_lines p roll) (legal_lines-complete p roll moves q legal))
