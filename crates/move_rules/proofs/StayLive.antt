-- What a legal sequence leaves is a position on which no point is held by both sides.
use Rattle.std.proofs.Common.{◌≡◌, ◌≢◌, ◌≤◌, ◌<◌, ◌+◌, ◌-◌, ℕ, zero, suc, Bool, true, false, cond, eqb, List, [], ◌∷◌, Some, length, sum, set, get_or, inl, inr, refl, subst, sym, ◌∙◌, arith, length-set, get_or-set_same, get_or-set_other}
use Rattle.std.proofs.lemmas.Bool.{cases_lt, cases_eq}
use Rattle.std.proofs.lemmas.Bool.Decides.{nat_tests}
use Rattle.std.proofs.lemmas.List.Sums.{sum_by-set}
use Rattle.std.specs.List.{slice_get, remove}
use Rattle.position_rank.specs.Placement.{Placement, IsPosition, IsLive, AreApart, InPlay, swap, moved, hit}
use Rattle.roll_table.specs.Rolls.{Dice, IsRoll, dice_of}
use Rattle.move_rules.specs.Moves.{IsMove, Runs, BearsOff}
use Rattle.move_rules.specs.Sequences.{IsSequence, IsLegalEnd}
use Rattle.move_rules.specs.declared.play.Move.{Move}

-- ---- one checker goes from one place to another

length-moved : (counts : List ℕ) (from to : ℕ) → length (moved counts from to) ≡ length counts
length-moved counts from to = simp length-set

pub sum-moved : (counts : List ℕ) (from to : ℕ) → from < length counts → to < length counts → 0 < get_or counts from 0 → sum (moved counts from to) ≡ sum counts
sum-moved counts from to a b h =
    let left : List ℕ = set counts from (get_or counts from 0 - 1) in
    let b' : to < length left = simp length-set b in
    omega (arith, sum_by-set (λ (x : ℕ). x) counts from (get_or counts from 0 - 1) 0 a, sum_by-set (λ (x : ℕ). x) left to (get_or left to 0 + 1) 0 b')

pub get_or-moved_other : (counts : List ℕ) (from to place : ℕ) → place ≢ from → place ≢ to → get_or (moved counts from to) place 0 ≡ get_or counts place 0
get_or-moved_other counts from to place a b =
    get_or-set_other (set counts from (get_or counts from 0 - 1)) to place _ 0 b ∙ get_or-set_other counts from place _ 0 a

get_or-moved_from : (counts : List ℕ) (from to : ℕ) → from < length counts → from ≢ to → get_or (moved counts from to) from 0 ≡ get_or counts from 0 - 1
get_or-moved_from counts from to a b =
    get_or-set_other (set counts from (get_or counts from 0 - 1)) to from _ 0 b ∙ get_or-set_same counts from _ 0 a

get_or-moved_le : (counts : List ℕ) (from to place : ℕ) → from < length counts → place ≢ to → get_or (moved counts from to) place 0 ≤ get_or counts place 0
get_or-moved_le counts from to place a b = elim (cases_eq place from) [
  | inl same ↦ rw same (omega (arith, get_or-moved_from counts from to a (λ e. b (same ∙ e))))
  | inr apart ↦ omega (arith, get_or-moved_other counts from to place apart b)
]

-- ---- a checker comes to a point that isn't closed

-- the point that is reached, and the other side's checkers before and after
record Reached (other after : List ℕ) (point : ℕ) : Type 0 where
  places : length after ≡ length other
  checkers : sum after ≡ sum other
  empty : get_or after point 0 ≡ 0
  elsewhere : (place : ℕ) → place ≢ point → place ≢ 25 → get_or after place 0 ≡ get_or other place 0

reached : (other : List ℕ) (point : ℕ) → length other ≡ 26 → point < 25 → get_or other point 0 ≤ 1 → Reached other (hit other point) point
reached other point n low open_point = elim (cases_eq (get_or other point 0) 1) [
  | inl single ↦ (
      let test : eqb (get_or other point 0) 1 ≡ true = grind (arith, nat_tests) in
      let apart : point ≢ 25 = omega arith in
      subst (λ (b : Bool). Reached other (cond b (moved other point 25) other) point) (sym test) (record {
        places = length-moved other point 25;
        checkers = sum-moved other point 25 (omega arith) (omega arith) (omega arith);
        empty = omega (arith, get_or-moved_from other point 25 (omega arith) apart);
        elsewhere = λ place a b. get_or-moved_other other point 25 place a b;
      }))
  | inr none ↦ (
      let test : eqb (get_or other point 0) 1 ≡ false = grind (arith, nat_tests) in
      subst (λ (b : Bool). Reached other (cond b (moved other point 25) other) point) (sym test) (record {
        places = refl;
        checkers = refl;
        empty = omega arith;
        elsewhere = λ place a b. refl;
      }))
]

-- ---- what one move keeps, of a game against these checkers

pub record Stays (p q : Placement) : Type 0 where
  pub mover_places : length q.mover ≡ length p.mover
  pub mover : sum q.mover ≡ sum p.mover
  pub other_places : length q.other ≡ length p.other
  pub other : sum q.other ≡ sum p.other
  pub off : get_or q.other 0 0 ≡ get_or p.other 0 0
  pub apart : AreApart p → AreApart q

apart-run : (mover other after : List ℕ) (from to : ℕ) → from < length mover → 1 ≤ to → to ≤ 24 → Reached other after (25 - to)
    → AreApart (record { mover = mover; other = other }) → AreApart (record { mover = moved mover from to; other = after })
apart-run mover other after from to a low high r apart point l h held = elim (cases_eq point to) [
  | inl same ↦ rw same (r.empty)
  | inr other_point ↦ (
      let was : 0 < get_or mover point 0 = omega (arith, get_or-moved_le mover from to point a other_point) in
      r.elsewhere (25 - point) (omega arith) (omega arith) ∙ apart point l h was)
]

apart-off : (mover other : List ℕ) (from : ℕ) → from < length mover
    → AreApart (record { mover = mover; other = other }) → AreApart (record { mover = moved mover from 0; other = other })
apart-off mover other from a apart point l h held =
    let on : point ≢ 0 = omega arith in
    apart point l h (omega (arith, get_or-moved_le mover from 0 point a on))

run-stays : (p : Placement) (die from : ℕ) (q : Placement) → length p.mover ≡ 26 → length p.other ≡ 26 → 1 ≤ die → Runs p die from q → Stays p q
run-stays p die from q m o low runs =
    let within : from < length p.mover = omega (arith, runs.leaves.within) in
    let on : from - die < length p.mover = omega (arith, runs.leaves.within) in
    let point : 25 - (from - die) < 25 = omega (arith, runs.on_board) in
    let r : Reached p.other (hit p.other (25 - (from - die))) (25 - (from - die)) = reached p.other (25 - (from - die)) o point runs.open_point in
    let bar : 25 - (from - die) ≢ 0 = omega (arith, runs.leaves.within) in
    subst (λ (b : Placement). Stays p b) (sym runs.after) (record {
      mover_places = length-moved p.mover from (from - die);
      mover = sum-moved p.mover from (from - die) within on runs.leaves.checker;
      other_places = r.places;
      other = r.checkers;
      off = r.elsewhere 0 (λ e. bar (sym e)) (omega arith);
      apart = apart-run p.mover p.other (hit p.other (25 - (from - die))) from (from - die) within (omega (arith, runs.on_board)) (omega (arith, runs.leaves.within)) r;
    })

off-stays : (p : Placement) (die from : ℕ) (q : Placement) → length p.mover ≡ 26 → BearsOff p die from q → Stays p q
off-stays p die from q m off =
    let within : from < length p.mover = omega (arith, off.leaves.within) in
    subst (λ (b : Placement). Stays p b) (sym off.after) (record {
      mover_places = length-moved p.mover from 0;
      mover = sum-moved p.mover from 0 within (omega arith) off.leaves.checker;
      other_places = refl;
      other = refl;
      off = refl;
      apart = apart-off p.mover p.other from within;
    })

move-stays : (p : Placement) (die from : ℕ) (q : Placement) → length p.mover ≡ 26 → length p.other ≡ 26 → 1 ≤ die → IsMove p die from q → Stays p q
move-stays p die from q m o low (inl runs) = run-stays p die from q m o low runs
move-stays p die from q m o low (inr off) = off-stays p die from q m off

-- whatever the die
pub mover-stays : (p : Placement) (die from : ℕ) (q : Placement) → length p.mover ≡ 26 → IsMove p die from q → (length q.mover ≡ 26) × (sum q.mover ≡ sum p.mover)
mover-stays p die from q m (inl runs) =
    let within : from < length p.mover = omega (arith, runs.leaves.within) in
    let on : from - die < length p.mover = omega (arith, runs.leaves.within) in
    subst (λ (b : Placement). (length b.mover ≡ 26) × (sum b.mover ≡ sum p.mover)) (sym runs.after) (length-moved p.mover from (from - die) ∙ m, sum-moved p.mover from (from - die) within on runs.leaves.checker)
mover-stays p die from q m (inr off) = let s = off-stays p die from q m off in (s.mover_places ∙ m, s.mover)

-- ---- and what a sequence keeps

Stays-refl : (p : Placement) → Stays p p
Stays-refl p = record { mover_places = refl; mover = refl; other_places = refl; other = refl; off = refl; apart = λ a. a }

Stays-trans : (p q r : Placement) → Stays p q → Stays q r → Stays p r
Stays-trans p q r a b = record {
  mover_places = b.mover_places ∙ a.mover_places;
  mover = b.mover ∙ a.mover;
  other_places = b.other_places ∙ a.other_places;
  other = b.other ∙ a.other;
  off = b.off ∙ a.off;
  apart = λ h. b.apart (a.apart h);
}

-- each number of these dice is at least 1
abbrev pub AreDice : List ℕ → Type 0
AreDice [] = Unit {0}
AreDice (die ∷ dice) = (1 ≤ die) × AreDice dice

AreDice-at : (dice : List ℕ) (i die : ℕ) → AreDice dice → slice_get dice i ≡ Some die → 1 ≤ die
AreDice-at [] i die right e = absurd (grind arith)
AreDice-at (d ∷ dice) zero die right e = let same : d ≡ die = cc in omega (arith, right.0, same)
AreDice-at (d ∷ dice) (suc i) die right e = AreDice-at dice i die right.1 e

AreDice-remove : (dice : List ℕ) (i : ℕ) → AreDice dice → AreDice (remove dice i)
AreDice-remove [] zero right = right
AreDice-remove [] (suc i) right = right
AreDice-remove (d ∷ dice) zero right = right.1
AreDice-remove (d ∷ dice) (suc i) right = (right.0, AreDice-remove dice i right.1)

AreDice-of : (roll : Dice) → IsRoll roll → AreDice (dice_of roll)
AreDice-of roll right = of (eqb roll.high roll.low) where
  of : (b : Bool) → AreDice (cond b (roll.high ∷ roll.high ∷ roll.high ∷ roll.high ∷ []) (roll.high ∷ roll.low ∷ []))
  of true = let high : 1 ≤ roll.high = omega (arith, right.from, right.in_order) in (high, (high, (high, (high, tt))))
  of false = (omega (arith, right.from, right.in_order), (right.from, tt))

sequence-stays : (p : Placement) (dice : List ℕ) (moves : List Move) (q : Placement) → length p.mover ≡ 26 → length p.other ≡ 26 → AreDice dice → IsSequence p dice moves q → Stays p q
sequence-stays p dice [] q m o right e = subst (λ (b : Placement). Stays p b) (sym e) (Stays-refl p)
sequence-stays p dice (move ∷ moves) q m o right (i, e, next, made, rest) =
    let a = move-stays p move.die move.from next m o (AreDice-at dice i move.die right e) made in
    Stays-trans p next q a (sequence-stays next (remove dice i) moves q (a.mover_places ∙ m) (a.other_places ∙ o) (AreDice-remove dice i right) rest)

swap-apart : (p : Placement) → AreApart p → AreApart (swap p)
swap-apart p apart point low high held = elim (cases_lt 0 (get_or p.mover (25 - point) 0)) [
  | inl there ↦ (
      let none : get_or p.other (25 - (25 - point)) 0 ≡ 0 = apart (25 - point) (omega arith) (omega arith) there in
      let same : 25 - (25 - point) ≡ point = omega arith in
      absurd (omega (arith, held, rw same at none)))
  | inr none ↦ omega arith
]

-- No point of a legal end is held by both sides, so the other side's turn is in a live position unless the game is over.
pub legal_end-stays : (p : Placement) (roll : Dice) (q : Placement) → IsRoll roll → IsPosition p → IsLive p → IsLegalEnd p roll q
    → IsPosition q × (sum q.mover ≡ sum p.mover) × (InPlay q.mover → IsLive (swap q))
legal_end-stays p roll q right here live (moves, legal) =
    let s = sequence-stays p (dice_of roll) moves q here.mover.places here.other.places (AreDice-of roll right) legal.sequence in (
      record {
        mover = record { places = s.mover_places ∙ here.mover.places; at_least_one = omega (arith, s.mover, here.mover.at_least_one); at_most_three = omega (arith, s.mover, here.mover.at_most_three) };
        other = record { places = s.other_places ∙ here.other.places; at_least_one = omega (arith, s.other, here.other.at_least_one); at_most_three = omega (arith, s.other, here.other.at_most_three) };
        same = s.mover ∙ (here.same ∙ sym s.other);
      },
      s.mover,
      λ in_play. record {
        apart = swap-apart q (s.apart live.apart);
        mover = λ e. live.other (sym s.off ∙ (e ∙ s.other));
        other = in_play;
      },
    )
