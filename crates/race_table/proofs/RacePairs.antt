-- What is true of the pair of a race.
use Rattle.std.proofs.Common.{◌≡◌, ◌≤◌, ◌<◌, ◌+◌, ◌-◌, ℕ, zero, suc, ℤ, pos, neg_ℤ, ◌+ℤ◌, ◌*ℤ◌, ◌≤ℤ◌, List, [], ◌∷◌, sum, Option, Some, None, inl, inr, refl, ap, sym, subst, ◌∙◌, arith}
use Rattle.std.specs.Int.{int_max}
use Rattle.std.proofs.lemmas.Bool.{cases_lt}
use Rattle.std.proofs.lemmas.Int.{ints, clamps}
use Rattle.position_rank.specs.Placement.{Placement, swap}
use Rattle.roll_table.specs.Rolls.{Dice, IsRoll, all_rolls}
use Rattle.move_rules.specs.Ends.{legal_ends}
use Rattle.move_rules.specs.Listing.{Among}
use Rattle.move_rules.specs.declared.payoff.Won.{Won}
use Rattle.move_rules.specs.declared.payoff.Won.TheVariants.{Single, Gammon, Backgammon}
use Rattle.move_rules.specs.Payoff.{points}
use Rattle.directed_fixed.specs.declared.bounds.End.{End}
use Rattle.directed_fixed.specs.declared.bounds.End.TheVariants.{Lower, Upper}
use Rattle.directed_fixed.specs.Bounds.{Bounds, IsNoLooser, AreNoLooserPairs, other}
use Rattle.directed_fixed.specs.Rounding.{floor_36, ceil_36}
use Rattle.cube_actions.specs.Money.{alone, cubeless}
use Rattle.turn_rule.specs.Games.{game_of}
use Rattle.turn_rule.specs.Turn.{Words, win, if_won, worth, greatest, sum_over, turn, rounds}
use Rattle.turn_rule.specs.States.{IsState}
use Rattle.turn_rule.specs.Looks.{MayFollow, MayFollowTurn}
use Rattle.turn_rule.proofs.Agreement.{turn-agree-at}
use Rattle.turn_rule.proofs.Cubeless.{cubeless-valid}
use Rattle.turn_rule.proofs.Enclosing.{rounds-enclose}
use Rattle.turn_rule.proofs.Monotone.{rounds-tighter}
use Rattle.turn_rule.proofs.Greatest.{AreRolls, all_rolls-right, total, total-all_rolls}
use Rattle.turn_rule.proofs.Integers.{distribute, mul_mono, floor_36_above}
use Rattle.turn_rule.proofs.Tight.{tight-refl, tight-trans}
use Rattle.race_table.specs.Races.{IsRace}
use Rattle.race_table.specs.TurnsLeft.{turns_left}
use Rattle.race_table.specs.RacePairs.{pair_after, race_pair, IsTrueOfRace}
use Rattle.race_table.proofs.Lines.{legal-race}
use Rattle.race_table.proofs.Left.{left-some, left-falls, legal-of}

-- what may follow a race is a race with fewer turns left
pub record Follows (p q : Placement) (j : ℕ) : Type 0 where
  pub race : IsRace q
  pub fewer : turns_left q < turns_left p
  pub kind : j ≡ 0

rolled-follows : (p : Placement) → IsRace p → (q : Placement) (j : ℕ) → MayFollow cubeless p 0 q j → Follows p q j
rolled-follows p race q j may =
    let is : q ≡ swap may.end = may.left.sides in
    record {
      race = subst IsRace (sym is) (legal-race may.roll may.right p race may.end may.legal may.left.goes_on);
      fewer = subst (λ (x : Placement). turns_left x < turns_left p) (sym is) (left-falls p race may.roll may.end may.right may.legal may.left.goes_on);
      kind = may.left.kind;
    }

pub follows : (p : Placement) → IsRace p → (q : Placement) (j : ℕ) → MayFollowTurn cubeless p 0 q j → Follows p q j
follows p race q j (inl may) = rolled-follows p race q j may
follows p race q j (inr may) = absurd (let none = may.right in cc)

pub state : (p : Placement) → IsRace p → IsState (game_of (sum p.mover) cubeless) p 0
state p race = record { position = race.position; many = refl; live = race.live; kind = omega arith }

-- once there are as many rounds as turns left, more change nothing
pub rounds-same : (m n : ℕ) (p : Placement) → IsRace p → turns_left p ≤ m → turns_left p ≤ n → (end : End) → rounds cubeless m end p 0 ≡ rounds cubeless n end p 0
unfolding rounds
rounds-same zero n p race low high end = absurd (omega (arith, left-some p race))
rounds-same (suc m) zero p race low high end = absurd (omega (arith, left-some p race))
rounds-same (suc m) (suc n) p race low high end =
    turn-agree-at cubeless (rounds cubeless m) (rounds cubeless n) end p 0
    (λ q j may. let f = follows p race q j may in
    subst (λ (k : ℕ). rounds cubeless m (other end) q k ≡ rounds cubeless n (other end) q k) (sym f.kind)
    (rounds-same m n q f.race (omega (arith, f.fewer, low)) (omega (arith, f.fewer, high)) (other end)))

pair-same : (m n : ℕ) (p : Placement) → IsRace p → turns_left p ≤ m → turns_left p ≤ n → pair_after m p ≡ pair_after n p
pair-same m n p race low high =
    let with_lower : ℤ → Bounds = λ z. record { lower = z; upper = rounds cubeless m Upper p 0 } in
    let with_upper : ℤ → Bounds = λ z. record { lower = rounds cubeless n Lower p 0; upper = z } in
    ap with_lower (rounds-same m n p race low high Lower) ∙ ap with_upper (rounds-same m n p race low high Upper)

-- after more rounds no word is looser
later-tighter : (checkers r m : ℕ) → r ≤ m → (end : End) (p : Placement) → IsState (game_of checkers cubeless) p 0 → IsNoLooser end (rounds cubeless m end p 0) (rounds cubeless r end p 0)
later-tighter checkers r zero h end p state = let is : r ≡ zero = omega arith in rw is (tight-refl end (rounds cubeless zero end p 0))
later-tighter checkers r (suc m) h end p state = elim (cases_lt m r) [
  | inl last ↦ (let is : r ≡ suc m = omega (arith, h, last) in rw is (tight-refl end (rounds cubeless (suc m) end p 0)))
  | inr before ↦ tight-trans end _ _ _ (rounds-tighter (game_of checkers cubeless) cubeless-valid m end p 0 state) (later-tighter checkers r m before end p state)
]

pair-tight : (p : Placement) → IsRace p → (r : ℕ) → AreNoLooserPairs (race_pair p) (pair_after r p)
pair-tight p race r = elim (cases_lt r (turns_left p)) [
  | inl before ↦ (
      let less : r ≤ turns_left p = omega (arith, before) in
      record {
        lower = later-tighter (sum p.mover) r (turns_left p) less Lower p (state p race);
        upper = later-tighter (sum p.mover) r (turns_left p) less Upper p (state p race);
      })
  | inr past ↦ subst (AreNoLooserPairs (race_pair p)) (pair-same (turns_left p) r p race (omega arith) past) (record { lower = tight-refl Lower _; upper = tight-refl Upper _ })
]

-- ---- widths

add-times : (w n : ℕ) (f g a b wide : ℤ) → (pos w *ℤ f) ≤ℤ (pos w *ℤ g +ℤ pos w *ℤ wide) → a ≤ℤ (b +ℤ pos n *ℤ wide) → (pos w *ℤ f +ℤ a) ≤ℤ (pos w *ℤ g +ℤ b +ℤ pos (w + n) *ℤ wide)
add-times w n f g a b wide h k = omega (arith, ints)

max-apart : (a b c d wide : ℤ) → a ≤ℤ (c +ℤ wide) → b ≤ℤ (d +ℤ wide) → int_max a b ≤ℤ (int_max c d +ℤ wide)
max-apart a b c d wide h k = omega (arith, ints, clamps)

-- where each value is at most so much above another, so is the greatest, and sums so much for each way of two dice
greatest-apart : (f g : Placement → ℤ) (wide : ℤ) → pos 0 ≤ℤ wide → (qs : List Placement) → ((q : Placement) → Among q qs → f q ≤ℤ (g q +ℤ wide)) → greatest f qs ≤ℤ (greatest g qs +ℤ wide)
greatest-apart f g wide z [] h = omega (arith, ints)
greatest-apart f g wide z (q ∷ []) h = h q (inl refl)
greatest-apart f g wide z (q ∷ r ∷ rest) h = max-apart _ _ _ _ wide (h q (inl refl)) (greatest-apart f g wide z (r ∷ rest) (λ x m. h x (inr m)))

sum-apart : (f g : Placement → ℤ) (wide : ℤ) (p : Placement) → pos 0 ≤ℤ wide → ((roll : Dice) (q : Placement) → IsRoll roll → Among q (legal_ends p roll) → f q ≤ℤ (g q +ℤ wide)) → (rolls : List (Dice × ℕ)) → AreRolls rolls → sum_over rolls f p ≤ℤ (sum_over rolls g p +ℤ pos (total rolls) *ℤ wide)
sum-apart f g wide p z h [] a = omega (arith, ints)
sum-apart f g wide p z h (roll ∷ rolls) a =
    let here = greatest-apart f g wide z (legal_ends p roll.0) (λ q. h roll.0 q a.0) in
    let times = subst (λ (x : ℤ). (pos roll.1 *ℤ greatest f (legal_ends p roll.0)) ≤ℤ x) (distribute roll.1 (greatest g (legal_ends p roll.0)) wide) (mul_mono roll.1 _ _ here) in
    add-times roll.1 (total rolls) _ _ _ _ wide times (sum-apart f g wide p z h rolls a.1)

-- rounding adds one unit at most
mean-apart : (low high : ℤ) (wide : ℕ) → high ≤ℤ (low +ℤ pos 36 *ℤ pos wide) → ceil_36 (pos 1 *ℤ high) ≤ℤ (floor_36 (pos 1 *ℤ low) +ℤ pos (suc wide))
mean-apart low high wide h = omega (arith, ints, floor_36_above (pos 1 *ℤ low), floor_36_above (neg_ℤ (pos 1 *ℤ high)))

-- what a win is worth is known exactly
win-exact : (won : Won) → (win alone won).upper ≡ (win alone won).lower
win-exact Single = refl
win-exact Gammon = refl
win-exact Backgammon = refl

same-apart : (a b : ℤ) (wide : ℕ) → a ≡ b → a ≤ℤ (b +ℤ pos wide)
same-apart a b wide h = omega (arith, ints)

neg-apart : (low high : ℤ) (left wide : ℕ) → high ≤ℤ (low +ℤ pos left) → left ≤ wide → neg_ℤ low ≤ℤ (neg_ℤ high +ℤ pos wide)
neg-apart low high left wide h k = omega (arith, ints)

apart-after : (u : Words) (wide : ℕ) (q : Placement) → (points q ≡ None → neg_ℤ (u Lower (swap q) 0) ≤ℤ (neg_ℤ (u Upper (swap q) 0) +ℤ pos wide)) → worth Upper alone u q ≤ℤ (worth Lower alone u q +ℤ pos wide)
apart-after u wide q h = by_points (points q) refl where
  by_points : (o : Option Won) → points q ≡ o → if_won o (λ won. (win alone won).upper) (neg_ℤ (u Lower (swap q) 0)) ≤ℤ (if_won o (λ won. (win alone won).lower) (neg_ℤ (u Upper (swap q) 0)) +ℤ pos wide)
  by_points None on = h on
  by_points (Some won) over = same-apart _ _ wide (win-exact won)

narrow-after : (n : ℕ) (p : Placement) → IsRace p → turns_left p ≤ n → rounds cubeless n Upper p 0 ≤ℤ (rounds cubeless n Lower p 0 +ℤ pos (turns_left p))
unfolding rounds turn
narrow-after zero p race low = absurd (omega (arith, left-some p race))
narrow-after (suc n) p race low =
    let u = rounds cubeless n in
    let wide = turns_left p - 1 in
    let is : turns_left p ≡ suc wide = omega (arith, left-some p race) in
    let each = λ (roll : Dice) (q : Placement) (right : IsRoll roll) (m : Among q (legal_ends p roll)).
    apart-after u wide q (λ on.
    let legal = legal-of p roll q m in
    let later = legal-race roll right p race q legal on in
    let fewer = left-falls p race roll q right legal on in
    neg-apart _ _ (turns_left (swap q)) wide (narrow-after n (swap q) later (omega (arith, fewer, low))) (omega (arith, fewer, is))) in
    let sums = sum-apart (worth Upper alone u) (worth Lower alone u) (pos wide) p (omega (arith, ints)) each all_rolls all_rolls-right in
    rw is (mean-apart _ _ wide (subst (λ (t : ℕ). sum_over all_rolls (worth Upper alone u) p ≤ℤ (sum_over all_rolls (worth Lower alone u) p +ℤ pos t *ℤ pos wide)) total-all_rolls sums))

narrow : (p : Placement) → IsRace p → (race_pair p).upper ≤ℤ ((race_pair p).lower +ℤ pos (turns_left p))
narrow p race = narrow-after (turns_left p) p race (omega arith)

pub pair-true : (p : Placement) → IsRace p → IsTrueOfRace p (race_pair p)
pair-true p race = record {
  encloses = λ turns scoring more right. rounds-enclose (game_of (sum p.mover) cubeless) cubeless-valid (turns_left p) turns more scoring right p 0 (state p race);
  tight = pair-tight p race;
  narrow = narrow p race;
}
