-- What is found of each end of each roll makes the sum over the rolls found.
use Rattle.std.proofs.Common.{◌≡◌, ◌∙◌, ℕ, ℤ, pos, neg_ℤ, ◌≤ℤ◌, ◌+ℤ◌, ◌*ℤ◌, List, [], ◌∷◌, Option, Some, None, refl, ap, arith}
use Rattle.std.proofs.lemmas.Int.{ints}
use Rattle.position_rank.specs.Placement.{Placement}
use Rattle.roll_table.specs.Rolls.{Dice, IsRoll, all_rolls}
use Rattle.move_rules.specs.Ends.{legal_ends, after_move, places}
use Rattle.move_rules.specs.Listing.{Among}
use Rattle.move_rules.proofs.Members.{Contains-Among}
use Rattle.move_rules.proofs.EndsExact.{legal_ends-complete}
use Rattle.directed_fixed.specs.declared.bounds.End.{End}
use Rattle.cube_actions.specs.Stakes.{Terms, kind_at}
use Rattle.turn_rule.specs.Turn.{worth, sum_over}
use Rattle.turn_rule.specs.Looks.{Source, Notes, IsLeft, MayFollow}
use Rattle.turn_rule.specs.Found.{IsFound}
use Rattle.turn_rule.proofs.Greatest.{AreRolls, all_rolls-right, sum-upto, sum-from, total-all_rolls}
use Rattle.turn_rule.proofs.Tightness.{tight-sum}
use Rattle.turn_rule.proofs.Integers.{times-neg}
use Rattle.column_sums.specs.Cascade.{or_max, then_value, over_places, best_over, best_of_roll, best_sum}
use Rattle.column_sums.proofs.Cascades.{roll-greatest}

sum-best : (f : Placement → ℤ) (p : Placement) (rolls : List (Dice × ℕ)) → AreRolls rolls → sum_over rolls f p ≡ best_sum rolls f p
sum-best f p [] right = refl
sum-best f p (roll ∷ rolls) right =
    ap (λ (x : ℤ). pos roll.1 *ℤ x +ℤ sum_over rolls f p) (roll-greatest f p roll.0 right.0)
    ∙ ap (λ (x : ℤ). pos roll.1 *ℤ best_of_roll f p roll.0 +ℤ x) (sum-best f p rolls right.1)

pub all-best : (f : Placement → ℤ) (p : Placement) → sum_over all_rolls f p ≡ best_sum all_rolls f p
all-best f p = sum-best f p all_rolls all_rolls-right

-- what each end was found to be worth
abbrev pub AreFound : End → Source → Terms → Notes → Placement → ℕ → (Placement → ℤ) → Type 0
AreFound end s stakes noted p k value = (roll : Dice) (q : Placement) → IsRoll roll → Among q (legal_ends p roll)
    → IsFound end s noted (IsLeft (kind_at stakes k).next q) s.bound (λ u. worth end (kind_at stakes k) u q) (value q)

pub found-sum : (end : End) (s : Source) (stakes : Terms) (noted : Notes) (p : Placement) (k : ℕ) (value : Placement → ℤ) → pos 0 ≤ℤ s.bound → AreFound end s stakes noted p k value
    → IsFound end s noted (MayFollow stakes p k) (pos 36 *ℤ s.bound) (λ u. sum_over all_rolls (worth end (kind_at stakes k) u) p) (sum_over all_rolls value p)
found-sum end s stakes noted p k value positive found = record {
  within = (
      let negative : neg_ℤ s.bound ≤ℤ pos 0 = omega (arith, ints) in
      let low = sum-from value (neg_ℤ s.bound) negative p (λ roll q right m. (found roll q right m).within.from) all_rolls all_rolls-right in
      let high = sum-upto value s.bound positive p (λ roll q right m. (found roll q right m).within.to) all_rolls all_rolls-right in
      record { from = rw (total-all_rolls, times-neg) at low; to = rw total-all_rolls at high });
  floor = λ told. tight-sum end value (worth end (kind_at stakes k) s.floor) p (λ roll q right m. (found roll q right m).floor told);
  notes = λ told later tight. tight-sum end (worth end (kind_at stakes k) later) value p (λ roll q right m. (found roll q right m).notes told later tight);
  right = λ told q j h. (found h.roll h.end h.right (Contains-Among h.end (legal_ends p h.roll) (legal_ends-complete p h.roll h.end h.legal))).right told q j h.left;
}

-- ---- whether there is a value doesn't depend on the values

max-missing : (a b : Option ℤ) → or_max a b ≡ None → (a ≡ None) × (b ≡ None)
max-missing None None e = (refl, refl)
max-missing None (Some b) e = absurd (grind arith)
max-missing (Some a) None e = absurd (grind arith)
max-missing (Some a) (Some b) e = absurd (grind arith)

then-missing : (f g : Placement → Option ℤ) → ((q : Placement) → f q ≡ None → g q ≡ None) → (o : Option Placement) → then_value f o ≡ None → then_value g o ≡ None
then-missing f g h None e = refl
then-missing f g h (Some q) e = h q e

places-missing : (f g : Placement → Option ℤ) → ((q : Placement) → f q ≡ None → g q ≡ None) → (p : Placement) (die : ℕ) (all : List ℕ) → over_places f p die all ≡ None → over_places g p die all ≡ None
places-missing f g h p die [] e = refl
places-missing f g h p die (from ∷ rest) e =
    let r = max-missing (then_value f (after_move p die from)) (over_places f p die rest) e in
    rw (then-missing f g h (after_move p die from) r.0, places-missing f g h p die rest r.1) refl

pub best-missing : (f g : Placement → ℤ) (dice : List ℕ) (p : Placement) → best_over f dice p ≡ None → best_over g dice p ≡ None
unfolding best_over
best-missing f g [] p e = absurd (grind arith)
best-missing f g (die ∷ dice) p e = places-missing (best_over f dice) (best_over g dice) (λ q. best-missing f g dice q) p die places e
