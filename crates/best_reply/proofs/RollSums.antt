-- Sums over the rolls of a position, roll by roll.
use Rattle.std.proofs.Common.{◌≡◌, ◌≤◌, ◌<◌, ◌+◌, ◌*◌, ◌^◌, ◌∙◌, ℕ, zero, suc, ℤ, pos, ◌+ℤ◌, ◌*ℤ◌, List, [], ◌∷◌, length, map, take, get_or, refl, ap, sym, subst, add-one, arith}
use Rattle.std.proofs.lemmas.Int.{ints}
use Rattle.std.proofs.lemmas.List.{length-map, take_all}
use Rattle.position_rank.specs.Placement.{Placement}
use Rattle.roll_table.specs.Rolls.{Dice, IsRoll, all_rolls}
use Rattle.directed_fixed.specs.declared.bounds.End.TheVariants.{Lower, Upper}
use Rattle.directed_fixed.specs.Bounds.{Bounds, IsWithin, IsWithinUnits}
use Rattle.cube_actions.specs.Stakes.{Terms, kind_at}
use Rattle.turn_rule.specs.Turn.{Words, worth}
use Rattle.turn_rule.proofs.Greatest.{AreRolls, all_rolls-right, all_rolls-small, at_roll, length-all_rolls}
use Rattle.best_reply.specs.Policies.{Policy}
use Rattle.best_reply.specs.Replies.{sum_by}
use Rattle.best_reply.specs.Tables.{AreRollsKept, IsSmallSum, RollAt, follow_sum, weighted_kept}

-- over some rolls, the sum of a value of each, as often as it comes
abbrev weighted_sum : List (Dice × ℕ) → (Dice → ℤ) → ℤ
weighted_sum [] value = pos 0
weighted_sum (roll ∷ rolls) value = pos roll.1 *ℤ value roll.0 +ℤ weighted_sum rolls value

sum-of_plays : (rolls : List (Dice × ℕ)) (f : Placement → ℤ) (play : Dice → Placement) → weighted_sum rolls (λ roll. f (play roll)) ≡ sum_by rolls f play
sum-of_plays [] f play = refl
sum-of_plays (roll ∷ rolls) f play = ap (λ (z : ℤ). pos roll.1 *ℤ f (play roll.0) +ℤ z) (sum-of_plays rolls f play)

first_of : (a : ℤ) → a +ℤ pos 0 ≡ pos 0 +ℤ a
first_of a = omega (arith, ints)

regroup : (a b c d : ℤ) → d ≡ b +ℤ c → a +ℤ d ≡ (a +ℤ b) +ℤ c
regroup a b c d h = omega (arith, ints)

sum-next : (f : Dice → ℤ) (rolls : List (Dice × ℕ)) (i : ℕ) (roll : Dice × ℕ) → i < length rolls → roll ≡ get_or rolls i roll → weighted_sum (take (suc i) rolls) f ≡ weighted_sum (take i rolls) f +ℤ pos roll.1 *ℤ f roll.0
sum-next f [] i roll h e = absurd (omega arith)
sum-next f (first ∷ rest) zero roll h e = ap (λ (r : Dice × ℕ). pos r.1 *ℤ f r.0 +ℤ pos 0) (sym e) ∙ first_of (pos roll.1 *ℤ f roll.0)
sum-next f (first ∷ rest) (suc i) roll h e = regroup _ _ _ _ (sum-next f rest i roll (omega arith) e)

-- ---- the rolls of a position

kept-weight : (kept : List RollAt) (i : ℕ) (one : RollAt) → i < length kept → one ≡ get_or kept i one → weighted_kept one ≡ get_or (map weighted_kept kept) i (weighted_kept one)
kept-weight [] i one h e = absurd (omega arith)
kept-weight (k ∷ kept) zero one h e = ap weighted_kept e
kept-weight (k ∷ kept) (suc i) one h e = kept-weight kept i one (omega arith) e

pub kept-many : (p : Placement) (kept : List RollAt) → AreRollsKept p kept → length kept ≡ 21
kept-many p kept rolled = sym (length-map kept weighted_kept) ∙ (ap length rolled.rolls ∙ length-all_rolls)

pub record IsKept (p : Placement) (i : ℕ) (one : RollAt) : Type 0 where
  pub here : i < length all_rolls
  pub weight : weighted_kept one ≡ get_or all_rolls i (weighted_kept one)
  pub position : one.position ≡ p

pub kept-at : (p : Placement) (kept : List RollAt) (i : ℕ) (one : RollAt) → AreRollsKept p kept → i < length kept → one ≡ get_or kept i one → IsKept p i one
kept-at p kept i one rolled h e = record {
  here = omega (arith, h, kept-many p kept rolled, length-all_rolls);
  weight = subst (λ (xs : List (Dice × ℕ)). weighted_kept one ≡ get_or xs i (weighted_kept one)) rolled.rolls (kept-weight kept i one h e);
  position = ap (λ (at : RollAt). at.position) e ∙ rolled.position i one h;
}

-- ---- one of all rolls

roll-right : (rolls : List (Dice × ℕ)) (i : ℕ) (roll : Dice × ℕ) → AreRolls rolls → i < length rolls → roll ≡ get_or rolls i roll → IsRoll roll.0
roll-right [] i roll a h e = absurd (omega arith)
roll-right (r ∷ rolls) zero roll a h e = subst (λ (x : Dice × ℕ). IsRoll x.0) (sym e) a.0
roll-right (r ∷ rolls) (suc i) roll a h e = roll-right rolls i roll a.1 (omega arith) e

pub record IsRollAt (i : ℕ) (roll : Dice × ℕ) : Type 0 where
  pub here : i < length all_rolls
  pub is : roll ≡ get_or all_rolls i roll
  pub times : roll.1 ≤ 2
  pub right : IsRoll roll.0

pub all-at : (i : ℕ) (roll : Dice × ℕ) → i < length all_rolls → roll ≡ get_or all_rolls i roll → IsRollAt i roll
all-at i roll here is = record {
  here = here;
  is = is;
  times = all_rolls-small roll (at_roll all_rolls i roll here is);
  right = roll-right all_rolls i roll all_rolls-right here is;
}

-- ---- the sums over the first few rolls

pub record AreSums (value : Dice → Bounds) (i : ℕ) (sum : Bounds) : Type 0 where
  pub low : sum.lower ≡ weighted_sum (take i all_rolls) (λ roll. (value roll).lower)
  pub high : sum.upper ≡ weighted_sum (take i all_rolls) (λ roll. (value roll).upper)
  pub low_small : IsWithinUnits (pos (i * 2 ^ 37)) sum.lower
  pub high_small : IsWithinUnits (pos (i * 2 ^ 37)) sum.upper

pub no-sums : (value : Dice → Bounds) (zero_is : ℤ) → zero_is ≡ pos 0 → AreSums value 0 (record { lower = zero_is; upper = zero_is })
no-sums value zero_is is = rw is (record {
  low = refl;
  high = refl;
  low_small = record { from = omega (arith, ints); to = omega (arith, ints) };
  high_small = record { from = omega (arith, ints); to = omega (arith, ints) };
})

pub small-sums : (value : Dice → Bounds) (i : ℕ) (sum : Bounds) → i ≤ 21 → AreSums value i sum → IsSmallSum sum
small-sums value i sum few are = record {
  lower = record { from = omega (arith, ints, are.low_small.from); to = omega (arith, ints, are.low_small.to) };
  upper = record { from = omega (arith, ints, are.high_small.from); to = omega (arith, ints, are.high_small.to) };
}

twice : (times : ℕ) (z : ℤ) → times ≤ 2 → IsWithinUnits (pos (2 ^ 36)) z → IsWithinUnits (pos (2 ^ 37)) (pos times *ℤ z)
twice zero z few h = record { from = omega (arith, ints); to = omega (arith, ints) }
twice (suc zero) z few h = record { from = omega (arith, ints, h.from); to = omega (arith, ints, h.to) }
twice (suc (suc zero)) z few h = record { from = omega (arith, ints, h.from); to = omega (arith, ints, h.to) }
twice (suc (suc (suc n))) z few h = absurd (omega arith)

added-small : (i : ℕ) (x y z : ℤ) → z ≡ x +ℤ y → IsWithinUnits (pos (i * 2 ^ 37)) x → IsWithinUnits (pos (2 ^ 37)) y → IsWithinUnits (pos ((i + 1) * 2 ^ 37)) z
added-small i x y z is h k = record { from = omega (arith, ints, h.from, k.from); to = omega (arith, ints, h.to, k.to) }

both-units : (bound : ℤ) (pair : Bounds) → IsWithin bound pair → IsWithinUnits bound pair.lower × IsWithinUnits bound pair.upper
both-units bound pair h = (
  record { from = h.from; to = (let k = h.to in omega (arith, ints, h.in_order, k)) },
  record { from = (let k = h.from in omega (arith, ints, h.in_order, k)); to = h.to },
)

-- one roll more
pub more-sums : (value : Dice → Bounds) (i : ℕ) (roll : Dice × ℕ) (sum pair new : Bounds) → IsRollAt i roll → AreSums value i sum → pair ≡ value roll.0 → IsWithin (pos (2 ^ 36)) pair
    → new.lower ≡ sum.lower +ℤ pos roll.1 *ℤ pair.lower → new.upper ≡ sum.upper +ℤ pos roll.1 *ℤ pair.upper → AreSums value (i + 1) new
more-sums value i roll sum pair new at before is within lower upper =
    let ends = both-units (pos (2 ^ 36)) pair within in
    record {
      low = lower ∙ (ap (λ (z : ℤ). z +ℤ pos roll.1 *ℤ pair.lower) before.low ∙ (ap (λ (b : Bounds). weighted_sum (take i all_rolls) (λ roll. (value roll).lower) +ℤ pos roll.1 *ℤ b.lower) is
          ∙ (sym (sum-next (λ roll. (value roll).lower) all_rolls i roll at.here at.is) ∙ ap (λ (n : ℕ). weighted_sum (take n all_rolls) (λ roll. (value roll).lower)) (sym (add-one i)))));
      high = upper ∙ (ap (λ (z : ℤ). z +ℤ pos roll.1 *ℤ pair.upper) before.high ∙ (ap (λ (b : Bounds). weighted_sum (take i all_rolls) (λ roll. (value roll).upper) +ℤ pos roll.1 *ℤ b.upper) is
          ∙ (sym (sum-next (λ roll. (value roll).upper) all_rolls i roll at.here at.is) ∙ ap (λ (n : ℕ). weighted_sum (take n all_rolls) (λ roll. (value roll).upper)) (sym (add-one i)))));
      low_small = added-small i sum.lower (pos roll.1 *ℤ pair.lower) new.lower lower before.low_small (twice roll.1 pair.lower at.times ends.0);
      high_small = added-small i sum.upper (pos roll.1 *ℤ pair.upper) new.upper upper before.high_small (twice roll.1 pair.upper at.times ends.1);
    }

all-sums : (value : Dice → Bounds) (i : ℕ) (sum : Bounds) → length all_rolls ≤ i → AreSums value i sum → sum ≡ record { lower = weighted_sum all_rolls (λ roll. (value roll).lower); upper = weighted_sum all_rolls (λ roll. (value roll).upper) }
all-sums value i sum past are =
    let all = take_all i all_rolls past in
    let with_lower : ℤ → Bounds = λ z. record { lower = z; upper = sum.upper } in
    let with_upper : ℤ → Bounds = λ z. record { lower = weighted_sum all_rolls (λ roll. (value roll).lower); upper = z } in
    ap with_lower (are.low ∙ ap (λ (rolls : List (Dice × ℕ)). weighted_sum rolls (λ roll. (value roll).lower)) all)
    ∙ ap with_upper (are.high ∙ ap (λ (rolls : List (Dice × ℕ)). weighted_sum rolls (λ roll. (value roll).upper)) all)

module _ (stakes : Terms) (u : Words) (p : Placement) (k : ℕ) where
  -- what the policy's play of a roll leaves
  abbrev pub followed : Policy → Dice → Bounds
  followed policy roll = record { lower = worth Lower (kind_at stakes k) u (policy p k roll); upper = worth Upper (kind_at stakes k) u (policy p k roll) }

  pub all-followed : (policy : Policy) (i : ℕ) (sum : Bounds) → length all_rolls ≤ i → AreSums (followed policy) i sum → sum ≡ follow_sum policy stakes u p k
  all-followed policy i sum past are =
      all-sums (followed policy) i sum past are
      ∙ (ap (λ (z : ℤ). record { lower = z; upper = weighted_sum all_rolls (λ roll. (followed policy roll).upper) }) (sum-of_plays all_rolls (worth Lower (kind_at stakes k) u) (policy p k))
      ∙ ap (λ (z : ℤ). record { lower = sum_by all_rolls (worth Lower (kind_at stakes k) u) (policy p k); upper = z }) (sum-of_plays all_rolls (worth Upper (kind_at stakes k) u) (policy p k)))
