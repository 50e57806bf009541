-- What a race is worth before its turn, roll by roll.
use Rattle.std.proofs.Common.{◌≡◌, ◌≤◌, ◌<◌, ◌+◌, ◌*◌, ◌^◌, ℕ, zero, suc, max, ℤ, pos, neg_ℤ, ◌+ℤ◌, ◌*ℤ◌, ◌≤ℤ◌, List, [], ◌∷◌, length, map, take, get_or, sum, All, Option, Some, None, inl, inr, refl, ap, sym, subst, ◌∙◌, add-one, arith}
use Rattle.std.specs.List.{Contains}
use Rattle.std.proofs.lemmas.Bool.{cases_lt}
use Rattle.std.proofs.lemmas.Int.{ints}
use Rattle.std.proofs.lemmas.List.{length-map, take_all, get_or_past}
use Rattle.std.proofs.lemmas.List.Elements.{Contains-get_or}
use Rattle.position_rank.specs.Placement.{Placement, swap}
use Rattle.position_rank.specs.Ranks.{square_rank_of}
use Rattle.roll_table.specs.Rolls.{Dice, IsRoll, all_rolls}
use Rattle.move_rules.specs.Ends.{legal_ends}
use Rattle.move_rules.specs.Listing.{Among}
use Rattle.move_rules.proofs.EndsExact.{legal_ends-complete}
use Rattle.move_rules.proofs.Members.{Among-Contains, Contains-Among, Among-map}
use Rattle.move_rules.proofs.SomeEnd.{some_legal_end}
use Rattle.move_rules.proofs.StayLive.{legal_end-stays}
use Rattle.move_rules.specs.declared.payoff.Won.{Won}
use Rattle.move_rules.specs.Payoff.{points}
use Rattle.directed_fixed.specs.declared.bounds.End.TheVariants.{Lower, Upper}
use Rattle.directed_fixed.specs.Bounds.{Bounds, IsWithin, IsWithinUnits, negated}
use Rattle.directed_fixed.specs.Rounding.{floor_36, ceil_36}
use Rattle.cube_actions.specs.Money.{alone}
use Rattle.cube_actions.specs.Stakes.{no_kind, point_units}
use Rattle.turn_rule.specs.Turn.{if_won, greatest, sum_over, turn, win, worth}
use Rattle.turn_rule.proofs.Cubeless.{cubeless-valid}
use Rattle.turn_rule.proofs.Greatest.{at_roll, greatest-from, greatest-mono, greatest-same, greatest-upto, length-all_rolls, roll_at, all_rolls-right, AreRolls}
use Rattle.turn_rule.proofs.Integers.{mul_mono}
use Rattle.turn_rule.proofs.Within.{win-within}
use Rattle.race_table.specs.declared.free_plays.FreeRoll.{FreeRoll}
use Rattle.race_table.specs.declared.race.Race.{Race}
use Rattle.race_table.specs.FreePlays.{AreFreeRolls, HasFreeEnds, against, weighted_turns}
use Rattle.race_table.specs.Races.{IsRace}
use Rattle.race_table.specs.Tables.{IsSmallRace, race_after_play, best_race, race_at, turn_of, turns_in, unknown_race, race_bounds}
use Rattle.race_table.specs.TurnsLeft.{if_goes_on, left_after, most, most_over}
use Rattle.race_table.proofs.Bests.{race-is}
use Rattle.race_table.proofs.Left.{legal-of, most-same, most-upto}

-- ---- values stay small

three : pos 0 ≤ℤ point_units 3
three = omega (arith, ints)

pub unknown-small : IsSmallRace unknown_race
unknown-small = record { within = record { from = omega (arith, ints); in_order = omega (arith, ints); to = omega (arith, ints) }; few = omega arith }

at-small : (races : List Race) → All IsSmallRace races → (p : Placement) → IsSmallRace (race_at races p)
at-small races small p = elim (cases_lt (square_rank_of p) (length races)) [
  | inl inside ↦ small (square_rank_of p) unknown_race inside
  | inr past ↦ rw (get_or_past races (square_rank_of p) unknown_race past) unknown-small
]

negated-within : (bound : ℤ) (pair : Bounds) → IsWithin bound pair → IsWithin bound (negated pair)
negated-within bound pair h = record { from = omega (arith, ints, h.to); in_order = omega (arith, ints, h.in_order); to = omega (arith, ints, h.from) }

after-small : (races : List Race) → All IsSmallRace races → (q : Placement) → IsSmallRace (race_after_play races q)
after-small races small q = by_points (points q) where
  later : Race
  later = race_at races (swap q)

  by_points : (o : Option Won) → IsSmallRace (record { pair = record { lower = if_won o (λ won. (win alone won).lower) (neg_ℤ later.pair.upper); upper = if_won o (λ won. (win alone won).upper) (neg_ℤ later.pair.lower) }; turns = if_goes_on o later.turns })
  by_points None = let s = at-small races small (swap q) in record { within = negated-within (point_units 3) later.pair s.within; few = s.few }
  by_points (Some won) = record { within = win-within (point_units 3) alone three (cubeless-valid.kinds 0 no_kind (omega arith)).wins won; few = omega arith }

pub best-small : (races : List Race) → All IsSmallRace races → (qs : List Placement) → IsSmallRace (best_race races qs)
best-small races small qs =
    let each = after-small races small in
    record {
      within = record {
        from = greatest-from (worth Lower alone (race_bounds races)) (neg_ℤ (point_units 3)) (omega (arith, ints)) qs (λ q m. (each q).within.from);
        in_order = greatest-mono (worth Lower alone (race_bounds races)) (worth Upper alone (race_bounds races)) qs (λ q m. (each q).within.in_order);
        to = greatest-upto (worth Upper alone (race_bounds races)) (point_units 3) three qs (λ q m. (each q).within.to);
      };
      few = most-upto (left_after (turns_in races)) 150 qs (λ q m. (each q).few);
    }

-- ---- the rolls of a race

kept-weight : (kept : List FreeRoll) (i : ℕ) (one : FreeRoll) → i < length kept → one ≡ get_or kept i one → weighted_turns one ≡ get_or (map weighted_turns kept) i (weighted_turns one)
kept-weight [] i one h e = absurd (omega arith)
kept-weight (k ∷ kept) zero one h e = ap weighted_turns e
kept-weight (k ∷ kept) (suc i) one h e = kept-weight kept i one (omega arith) e

right_among : (rolls : List (Dice × ℕ)) → AreRolls rolls → (roll : Dice × ℕ) → Among roll rolls → IsRoll roll.0
right_among [] right roll m = absurd m
right_among (r ∷ rolls) right roll (inl e) = subst (λ (x : Dice × ℕ). IsRoll x.0) (sym e) right.0
right_among (r ∷ rolls) right roll (inr m) = right_among rolls right.1 roll m

pub record IsKept (mover : List ℕ) (i : ℕ) (one : FreeRoll) : Type 0 where
  pub here : i < length all_rolls
  pub weight : weighted_turns one ≡ get_or all_rolls i (weighted_turns one)
  pub right : IsRoll one.roll
  pub times : one.times ≤ 2
  pub ends : HasFreeEnds mover one

kept-many : (mover : List ℕ) (kept : List FreeRoll) → AreFreeRolls mover kept → length kept ≡ 21
kept-many mover kept free = sym (length-map kept weighted_turns) ∙ (ap length free.rolls ∙ length-all_rolls)

pub kept-end : (mover : List ℕ) (kept : List FreeRoll) (i : ℕ) → AreFreeRolls mover kept → length kept ≤ i → length all_rolls ≤ i
kept-end mover kept i free h = omega (arith, h, kept-many mover kept free, length-all_rolls)

pub kept-few : (mover : List ℕ) (kept : List FreeRoll) (i : ℕ) → AreFreeRolls mover kept → i ≤ length kept → i ≤ 21
kept-few mover kept i free h = omega (arith, h, kept-many mover kept free)

pub kept-at : (mover : List ℕ) (kept : List FreeRoll) (i : ℕ) (one : FreeRoll) → AreFreeRolls mover kept → i < length kept → one ≡ get_or kept i one → IsKept mover i one
kept-at mover kept i one free h e =
    let weight : weighted_turns one ≡ get_or all_rolls i (weighted_turns one) = subst (λ (xs : List (Dice × ℕ)). weighted_turns one ≡ get_or xs i (weighted_turns one)) free.rolls (kept-weight kept i one h e) in
    let roll = roll_at all_rolls i (weighted_turns one) refl (omega (arith, h, kept-many mover kept free)) weight in
    record {
      here = roll.0;
      weight = weight;
      right = right_among all_rolls all_rolls-right (weighted_turns one) (at_roll all_rolls i (weighted_turns one) roll.0 weight);
      times = roll.2;
      ends = subst (HasFreeEnds mover) (sym e) (free.ends i one h);
    }

module _ (p : Placement) (race : IsRace p) (i : ℕ) (one : FreeRoll) (kept : IsKept p.mover i one) where
  to_legal : (q : Placement) → Among q (map (against p.other) one.ends.items) → Among q (legal_ends p one.roll)
  to_legal q m = Contains-Among q _ (legal_ends-complete p one.roll q ((kept.ends p.other race q).0 (Among-Contains q _ m)))

  of_legal : (q : Placement) → Among q (legal_ends p one.roll) → Among q (map (against p.other) one.ends.items)
  of_legal q m = Contains-Among q _ ((kept.ends p.other race q).1 (legal-of p one.roll q m))

  pub ends-some : 0 < length one.ends.items
  ends-some =
      let some = some_legal_end p one.roll in
      let there = (kept.ends p.other race some.0).1 some.1 in
      omega (arith, there.1, length-map one.ends.items (against p.other))

  pub ends-same : All (λ (left : List ℕ). sum left ≡ sum p.other) one.ends.items
  ends-same k none below =
      let left = get_or one.ends.items k none in
      let there : Contains (map (against p.other) one.ends.items) (against p.other left) = Among-Contains _ _ (Among-map (against p.other) left one.ends.items (Contains-Among left one.ends.items (Contains-get_or one.ends.items k none below))) in
      let legal = (kept.ends p.other race (against p.other left)).0 there in
      (legal_end-stays p one.roll (against p.other left) kept.right race.position race.live legal).1 ∙ race.position.same

  -- what the best of these plays leaves is what the best of the legal ones does
  pub best-legal : (races : List Race) → best_race races (map (against p.other) one.ends.items) ≡ best_race races (legal_ends p one.roll)
  best-legal races = race-is _ _ _ _ _ _ (greatest-same _ _ _ to_legal of_legal) (greatest-same _ _ _ to_legal of_legal) (most-same _ _ _ to_legal of_legal)

-- ---- sums

first_of : (a : ℤ) → a +ℤ pos 0 ≡ pos 0 +ℤ a
first_of a = omega (arith, ints)

regroup : (a b c d : ℤ) → d ≡ b +ℤ c → a +ℤ d ≡ (a +ℤ b) +ℤ c
regroup a b c d h = omega (arith, ints)

sum-next : (f : Placement → ℤ) (p : Placement) (rolls : List (Dice × ℕ)) (i : ℕ) (roll : Dice × ℕ) → i < length rolls → roll ≡ get_or rolls i roll → sum_over (take (suc i) rolls) f p ≡ sum_over (take i rolls) f p +ℤ pos roll.1 *ℤ greatest f (legal_ends p roll.0)
sum-next f p [] i roll h e = absurd (omega arith)
sum-next f p (first ∷ rest) zero roll h e = ap (λ (r : Dice × ℕ). pos r.1 *ℤ greatest f (legal_ends p r.0) +ℤ pos 0) (sym e) ∙ first_of (pos roll.1 *ℤ greatest f (legal_ends p roll.0))
sum-next f p (first ∷ rest) (suc i) roll h e = regroup _ _ _ _ (sum-next f p rest i roll (omega arith) e)

over-next : (f : Placement → ℕ) (p : Placement) (rolls : List (Dice × ℕ)) (i : ℕ) (roll : Dice × ℕ) → i < length rolls → roll ≡ get_or rolls i roll → most_over (take (suc i) rolls) f p ≡ max (most_over (take i rolls) f p) (most f (legal_ends p roll.0))
over-next f p [] i roll h e = absurd (omega arith)
over-next f p (first ∷ rest) zero roll h e = omega (arith, ap (λ (r : Dice × ℕ). most f (legal_ends p r.0)) e)
over-next f p (first ∷ rest) (suc i) roll h e = omega (arith, over-next f p rest i roll (omega arith) e)

-- the sums and the most turns over the first few rolls
pub record AreSums (races : List Race) (p : Placement) (i : ℕ) (lower upper : ℤ) (turns : ℕ) : Type 0 where
  pub low : lower ≡ sum_over (take i all_rolls) (worth Lower alone (race_bounds races)) p
  pub high : upper ≡ sum_over (take i all_rolls) (worth Upper alone (race_bounds races)) p
  pub low_small : IsWithinUnits (pos (i * 2 ^ 35)) lower
  pub high_small : IsWithinUnits (pos (i * 2 ^ 35)) upper
  pub in_order : lower ≤ℤ upper
  pub most : turns ≡ most_over (take i all_rolls) (left_after (turns_in races)) p
  pub few : turns ≤ 150

pub no-sums : (races : List Race) (p : Placement) → AreSums races p 0 (pos 0) (pos 0) 0
no-sums races p = record {
  low = refl;
  high = refl;
  low_small = record { from = omega (arith, ints); to = omega (arith, ints) };
  high_small = record { from = omega (arith, ints); to = omega (arith, ints) };
  in_order = omega (arith, ints);
  most = refl;
  few = omega arith;
}

-- no more than 2 ^ 42 units
pub sum-small : (i : ℕ) (z : ℤ) → i ≤ 21 → IsWithinUnits (pos (i * 2 ^ 35)) z → IsWithinUnits (pos (2 ^ 42)) z
sum-small i z few small = record { from = omega (arith, ints, small.from); to = omega (arith, ints, small.to) }

pub value-small : (z : ℤ) → neg_ℤ (point_units 3) ≤ℤ z → z ≤ℤ point_units 3 → IsWithinUnits (pos (2 ^ 36)) z
value-small z low high = record { from = omega (arith, ints); to = omega (arith, ints) }

twice : (times : ℕ) (z : ℤ) → times ≤ 2 → neg_ℤ (point_units 3) ≤ℤ z → z ≤ℤ point_units 3 → IsWithinUnits (pos (2 ^ 35)) (pos times *ℤ z)
twice zero z few low high = record { from = omega (arith, ints); to = omega (arith, ints) }
twice (suc zero) z few low high = record { from = omega (arith, ints); to = omega (arith, ints) }
twice (suc (suc zero)) z few low high = record { from = omega (arith, ints); to = omega (arith, ints) }
twice (suc (suc (suc n))) z few low high = absurd (omega arith)

added-small : (i : ℕ) (x y z : ℤ) → z ≡ x +ℤ y → IsWithinUnits (pos (i * 2 ^ 35)) x → IsWithinUnits (pos (2 ^ 35)) y → IsWithinUnits (pos ((i + 1) * 2 ^ 35)) z
added-small i x y z is h k = record { from = omega (arith, ints, h.from, k.from); to = omega (arith, ints, h.to, k.to) }

added-order : (a b c d x y : ℤ) → a ≤ℤ b → c ≤ℤ d → x ≡ a +ℤ c → y ≡ b +ℤ d → x ≤ℤ y
added-order a b c d x y h k is also = omega (arith, ints)

module _ (races : List Race) (small : All IsSmallRace races) (p : Placement) (race : IsRace p) (i : ℕ) (one : FreeRoll) (kept : IsKept p.mover i one) where
  -- one roll more
  pub sums-more : (lower upper lower' upper' : ℤ) (turns turns' : ℕ) (best : Race) → AreSums races p i lower upper turns → best ≡ best_race races (map (against p.other) one.ends.items)
      → lower' ≡ lower +ℤ pos one.times *ℤ best.pair.lower → upper' ≡ upper +ℤ pos one.times *ℤ best.pair.upper → turns' ≡ max turns best.turns → AreSums races p (i + 1) lower' upper' turns'
  sums-more lower upper lower' upper' turns turns' best before is low high most =
      let legal = is ∙ best-legal p race i one kept races in
      let fits : IsSmallRace best = subst IsSmallRace (sym legal) (best-small races small (legal_ends p one.roll)) in
      let low_is = ap (λ (r : Race). pos one.times *ℤ r.pair.lower) legal in
      let high_is = ap (λ (r : Race). pos one.times *ℤ r.pair.upper) legal in
      let turns_are = ap (λ (r : Race). r.turns) legal in
      let f = worth Lower alone (race_bounds races) in
      let g = worth Upper alone (race_bounds races) in
      let h = left_after (turns_in races) in
      record {
        low = low ∙ (ap (λ (z : ℤ). z +ℤ pos one.times *ℤ best.pair.lower) before.low ∙ (ap (λ (z : ℤ). sum_over (take i all_rolls) f p +ℤ z) low_is ∙ (sym (sum-next f p all_rolls i (weighted_turns one) kept.here kept.weight) ∙ ap (λ (n : ℕ). sum_over (take n all_rolls) f p) (sym (add-one i)))));
        high = high ∙ (ap (λ (z : ℤ). z +ℤ pos one.times *ℤ best.pair.upper) before.high ∙ (ap (λ (z : ℤ). sum_over (take i all_rolls) g p +ℤ z) high_is ∙ (sym (sum-next g p all_rolls i (weighted_turns one) kept.here kept.weight) ∙ ap (λ (n : ℕ). sum_over (take n all_rolls) g p) (sym (add-one i)))));
        low_small = added-small i lower _ lower' low before.low_small (twice one.times best.pair.lower kept.times fits.within.from (let h = fits.within.to in omega (arith, ints, fits.within.in_order, h)));
        high_small = added-small i upper _ upper' high before.high_small (twice one.times best.pair.upper kept.times (let h = fits.within.from in omega (arith, ints, fits.within.in_order, h)) fits.within.to);
        in_order = added-order lower upper _ _ lower' upper' before.in_order (mul_mono one.times _ _ fits.within.in_order) low high;
        most = most ∙ (ap (λ (n : ℕ). max n best.turns) before.most ∙ (ap (λ (n : ℕ). max (most_over (take i all_rolls) h p) n) turns_are ∙ (sym (over-next h p all_rolls i (weighted_turns one) kept.here kept.weight) ∙ ap (λ (n : ℕ). most_over (take n all_rolls) h p) (sym (add-one i)))));
        few = omega (arith, most, before.few, fits.few);
      }

once : (x : ℤ) → pos 1 *ℤ x ≡ x
once x = omega (arith, ints)

-- after all rolls
pub all-sums : (races : List Race) (p : Placement) (i : ℕ) (lower upper : ℤ) (turns : ℕ) → length all_rolls ≤ i → AreSums races p i lower upper turns → ◌≡◌ {A = Race} (record { pair = record { lower = floor_36 lower; upper = ceil_36 upper }; turns = 1 + turns }) (turn_of races p)
unfolding turn
all-sums races p i lower upper turns past sums =
    let all = take_all i all_rolls past in
    let f = worth Lower alone (race_bounds races) in
    let g = worth Upper alone (race_bounds races) in
    let low : lower ≡ pos 1 *ℤ sum_over all_rolls f p = sums.low ∙ (ap (λ (rolls : List (Dice × ℕ)). sum_over rolls f p) all ∙ sym (once (sum_over all_rolls f p))) in
    let high : upper ≡ pos 1 *ℤ sum_over all_rolls g p = sums.high ∙ (ap (λ (rolls : List (Dice × ℕ)). sum_over rolls g p) all ∙ sym (once (sum_over all_rolls g p))) in
    let most = sums.most ∙ ap (λ (rolls : List (Dice × ℕ)). most_over rolls (left_after (turns_in races)) p) all in
    race-is _ _ _ _ _ _ (ap floor_36 low) (ap ceil_36 high) (ap (λ (n : ℕ). 1 + n) most)
