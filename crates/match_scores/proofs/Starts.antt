-- What the near side has of a game, over words: its ends are in order, tighter words give a tighter pair, and words that enclose give an enclosing one.
use Rattle.std.proofs.Common.{◌≡◌, ◌<◌, ◌≤◌, ◌*◌, ◌^◌, ◌∙◌, ℕ, ℤ, pos, negsuc, neg_ℤ, ◌+ℤ◌, ◌-ℤ◌, ◌*ℤ◌, ◌≤ℤ◌, ◌<ℤ◌, ap, sym, arith}
use Rattle.std.proofs.lemmas.Int.{ints}
use Rattle.std.proofs.Math.Nat.{mul_comm}
use Rattle.position_rank.specs.Placement.{Placement, swap}
use Rattle.position_rank.specs.Packed.{start_placement}
use Rattle.directed_fixed.specs.declared.bounds.End.{End}
use Rattle.directed_fixed.specs.declared.bounds.End.TheVariants.{Lower, Upper}
use Rattle.directed_fixed.specs.Bounds.{AreNoLooserPairs, IsNoLooser, other}
use Rattle.cube_actions.specs.declared.side.Side.{Side}
use Rattle.cube_actions.specs.declared.side.Side.TheVariants.{Near, Far}
use Rattle.cube_actions.specs.Scores.{MatchScore, other_side}
use Rattle.turn_rule.specs.Turn.{Words}
use Rattle.turn_rule.specs.Exact.{Values}
use Rattle.turn_rule.specs.States.{IsStateOf, AreNoLooserOf, pair_of}
use Rattle.turn_rule.specs.Truth.{IsBoundOf, Encloses}
use Rattle.turn_rule.proofs.Integers.{le_trans, mul_mono, add_mono, neg_le, distribute, regroup}
use Rattle.turn_rule.proofs.Fractions.{bound-neg}
use Rattle.match_scores.specs.Openings.{openings, centred_in, opening_worth, opened_by, thirty_starts, directed_thirty, floor_30, ceil_30, outwards_30, start_at, start_over}
use Rattle.match_scores.proofs.OpeningSums.{GoOn, each-end, rolls-mono, rolls-scaled}

-- ---- 30ths

floor_30_below : (z : ℤ) → (pos 30 *ℤ floor_30 z) ≤ℤ z
floor_30_below (pos n) = omega (arith, ints)
floor_30_below (negsuc n) = omega (arith, ints)

floor_30_above : (z : ℤ) → z <ℤ (pos 30 *ℤ floor_30 z +ℤ pos 30)
floor_30_above (pos n) = omega (arith, ints)
floor_30_above (negsuc n) = omega (arith, ints)

floor_30_mono : (a b : ℤ) → a ≤ℤ b → floor_30 a ≤ℤ floor_30 b
floor_30_mono a b h = omega (arith, ints, floor_30_below a, floor_30_above b)

floor-below-ceil : (a b : ℤ) → a ≤ℤ b → floor_30 a ≤ℤ ceil_30 b
floor-below-ceil a b h = omega (arith, ints, floor_30_below a, floor_30_below (neg_ℤ b))

tight-outwards : (end : End) (a b : ℤ) → IsNoLooser end a b → IsNoLooser end (outwards_30 end a) (outwards_30 end b)
tight-outwards Lower a b h = floor_30_mono b a h
tight-outwards Upper a b h = neg_le _ _ (floor_30_mono _ _ (neg_le _ _ h))

swapped : (c : ℕ) (a : ℤ) → pos 30 *ℤ (pos c *ℤ a) ≡ pos c *ℤ (pos 30 *ℤ a)
swapped c a = regroup 30 c a ∙ ap (λ (n : ℕ). pos n *ℤ a) (mul_comm 30 c) ∙ sym (regroup c 30 a)

ceil_30_above : (z : ℤ) → z ≤ℤ (pos 30 *ℤ ceil_30 z)
ceil_30_above z = omega (arith, ints, floor_30_below (neg_ℤ z))

-- a 30th of a bound, rounded outwards, is a bound over 30 times as much
bound-outwards : (end : End) (a x : ℤ) (over : ℕ) → IsBoundOf end a x over → IsBoundOf end (outwards_30 end a) x (30 * over)
bound-outwards Lower a x over h = le_trans _ _ _ (rw (sym (regroup 30 over (floor_30 a)), swapped over (floor_30 a)) (mul_mono over _ _ (floor_30_below a))) h
bound-outwards Upper a x over h = le_trans _ _ _ h (rw (sym (regroup 30 over (ceil_30 a)), swapped over (ceil_30 a)) (mul_mono over _ _ (ceil_30_above a)))

-- ---- differences

minus : (a b : ℤ) → a -ℤ b ≡ a +ℤ neg_ℤ b
minus a b = omega (arith, ints)

sub_mono : (a b c d : ℤ) → a ≤ℤ c → d ≤ℤ b → (a -ℤ b) ≤ℤ (c -ℤ d)
sub_mono a b c d h k = omega (arith, ints)

tight-sub : (end : End) (a b c d : ℤ) → IsNoLooser end a c → IsNoLooser (other end) b d → IsNoLooser end (a -ℤ b) (c -ℤ d)
tight-sub Lower a b c d h k = sub_mono c d a b h k
tight-sub Upper a b c d h k = sub_mono a b c d h k

plus-bound : (end : End) (a b x y : ℤ) (over : ℕ) → IsBoundOf end a x over → IsBoundOf end b y over → IsBoundOf end (a +ℤ b) (x +ℤ y) over
plus-bound Lower a b x y over h k = rw (distribute over a b, distribute (2 ^ 32) x y) (add_mono _ _ _ _ h k)
plus-bound Upper a b x y over h k = rw (distribute over a b, distribute (2 ^ 32) x y) (add_mono _ _ _ _ h k)

bound-sub : (end : End) (a b x y : ℤ) (over : ℕ) → IsBoundOf end a x over → IsBoundOf (other end) b y over → IsBoundOf end (a -ℤ b) (x -ℤ y) over
bound-sub end a b x y over h k = rw (minus a b, minus x y) (plus-bound end a (neg_ℤ b) x (neg_ℤ y) over h (bound-neg end b y over k))

-- each word of an enclosing pair is a bound
pub both-ends : (end : End) (u : Words) (values : Values) (over : ℕ) (p : Placement) (k : ℕ) → Encloses (pair_of u p k) (values p k) over → IsBoundOf end (u end p k) (values p k) over
both-ends Lower u values over p k h = h.lower
both-ends Upper u values over p k h = h.upper

-- ---- openings

module _ (goes : GoOn) (checkers kinds : ℕ) (low : 1 ≤ checkers) (high : checkers ≤ 3) (score : MatchScore) (inside : (side : Side) → centred_in score side < kinds) where
  -- words that are at least as tight where the other side rolls next
  opened-mono : (side : Side) (v w : Values) → ((p : Placement) (k : ℕ) → IsStateOf checkers kinds p k → w p k ≤ℤ v p k) → opened_by side checkers v score ≤ℤ opened_by side checkers w score
  opened-mono side v w words =
      rolls-mono (opening_worth v score side) (opening_worth w score side) (start_placement checkers) openings
      (each-end goes checkers kinds low high (centred_in score (other_side side)) (inside (other_side side)) (λ q. opening_worth v score side q ≤ℤ opening_worth w score side q) (λ q state. neg_le _ _ (words (swap q) _ state)))

  opened-bound : (side : Side) (end : End) (u : Words) (values : Values) (over : ℕ) → ((p : Placement) (k : ℕ) → IsStateOf checkers kinds p k → IsBoundOf (other end) (u (other end) p k) (values p k) over) → IsBoundOf end (opened_by side checkers (u (other end)) score) (opened_by side checkers values score) over
  opened-bound side Lower u values over words =
      rolls-scaled over (2 ^ 32) (opening_worth (u Upper) score side) (opening_worth values score side) (start_placement checkers) openings
      (each-end goes checkers kinds low high (centred_in score (other_side side)) (inside (other_side side)) (λ q. IsBoundOf Lower (opening_worth (u Upper) score side q) (opening_worth values score side q) over) (λ q state. bound-neg Lower (u Upper (swap q) (centred_in score (other_side side))) (values (swap q) (centred_in score (other_side side))) over (words (swap q) _ state)))
  opened-bound side Upper u values over words =
      rolls-scaled (2 ^ 32) over (opening_worth values score side) (opening_worth (u Lower) score side) (start_placement checkers) openings
      (each-end goes checkers kinds low high (centred_in score (other_side side)) (inside (other_side side)) (λ q. IsBoundOf Upper (opening_worth (u Lower) score side q) (opening_worth values score side q) over) (λ q state. bound-neg Upper (u Lower (swap q) (centred_in score (other_side side))) (values (swap q) (centred_in score (other_side side))) over (words (swap q) _ state)))

  -- over words in order the lower end is at most the upper end
  pub start-in_order : (u : Words) → ((p : Placement) (k : ℕ) → IsStateOf checkers kinds p k → u Lower p k ≤ℤ u Upper p k) → start_at Lower checkers u score ≤ℤ start_at Upper checkers u score
  start-in_order u words = floor-below-ceil _ _ (sub_mono _ _ _ _ (opened-mono Near (u Upper) (u Lower) words) (opened-mono Far (u Upper) (u Lower) words))

  -- tighter words give a tighter pair
  pub start-tighter : (u v : Words) → AreNoLooserOf checkers kinds u v → AreNoLooserPairs (start_over checkers u score) (start_over checkers v score)
  start-tighter u v tight = record {
    lower = tight-outwards Lower _ _ (tight-sub Lower _ _ _ _ (opened-mono Near (v Upper) (u Upper) (tight Upper)) (opened-mono Far (u Lower) (v Lower) (tight Lower)));
    upper = tight-outwards Upper _ _ (tight-sub Upper _ _ _ _ (opened-mono Near (u Lower) (v Lower) (tight Lower)) (opened-mono Far (v Upper) (u Upper) (tight Upper)));
  }

  -- words that enclose values give a pair that encloses what the near side has of the game with these values
  pub start-encloses : (u : Words) (values : Values) (over : ℕ) → ((end : End) (p : Placement) (k : ℕ) → IsStateOf checkers kinds p k → IsBoundOf end (u end p k) (values p k) over) → Encloses (start_over checkers u score) (thirty_starts checkers values score) (30 * over)
  start-encloses u values over words =
      let near = opened_by Near checkers values score in
      let far = opened_by Far checkers values score in
      record {
        lower = bound-outwards Lower (directed_thirty Lower checkers u score) (thirty_starts checkers values score) over
            (bound-sub Lower (opened_by Near checkers (u Upper) score) (opened_by Far checkers (u Lower) score) near far over (opened-bound Near Lower u values over (words Upper)) (opened-bound Far Upper u values over (words Lower)));
        upper = bound-outwards Upper (directed_thirty Upper checkers u score) (thirty_starts checkers values score) over
            (bound-sub Upper (opened_by Near checkers (u Lower) score) (opened_by Far checkers (u Upper) score) near far over (opened-bound Near Upper u values over (words Lower)) (opened-bound Far Lower u values over (words Upper)));
      }
