-- Words that bound fractions: at either end of a pair, what bounds the parts bounds the whole.
use Rattle.std.proofs.Common.{ℕ, ℤ, pos, neg_ℤ, ◌*ℤ◌, ◌*◌, ◌^◌, List, map}
use Rattle.std.specs.Int.{int_max}
use Rattle.position_rank.specs.Placement.{Placement}
use Rattle.roll_table.specs.Rolls.{Dice, IsRoll, all_rolls}
use Rattle.move_rules.specs.Ends.{legal_ends}
use Rattle.move_rules.specs.Listing.{Among}
use Rattle.directed_fixed.specs.declared.bounds.End.{End}
use Rattle.directed_fixed.specs.declared.bounds.End.TheVariants.{Lower, Upper}
use Rattle.directed_fixed.specs.Bounds.{Bounds, IsNoLooser, other, at}
use Rattle.directed_fixed.specs.Rounding.{outwards}
use Rattle.turn_rule.specs.Turn.{sum_over, least}
use Rattle.turn_rule.specs.Truth.{IsBoundOf, Encloses}
use Rattle.turn_rule.proofs.Integers.{le_trans, mul_mono}
use Rattle.turn_rule.proofs.Greatest.{all_rolls-right}
use Rattle.turn_rule.proofs.Scaled.{max-scaled, least-scaled, sum-scaled, neg-scaled, times-scaled, over-scaled, under-scaled, floor-scaled, ceil-scaled}

pub bound-at : (end : End) (pair : Bounds) (x : ℤ) (over : ℕ) → Encloses pair x over → IsBoundOf end (at end pair) x over
bound-at Lower pair x over h = h.lower
bound-at Upper pair x over h = h.upper

-- a looser word is a bound too
pub bound-looser : (end : End) (a b x : ℤ) (over : ℕ) → IsNoLooser end a b → IsBoundOf end a x over → IsBoundOf end b x over
bound-looser Lower a b x over tight h = le_trans _ _ _ (mul_mono over _ _ tight) h
bound-looser Upper a b x over tight h = le_trans _ _ _ h (mul_mono over _ _ tight)

pub bound-max : (end : End) (a b x y : ℤ) (over : ℕ) → IsBoundOf end a x over → IsBoundOf end b y over → IsBoundOf end (int_max a b) (int_max x y) over
bound-max Lower a b x y over h k = max-scaled over (2 ^ 32) a b x y h k
bound-max Upper a b x y over h k = max-scaled (2 ^ 32) over x y a b h k

pub bound-least : (X : Type 0) (end : End) (f g : X → ℤ) (v w : ℤ) (xs : List X) (over : ℕ) → IsBoundOf end v w over → ((x : X) → Among x xs → IsBoundOf end (f x) (g x) over) → IsBoundOf end (least v (map f xs)) (least w (map g xs)) over
bound-least X Lower f g v w xs over h k = least-scaled X over (2 ^ 32) f g v w xs h k
bound-least X Upper f g v w xs over h k = least-scaled X (2 ^ 32) over g f w v xs h k

pub bound-sum : (end : End) (f g : Placement → ℤ) (p : Placement) (over : ℕ) → ((roll : Dice) (q : Placement) → IsRoll roll → Among q (legal_ends p roll) → IsBoundOf end (f q) (g q) over) → IsBoundOf end (sum_over all_rolls f p) (sum_over all_rolls g p) over
bound-sum Lower f g p over h = sum-scaled over (2 ^ 32) f g p h all_rolls all_rolls-right
bound-sum Upper f g p over h = sum-scaled (2 ^ 32) over g f p h all_rolls all_rolls-right

-- what one side has the other hasn't
pub bound-neg : (end : End) (a x : ℤ) (over : ℕ) → IsBoundOf (other end) a x over → IsBoundOf end (neg_ℤ a) (neg_ℤ x) over
bound-neg Lower a x over h = neg-scaled over (2 ^ 32) a x h
bound-neg Upper a x over h = neg-scaled (2 ^ 32) over x a h

pub bound-times : (end : End) (n : ℕ) (a x : ℤ) (over : ℕ) → IsBoundOf end a x over → IsBoundOf end (pos n *ℤ a) (pos n *ℤ x) over
bound-times Lower n a x over h = times-scaled n over (2 ^ 32) a x h
bound-times Upper n a x over h = times-scaled n (2 ^ 32) over x a h

-- the same fraction, both its numbers so many times as great
pub bound-over : (end : End) (n : ℕ) (a x : ℤ) (over : ℕ) → IsBoundOf end a x over → IsBoundOf end a (pos n *ℤ x) (over * n)
bound-over Lower n a x over h = over-scaled n over (2 ^ 32) a x h
bound-over Upper n a x over h = under-scaled n over (2 ^ 32) a x h

-- a 36th of a bound, rounded outwards
pub bound-outwards : (end : End) (a x : ℤ) (over : ℕ) → IsBoundOf end a x over → IsBoundOf end (outwards end a) x (36 * over)
bound-outwards Lower a x over h = floor-scaled over (2 ^ 32) a x h
bound-outwards Upper a x over h = ceil-scaled over (2 ^ 32) a x h
