-- Words that are at least as tight as others: at either end of a pair, tighter parts make a tighter whole.
use Rattle.std.proofs.Common.{ℕ, ℤ, pos, neg_ℤ, ◌*ℤ◌, List, map}
use Rattle.std.specs.Int.{int_max}
use Rattle.position_rank.specs.Placement.{Placement}
use Rattle.roll_table.specs.Rolls.{Dice, IsRoll, all_rolls}
use Rattle.move_rules.specs.Ends.{legal_ends}
use Rattle.move_rules.specs.Listing.{Among}
use Rattle.directed_fixed.specs.declared.bounds.End.{End}
use Rattle.directed_fixed.specs.declared.bounds.End.TheVariants.{Lower, Upper}
use Rattle.directed_fixed.specs.Bounds.{Bounds, IsNoLooser, AreNoLooserPairs, other, at}
use Rattle.directed_fixed.specs.Rounding.{outwards}
use Rattle.turn_rule.specs.Turn.{sum_over, least}
use Rattle.turn_rule.proofs.Integers.{neg_le, max_mono, mul_mono, floor_36_mono, ceil_36_mono}
use Rattle.turn_rule.proofs.Greatest.{sum-mono, all_rolls-right}
use Rattle.turn_rule.proofs.Within.{least-mono}

pub tight-at : (end : End) (a b : Bounds) → AreNoLooserPairs a b → IsNoLooser end (at end a) (at end b)
tight-at Lower a b h = h.lower
tight-at Upper a b h = h.upper

-- what one side has the other hasn't
pub tight-neg : (end : End) (a b : ℤ) → IsNoLooser (other end) a b → IsNoLooser end (neg_ℤ a) (neg_ℤ b)
tight-neg Lower a b h = neg_le a b h
tight-neg Upper a b h = neg_le b a h

pub tight-max : (end : End) (a b c d : ℤ) → IsNoLooser end a c → IsNoLooser end b d → IsNoLooser end (int_max a b) (int_max c d)
tight-max Lower a b c d h k = max_mono c d a b h k
tight-max Upper a b c d h k = max_mono a b c d h k

pub tight-least : (X : Type 0) (end : End) (f g : X → ℤ) (v w : ℤ) (xs : List X) → IsNoLooser end v w → ((x : X) → Among x xs → IsNoLooser end (f x) (g x)) → IsNoLooser end (least v (map f xs)) (least w (map g xs))
tight-least X Lower f g v w xs h k = least-mono X g f w v xs h k
tight-least X Upper f g v w xs h k = least-mono X f g v w xs h k

pub tight-sum : (end : End) (f g : Placement → ℤ) (p : Placement) → ((roll : Dice) (q : Placement) → IsRoll roll → Among q (legal_ends p roll) → IsNoLooser end (f q) (g q)) → IsNoLooser end (sum_over all_rolls f p) (sum_over all_rolls g p)
tight-sum Lower f g p h = sum-mono g f p h all_rolls all_rolls-right
tight-sum Upper f g p h = sum-mono f g p h all_rolls all_rolls-right

pub tight-times : (end : End) (n : ℕ) (a b : ℤ) → IsNoLooser end a b → IsNoLooser end (pos n *ℤ a) (pos n *ℤ b)
tight-times Lower n a b h = mul_mono n b a h
tight-times Upper n a b h = mul_mono n a b h

pub tight-outwards : (end : End) (a b : ℤ) → IsNoLooser end a b → IsNoLooser end (outwards end a) (outwards end b)
tight-outwards Lower a b h = floor_36_mono b a h
tight-outwards Upper a b h = ceil_36_mono a b h
