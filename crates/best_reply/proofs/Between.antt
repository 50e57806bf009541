-- Following a policy is worth no more than best play on both sides, and the best reply to it no less.
use Rattle.std.proofs.Common.{◌^◌, ℕ, zero, suc, ℤ, pos, neg_ℤ, ◌≤ℤ◌, ◌*ℤ◌, Option, Some, None}
use Rattle.position_rank.specs.Placement.{Placement, swap}
use Rattle.roll_table.specs.Rolls.{Dice, all_rolls}
use Rattle.move_rules.specs.Ends.{legal_ends}
use Rattle.move_rules.specs.Listing.{Among}
use Rattle.move_rules.proofs.EndsExact.{legal_ends-complete}
use Rattle.move_rules.proofs.Members.{Contains-Among}
use Rattle.move_rules.specs.declared.payoff.Won.{Won}
use Rattle.move_rules.specs.Payoff.{points}
use Rattle.cube_actions.specs.declared.kind.Double.{Double}
use Rattle.cube_actions.specs.declared.kind.Taken.{Taken}
use Rattle.cube_actions.specs.Stakes.{Terms, kind_at}
use Rattle.turn_rule.specs.Turn.{if_won}
use Rattle.turn_rule.specs.Exact.{Scoring, Values, left_with, rolled, better_of, before_turn, exact}
use Rattle.turn_rule.proofs.Integers.{le_refl, max_mono, mul_mono, neg_le}
use Rattle.turn_rule.proofs.Greatest.{all_rolls-right, sum-mono}
use Rattle.turn_rule.proofs.Within.{least-mono}
use Rattle.best_reply.specs.Policies.{Policy, IsLegalPolicy}
use Rattle.best_reply.specs.Replies.{Follower, IsBetween, Replier, better_of_by, before_turn_by, rolled_by, same_worths, worths}
use Rattle.best_reply.proofs.SumsBy.{sum_by-best}

-- what each position is worth after the turn, by the one and by the other values
module _ (stakes : Terms) (scoring : Scoring) (turns : ℕ) (less more : Values) (rises : (p : Placement) (k : ℕ) → less p k ≤ℤ more p k) where
  left-rises : (k : ℕ) (q : Placement) → left_with stakes scoring turns more k q ≤ℤ left_with stakes scoring turns less k q
  left-rises k q = by_points (points q) where
    by_points : (o : Option Won) → if_won o (λ won. pos (36 ^ turns) *ℤ scoring.win k won) (neg_ℤ (more (swap q) (kind_at stakes k).next)) ≤ℤ if_won o (λ won. pos (36 ^ turns) *ℤ scoring.win k won) (neg_ℤ (less (swap q) (kind_at stakes k).next))
    by_points None = neg_le _ _ (rises (swap q) (kind_at stakes k).next)
    by_points (Some won) = le_refl _

  -- ---- best play before both

  rolled-rises : (p : Placement) (k : ℕ) → rolled stakes scoring turns more p k ≤ℤ rolled stakes scoring turns less p k
  rolled-rises p k = sum-mono (left_with stakes scoring turns more k) (left_with stakes scoring turns less k) p (λ roll q right m. left-rises k q) all_rolls all_rolls-right

  better-rises : (p : Placement) (k : ℕ) (double : Option Double) (x y : ℤ) → x ≤ℤ y → better_of stakes scoring turns more p k x double ≤ℤ better_of stakes scoring turns less p k y double
  better-rises p k None x y h = h
  better-rises p k (Some double) x y h =
      max_mono _ _ _ _ h (least-mono Taken (λ taken. pos taken.factor *ℤ rolled stakes scoring turns more p taken.kind) (λ taken. pos taken.factor *ℤ rolled stakes scoring turns less p taken.kind) _ _ double.answers.items (le_refl _)
      (λ taken m. mul_mono taken.factor _ _ (rolled-rises p taken.kind)))

  turn-rises : (p : Placement) (k : ℕ) → before_turn stakes scoring turns more p k ≤ℤ before_turn stakes scoring turns less p k
  turn-rises p k = better-rises p k (kind_at stakes k).double _ _ (rolled-rises p k)

  -- ---- the policy's plays before the greater values, best play before the less ones

  module _ (policy : Policy) (legal : IsLegalPolicy policy) (p : Placement) where
    played : (k : ℕ) (roll : Dice) → Among (policy p k roll) (legal_ends p roll)
    played k roll = Contains-Among (policy p k roll) (legal_ends p roll) (legal_ends-complete p roll (policy p k roll) (legal p k roll))

    rolled-best : (k : ℕ) → rolled_by policy stakes scoring turns more p k ≤ℤ rolled stakes scoring turns less p k
    rolled-best k = sum_by-best (left_with stakes scoring turns more k) (left_with stakes scoring turns less k) (policy p k) p (λ roll right. left-rises k (policy p k roll)) (played k) all_rolls all_rolls-right

    better-best : (k : ℕ) (double : Option Double) (x y : ℤ) → x ≤ℤ y → better_of_by policy stakes scoring turns more p k x double ≤ℤ better_of stakes scoring turns less p k y double
    better-best k None x y h = h
    better-best k (Some double) x y h =
        max_mono _ _ _ _ h (least-mono Taken (λ taken. pos taken.factor *ℤ rolled_by policy stakes scoring turns more p taken.kind) (λ taken. pos taken.factor *ℤ rolled stakes scoring turns less p taken.kind) _ _ double.answers.items (le_refl _)
        (λ taken m. mul_mono taken.factor _ _ (rolled-best taken.kind)))

    turn-best : (k : ℕ) → before_turn_by policy stakes scoring turns more p k ≤ℤ before_turn stakes scoring turns less p k
    turn-best k = better-best k (kind_at stakes k).double _ _ (rolled-best k)

pub between : (policy : Policy) → IsLegalPolicy policy → (stakes : Terms) (scoring : Scoring) (turns : ℕ) (p : Placement) (k : ℕ) → IsBetween (worths policy stakes scoring (same_worths scoring.unfinished) turns) (exact stakes scoring turns) p k
unfolding worths exact
between policy legal stakes scoring zero p k = record { follow = le_refl _; reply = le_refl _ }
between policy legal stakes scoring (suc turns) p k =
    let later = worths policy stakes scoring (same_worths scoring.unfinished) turns in
    let best = exact stakes scoring turns in
    record {
      follow = turn-best stakes scoring turns best (later Replier) (λ q j. (between policy legal stakes scoring turns q j).reply) policy legal p k;
      reply = turn-rises stakes scoring turns (later Follower) best (λ q j. (between policy legal stakes scoring turns q j).follow) p k;
    }
