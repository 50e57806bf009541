-- Where what a game's wins, passes and unfinished ends give is so many times as much, its exact values and its start are.
use Rattle.std.proofs.Common.{◌≡◌, ◌^◌, ◌∙◌, ℕ, zero, suc, ℤ, pos, neg_ℤ, ◌+ℤ◌, ◌-ℤ◌, ◌*ℤ◌, ◌≤ℤ◌, List, [], ◌∷◌, Option, Some, None, map, ap, sym, arith}
use Rattle.std.specs.Int.{int_max}
use Rattle.std.proofs.lemmas.Int.{ints}
use Rattle.std.proofs.Math.Nat.{mul_comm}
use Rattle.position_rank.specs.Placement.{Placement, swap}
use Rattle.position_rank.specs.Packed.{start_placement}
use Rattle.roll_table.specs.Rolls.{Dice, all_rolls}
use Rattle.move_rules.specs.Ends.{legal_ends}
use Rattle.move_rules.specs.Payoff.{points}
use Rattle.move_rules.specs.declared.payoff.Won.{Won}
use Rattle.cube_actions.specs.declared.kind.Double.{Double}
use Rattle.cube_actions.specs.declared.kind.Taken.{Taken}
use Rattle.cube_actions.specs.declared.side.Side.{Side}
use Rattle.cube_actions.specs.declared.side.Side.TheVariants.{Near, Far}
use Rattle.cube_actions.specs.Scores.{MatchScore, other_side}
use Rattle.cube_actions.specs.Stakes.{Terms, kind_at}
use Rattle.turn_rule.specs.Turn.{greatest, if_won, sum_over, least}
use Rattle.turn_rule.specs.Exact.{Scoring, Values, left_with, rolled, after_double, better_of, before_turn, exact}
use Rattle.turn_rule.proofs.Integers.{distribute, regroup, times-neg}
use Rattle.turn_rule.proofs.Scaled.{max-scaled, greatest-scaled, least-scaled}
use Rattle.match_scores.specs.Openings.{openings, centred_in, opening_worth, opened_by}
use Rattle.match_scores.specs.Payoffs.{cube_game, start_scored}

-- ---- numbers

pub swapped : (c w : ℕ) (a : ℤ) → pos c *ℤ (pos w *ℤ a) ≡ pos w *ℤ (pos c *ℤ a)
swapped c w a = regroup c w a ∙ ap (λ (n : ℕ). pos n *ℤ a) (mul_comm c w) ∙ sym (regroup w c a)

below : (a x : ℤ) → a ≡ x → a ≤ℤ (pos 1 *ℤ x)
below a x h = omega (arith, ints, h)

above : (a x : ℤ) → a ≡ x → (pos 1 *ℤ x) ≤ℤ a
above a x h = omega (arith, ints, h)

both : (a x : ℤ) → a ≤ℤ (pos 1 *ℤ x) → (pos 1 *ℤ x) ≤ℤ a → a ≡ x
both a x h k = omega (arith, ints, h, k)

minus : (a b : ℤ) → a -ℤ b ≡ a +ℤ neg_ℤ b
minus a b = omega (arith, ints)

module _ (n : ℕ) where
  times-plus : (a b x y : ℤ) → pos n *ℤ a ≡ x → pos n *ℤ b ≡ y → pos n *ℤ (a +ℤ b) ≡ x +ℤ y
  times-plus a b x y h k = distribute n a b ∙ (λ i. h i +ℤ k i)

  pub times-negated : (a x : ℤ) → pos n *ℤ a ≡ x → pos n *ℤ neg_ℤ a ≡ neg_ℤ x
  times-negated a x h = times-neg n a ∙ ap neg_ℤ h

  times-minus : (a b x y : ℤ) → pos n *ℤ a ≡ x → pos n *ℤ b ≡ y → pos n *ℤ (a -ℤ b) ≡ x -ℤ y
  times-minus a b x y h k = ap (λ (z : ℤ). pos n *ℤ z) (minus a b) ∙ times-plus a (neg_ℤ b) x (neg_ℤ y) h (times-negated b y k) ∙ sym (minus x y)

  times-also : (w : ℕ) (a x : ℤ) → pos n *ℤ a ≡ x → pos n *ℤ (pos w *ℤ a) ≡ pos w *ℤ x
  times-also w a x h = swapped n w a ∙ ap (λ (z : ℤ). pos w *ℤ z) h

  times-max : (a b x y : ℤ) → pos n *ℤ a ≡ x → pos n *ℤ b ≡ y → pos n *ℤ int_max a b ≡ int_max x y
  times-max a b x y h k = both _ _ (max-scaled n 1 a b x y (below _ _ h) (below _ _ k)) (max-scaled 1 n x y a b (above _ _ h) (above _ _ k))

  times-least : (X : Type 0) (f g : X → ℤ) (v w : ℤ) (xs : List X) → pos n *ℤ v ≡ w → ((x : X) → pos n *ℤ f x ≡ g x) → pos n *ℤ least v (map f xs) ≡ least w (map g xs)
  times-least X f g v w xs h k = both _ _ (least-scaled X n 1 f g v w xs (below _ _ h) (λ x m. below _ _ (k x))) (least-scaled X 1 n g f w v xs (above _ _ h) (λ x m. above _ _ (k x)))

  times-greatest : (f g : Placement → ℤ) (qs : List Placement) → ((q : Placement) → pos n *ℤ f q ≡ g q) → pos n *ℤ greatest f qs ≡ greatest g qs
  times-greatest f g qs h = both _ _ (greatest-scaled n 1 f g qs (λ q m. below _ _ (h q))) (greatest-scaled 1 n g f qs (λ q m. above _ _ (h q)))

  times-sum : (f g : Placement → ℤ) (p : Placement) → ((q : Placement) → pos n *ℤ f q ≡ g q) → (rolls : List (Dice × ℕ)) → pos n *ℤ sum_over rolls f p ≡ sum_over rolls g p
  times-sum f g p h [] = omega (arith, ints)
  times-sum f g p h (roll ∷ rolls) =
      times-plus (pos roll.1 *ℤ greatest f (legal_ends p roll.0)) (sum_over rolls f p) (pos roll.1 *ℤ greatest g (legal_ends p roll.0)) (sum_over rolls g p)
      (times-also roll.1 (greatest f (legal_ends p roll.0)) (greatest g (legal_ends p roll.0)) (times-greatest f g (legal_ends p roll.0) h)) (times-sum f g p h rolls)

  -- ---- one game

  module _ (stakes : Terms) (s t : Scoring) (wins : (k : ℕ) (won : Won) → pos n *ℤ s.win k won ≡ t.win k won) (passes : (k : ℕ) → pos n *ℤ s.pass k ≡ t.pass k) (ends : (p : Placement) (k : ℕ) → pos n *ℤ s.unfinished p k ≡ t.unfinished p k) where
    module _ (turns : ℕ) (v w : Values) (later : (p : Placement) (k : ℕ) → pos n *ℤ v p k ≡ w p k) where
      times-left : (k : ℕ) (q : Placement) → pos n *ℤ left_with stakes s turns v k q ≡ left_with stakes t turns w k q
      times-left k q = by_points (points q) where
        by_points : (won : Option Won) → pos n *ℤ if_won won (λ won. pos (36 ^ turns) *ℤ s.win k won) (neg_ℤ (v (swap q) (kind_at stakes k).next)) ≡ if_won won (λ won. pos (36 ^ turns) *ℤ t.win k won) (neg_ℤ (w (swap q) (kind_at stakes k).next))
        by_points None = times-negated (v (swap q) (kind_at stakes k).next) (w (swap q) (kind_at stakes k).next) (later (swap q) (kind_at stakes k).next)
        by_points (Some won) = times-also (36 ^ turns) (s.win k won) (t.win k won) (wins k won)

      times-rolled : (p : Placement) (k : ℕ) → pos n *ℤ rolled stakes s turns v p k ≡ rolled stakes t turns w p k
      times-rolled p k = times-sum (left_with stakes s turns v k) (left_with stakes t turns w k) p (times-left k) all_rolls

      times-doubled : (p : Placement) (k : ℕ) (double : Double) → pos n *ℤ after_double stakes s turns v p k double ≡ after_double stakes t turns w p k double
      times-doubled p k double =
          times-least Taken (λ taken. pos taken.factor *ℤ rolled stakes s turns v p taken.kind) (λ taken. pos taken.factor *ℤ rolled stakes t turns w p taken.kind)
          (pos (36 ^ suc turns) *ℤ s.pass k) (pos (36 ^ suc turns) *ℤ t.pass k) double.answers.items (times-also (36 ^ suc turns) (s.pass k) (t.pass k) (passes k))
          (λ taken. times-also taken.factor (rolled stakes s turns v p taken.kind) (rolled stakes t turns w p taken.kind) (times-rolled p taken.kind))

      times-better : (p : Placement) (k : ℕ) (a x : ℤ) → pos n *ℤ a ≡ x → (double : Option Double) → pos n *ℤ better_of stakes s turns v p k a double ≡ better_of stakes t turns w p k x double
      times-better p k a x h None = h
      times-better p k a x h (Some double) = times-max a (after_double stakes s turns v p k double) x (after_double stakes t turns w p k double) h (times-doubled p k double)

      times-before : (p : Placement) (k : ℕ) → pos n *ℤ before_turn stakes s turns v p k ≡ before_turn stakes t turns w p k
      times-before p k = times-better p k (rolled stakes s turns v p k) (rolled stakes t turns w p k) (times-rolled p k) (kind_at stakes k).double

    times-exact : (turns : ℕ) (p : Placement) (k : ℕ) → pos n *ℤ exact stakes s turns p k ≡ exact stakes t turns p k
    unfolding exact
    times-exact zero p k = ends p k
    times-exact (suc turns) p k = times-before turns (exact stakes s turns) (exact stakes t turns) (times-exact turns) p k

  times-opened : (side : Side) (checkers : ℕ) (v w : Values) (score : MatchScore) → ((p : Placement) (k : ℕ) → pos n *ℤ v p k ≡ w p k) → pos n *ℤ opened_by side checkers v score ≡ opened_by side checkers w score
  times-opened side checkers v w score same =
      times-sum (opening_worth v score side) (opening_worth w score side) (start_placement checkers)
      (λ q. times-negated (v (swap q) (centred_in score (other_side side))) (w (swap q) (centred_in score (other_side side))) (same (swap q) (centred_in score (other_side side)))) openings

  pub times-start : (checkers turns : ℕ) (score : MatchScore) (s t : Scoring) → ((k : ℕ) (won : Won) → pos n *ℤ s.win k won ≡ t.win k won) → ((k : ℕ) → pos n *ℤ s.pass k ≡ t.pass k) → ((p : Placement) (k : ℕ) → pos n *ℤ s.unfinished p k ≡ t.unfinished p k)
      → pos n *ℤ start_scored checkers turns score s ≡ start_scored checkers turns score t
  times-start checkers turns score s t wins passes ends =
      let v = exact (cube_game score) s turns in
      let w = exact (cube_game score) t turns in
      let same : (p : Placement) (k : ℕ) → pos n *ℤ v p k ≡ w p k = times-exact (cube_game score) s t wins passes ends turns in
      times-minus (opened_by Near checkers v score) (opened_by Far checkers v score) (opened_by Near checkers w score) (opened_by Far checkers w score) (times-opened Near checkers v w score same) (times-opened Far checkers v w score same)
