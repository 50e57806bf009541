-- A turn looks only at words of states.
use Rattle.std.proofs.Common.{◌≡◌, ℕ, ℤ, pos, neg_ℤ, ◌+ℤ◌, ◌*ℤ◌, List, [], ◌∷◌, map, Option, Some, None, inl, inr, refl, ap, ◌∙◌}
use Rattle.std.specs.Int.{int_max, int_min}
use Rattle.position_rank.specs.Placement.{Placement, swap}
use Rattle.roll_table.specs.Rolls.{Dice, IsRoll, all_rolls}
use Rattle.move_rules.specs.Ends.{legal_ends}
use Rattle.move_rules.specs.Listing.{Among}
use Rattle.move_rules.specs.declared.payoff.Won.{Won}
use Rattle.move_rules.specs.Payoff.{points}
use Rattle.directed_fixed.specs.declared.bounds.End.{End}
use Rattle.directed_fixed.specs.Bounds.{other, at}
use Rattle.directed_fixed.specs.Rounding.{outwards}
use Rattle.cube_actions.specs.declared.kind.Double.{Double}
use Rattle.cube_actions.specs.declared.kind.Taken.{Taken}
use Rattle.cube_actions.specs.Stakes.{Terms, kind_at, IsValid}
use Rattle.turn_rule.specs.declared.game.Game.{Game}
use Rattle.turn_rule.specs.Turn.{Words, win, if_won, worth, greatest, sum_over, roll_value, least, or_double, turn}
use Rattle.turn_rule.specs.States.{Agree}
use Rattle.turn_rule.specs.Looks.{MayFollow, MayFollowTurn}
use Rattle.turn_rule.specs.Following.{AgreeOn}
use Rattle.turn_rule.proofs.Follows.{may-follow, answer-follows}
use Rattle.turn_rule.proofs.Greatest.{AreRolls, all_rolls-right}
use Rattle.turn_rule.proofs.Within.{follow-turn-state}

greatest-agree : (f g : Placement → ℤ) (qs : List Placement) → ((q : Placement) → Among q qs → f q ≡ g q) → greatest f qs ≡ greatest g qs
greatest-agree f g [] h = refl
greatest-agree f g (q ∷ []) h = h q (inl refl)
greatest-agree f g (q ∷ r ∷ rest) h =
    let here = h q (inl refl) in
    let later = greatest-agree f g (r ∷ rest) (λ x m. h x (inr m)) in
    ap (λ (z : ℤ). int_max z (greatest f (r ∷ rest))) here ∙ ap (λ (z : ℤ). int_max (g q) z) later

sum-agree : (f g : Placement → ℤ) (p : Placement) → ((roll : Dice) (q : Placement) → IsRoll roll → Among q (legal_ends p roll) → f q ≡ g q) → (rolls : List (Dice × ℕ)) → AreRolls rolls → sum_over rolls f p ≡ sum_over rolls g p
sum-agree f g p h [] a = refl
sum-agree f g p h (roll ∷ rolls) a =
    let here = greatest-agree f g (legal_ends p roll.0) (λ q. h roll.0 q a.0) in
    let later = sum-agree f g p h rolls a.1 in
    ap (λ (z : ℤ). pos roll.1 *ℤ z +ℤ sum_over rolls f p) here ∙ ap (λ (z : ℤ). pos roll.1 *ℤ greatest g (legal_ends p roll.0) +ℤ z) later

least-agree : (X : Type 0) (f g : X → ℤ) (v : ℤ) (xs : List X) → ((x : X) → Among x xs → f x ≡ g x) → least v (map f xs) ≡ least v (map g xs)
least-agree X f g v [] h = refl
least-agree X f g v (x ∷ xs) h =
    ap (λ (z : ℤ). least (int_min v z) (map f xs)) (h x (inl refl)) ∙ least-agree X f g (int_min v (g x)) xs (λ y m. h y (inr m))

-- at one state, only the words of states that may follow count
module _ (stakes : Terms) (u v : Words) (end : End) (p : Placement) where
  worth-agree : (k : ℕ) → AgreeOn (MayFollow stakes p k) (other end) u v → (roll : Dice) (q : Placement) → IsRoll roll → Among q (legal_ends p roll) → worth end (kind_at stakes k) u q ≡ worth end (kind_at stakes k) v q
  worth-agree k same roll q right m = by_points (points q) refl where
    by_points : (o : Option Won) → points q ≡ o → if_won o (λ won. at end (win (kind_at stakes k) won)) (neg_ℤ (u (other end) (swap q) (kind_at stakes k).next)) ≡ if_won o (λ won. at end (win (kind_at stakes k) won)) (neg_ℤ (v (other end) (swap q) (kind_at stakes k).next))
    by_points None on = ap neg_ℤ (same (swap q) (kind_at stakes k).next (may-follow stakes p k roll q right m on))
    by_points (Some won) over = refl

  pub roll-agree : (k factor : ℕ) → AgreeOn (MayFollow stakes p k) (other end) u v → roll_value end stakes u p k factor ≡ roll_value end stakes v p k factor
  roll-agree k factor same =
      ap (λ (z : ℤ). outwards end (pos factor *ℤ z)) (sum-agree (worth end (kind_at stakes k) u) (worth end (kind_at stakes k) v) p (worth-agree k same) all_rolls all_rolls-right)

  or_double-agree : (double : Option Double) → ((d : Double) → double ≡ Some d → (taken : Taken) → Among taken d.answers.items → AgreeOn (MayFollow stakes p taken.kind) (other end) u v) → (plain : ℤ) → or_double end stakes u p plain double ≡ or_double end stakes v p plain double
  or_double-agree None same plain = refl
  or_double-agree (Some double) same plain =
      ap (λ (z : ℤ). int_max plain z) (least-agree Taken (λ taken. roll_value end stakes u p taken.kind taken.factor) (λ taken. roll_value end stakes v p taken.kind taken.factor) (at end double.pass) double.answers.items
      (λ taken m. roll-agree taken.kind taken.factor (same double refl taken m)))

  pub turn-agree-at : (k : ℕ) → AgreeOn (MayFollowTurn stakes p k) (other end) u v → turn stakes u end p k ≡ turn stakes v end p k
  unfolding turn
  turn-agree-at k same =
      let kind = kind_at stakes k in
      ap (λ (z : ℤ). or_double end stakes u p z kind.double) (roll-agree k 1 (λ q j may. same q j (inl may)))
      ∙ or_double-agree kind.double (λ d is taken m q j may. same q j (answer-follows stakes p k d is taken m q j may)) (roll_value end stakes v p k 1)

pub turn-agree : (game : Game) → IsValid game.stakes → (u v : Words) → Agree game u v → Agree game (turn game.stakes u) (turn game.stakes v)
turn-agree game valid u v same end p k state = turn-agree-at game.stakes u v end p k (λ q j may. same (other end) q j (follow-turn-state game valid p k state q j may))
