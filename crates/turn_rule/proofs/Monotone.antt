-- Tighter words and tighter stakes give a tighter turn.
use Rattle.std.proofs.Common.{◌≡◌, ◌≤◌, ℕ, zero, suc, ℤ, neg_ℤ, Option, Some, None, List, [], ◌∷◌, map, length, slice_index_or, inl, inr, refl, subst, arith}
use Rattle.std.proofs.lemmas.Bool.{cases_lt}
use Rattle.position_rank.specs.Placement.{Placement, swap}
use Rattle.roll_table.specs.Rolls.{Dice, IsRoll}
use Rattle.move_rules.specs.Ends.{legal_ends}
use Rattle.move_rules.specs.Listing.{Among}
use Rattle.move_rules.specs.declared.payoff.Won.{Won}
use Rattle.move_rules.specs.Payoff.{points}
use Rattle.directed_fixed.specs.declared.bounds.End.{End}
use Rattle.directed_fixed.specs.declared.bounds.End.TheVariants.{Lower, Upper}
use Rattle.directed_fixed.specs.Bounds.{Bounds, IsNoLooser, AreNoLooserPairs, other, at}
use Rattle.cube_actions.specs.declared.kind.Kind.{Kind}
use Rattle.cube_actions.specs.declared.kind.Double.{Double}
use Rattle.cube_actions.specs.declared.kind.Taken.{Taken}
use Rattle.cube_actions.specs.Stakes.{Terms, kind_at, no_kind, IsValid}
use Rattle.turn_rule.specs.declared.game.Game.{Game}
use Rattle.turn_rule.specs.Turn.{Words, win, if_won, worth, roll_value, least, or_double, turn, bound_words, rounds}
use Rattle.turn_rule.specs.States.{AreNoLooser}
use Rattle.turn_rule.specs.Looks.{MayFollow, MayFollowTurn}
use Rattle.turn_rule.specs.Following.{AreNoLooserOn}
use Rattle.turn_rule.specs.Truth.{AreNoLooserDoubles, IsNoLooserKind, AreNoLooserStakes}
use Rattle.turn_rule.proofs.Integers.{le_refl}
use Rattle.turn_rule.proofs.Follows.{may-follow, answer-follows}
use Rattle.turn_rule.proofs.Within.{follow-turn-state, turn-within, opening-within}
use Rattle.turn_rule.proofs.Tightness.{tight-at, tight-neg, tight-max, tight-least, tight-sum, tight-times, tight-outwards}

-- beyond the last kind there is none
past_last : (kinds : List Kind) (k : ℕ) → length kinds ≤ k → slice_index_or kinds k no_kind ≡ no_kind
past_last [] k h = refl
past_last (x ∷ xs) zero h = absurd (omega arith)
past_last (x ∷ xs) (suc k) h = past_last xs k (omega arith)

same_pair : (pair : Bounds) → AreNoLooserPairs pair pair
same_pair pair = record { lower = le_refl _; upper = le_refl _ }

same_kind : (kind : Kind) → IsNoLooserKind kind kind
same_kind kind = record { next = refl; wins = λ won. same_pair (win kind won); double = same_double kind.double } where
  same_double : (double : Option Double) → AreNoLooserDoubles double double
  same_double None = tt
  same_double (Some double) = record { answers = refl; pass = same_pair double.pass }

-- stakes are at least as tight as they are themselves
pub same-stakes : (stakes : Terms) → AreNoLooserStakes stakes stakes
same-stakes stakes = record { many = refl; bound = refl; kinds = λ k h. same_kind (kind_at stakes k) }

module _ (a b : Terms) (stakes : AreNoLooserStakes a b) where
  kind-tighter : (k : ℕ) → IsNoLooserKind (kind_at a k) (kind_at b k)
  kind-tighter k = elim (cases_lt k (length b.kinds)) [
    | inl inside ↦ stakes.kinds k inside
    | inr past ↦ (
        let none : kind_at a k ≡ no_kind = past_last a.kinds k (omega (arith, stakes.many)) in
        rw (none, past_last b.kinds k past) (same_kind no_kind))
  ]

  -- at one state, only the words of states that may follow count
  module _ (end : End) (u v : Words) (p : Placement) where
    worth-tighter : (k : ℕ) → AreNoLooserOn (MayFollow a p k) (other end) u v → (roll : Dice) (q : Placement) → IsRoll roll → Among q (legal_ends p roll) → IsNoLooser end (worth end (kind_at a k) u q) (worth end (kind_at b k) v q)
    worth-tighter k words roll q right m = by_points (points q) refl where
      by_points : (o : Option Won) → points q ≡ o → IsNoLooser end (if_won o (λ won. at end (win (kind_at a k) won)) (neg_ℤ (u (other end) (swap q) (kind_at a k).next))) (if_won o (λ won. at end (win (kind_at b k) won)) (neg_ℤ (v (other end) (swap q) (kind_at b k).next)))
      by_points None on =
          subst (λ (next : ℕ). IsNoLooser end (neg_ℤ (u (other end) (swap q) (kind_at a k).next)) (neg_ℤ (v (other end) (swap q) next))) (kind-tighter k).next
          (tight-neg end _ _ (words (swap q) (kind_at a k).next (may-follow a p k roll q right m on)))
      by_points (Some won) over = tight-at end _ _ ((kind-tighter k).wins won)

    pub roll-tighter : (k factor : ℕ) → AreNoLooserOn (MayFollow a p k) (other end) u v → IsNoLooser end (roll_value end a u p k factor) (roll_value end b v p k factor)
    roll-tighter k factor words = tight-outwards end _ _ (tight-times end factor _ _ (tight-sum end (worth end (kind_at a k) u) (worth end (kind_at b k) v) p (worth-tighter k words)))

    double-tighter : (c d : Option Double) → AreNoLooserDoubles c d → ((double : Double) → c ≡ Some double → (taken : Taken) → Among taken double.answers.items → AreNoLooserOn (MayFollow a p taken.kind) (other end) u v) → (x y : ℤ) → IsNoLooser end x y → IsNoLooser end (or_double end a u p x c) (or_double end b v p y d)
    double-tighter None None tight words x y h = h
    double-tighter None (Some d) tight words x y h = absurd tight
    double-tighter (Some c) None tight words x y h = absurd tight
    double-tighter (Some c) (Some d) tight words x y h =
        tight-max end _ _ _ _ h (subst (λ (answers : List Taken). IsNoLooser end (least (at end c.pass) (map in_a c.answers.items)) (least (at end d.pass) (map in_b answers))) tight.answers
        (tight-least Taken end in_a in_b _ _ c.answers.items (tight-at end c.pass d.pass tight.pass) each)) where
          in_a : Taken → ℤ
          in_a taken = roll_value end a u p taken.kind taken.factor

          in_b : Taken → ℤ
          in_b taken = roll_value end b v p taken.kind taken.factor

          each : (taken : Taken) → Among taken c.answers.items → IsNoLooser end (in_a taken) (in_b taken)
          each taken m = roll-tighter taken.kind taken.factor (words c refl taken m)

    pub turn-tighter-at : (k : ℕ) → AreNoLooserOn (MayFollowTurn a p k) (other end) u v → IsNoLooser end (turn a u end p k) (turn b v end p k)
    unfolding turn
    turn-tighter-at k words =
        double-tighter (kind_at a k).double (kind_at b k).double (kind-tighter k).double
        (λ d is taken m q j may. words q j (answer-follows a p k d is taken m q j may)) _ _ (roll-tighter k 1 (λ q j may. words q j (inl may)))

module _ (game : Game) (b : Terms) (valid : IsValid game.stakes) (stakes : AreNoLooserStakes game.stakes b) where
  pub stakes-tighter : (u v : Words) → AreNoLooser game u v → AreNoLooser game (turn game.stakes u) (turn b v)
  stakes-tighter u v words end p k state = turn-tighter-at game.stakes b stakes end u v p k (λ q j may. words (other end) q j (follow-turn-state game valid p k state q j may))

  pub stakes-rounds-tighter : (r : ℕ) → AreNoLooser game (rounds game.stakes r) (rounds b r)
  unfolding rounds
  stakes-rounds-tighter zero Lower p k state = rw stakes.bound (le_refl _)
  stakes-rounds-tighter zero Upper p k state = rw stakes.bound (le_refl _)
  stakes-rounds-tighter (suc r) end p k state = stakes-tighter (rounds game.stakes r) (rounds b r) (stakes-rounds-tighter r) end p k state

module _ (game : Game) (valid : IsValid game.stakes) where
  pub turn-tighter : (u v : Words) → AreNoLooser game u v → AreNoLooser game (turn game.stakes u) (turn game.stakes v)
  turn-tighter u v tight = stakes-tighter game game.stakes valid (same-stakes game.stakes) u v tight

  pub rounds-tighter : (r : ℕ) → AreNoLooser game (rounds game.stakes (suc r)) (rounds game.stakes r)
  unfolding rounds
  rounds-tighter zero Lower p k state = (turn-within game valid (bound_words game.stakes) (opening-within game valid) p k state).from
  rounds-tighter zero Upper p k state = (turn-within game valid (bound_words game.stakes) (opening-within game valid) p k state).to
  rounds-tighter (suc r) end p k state = turn-tighter (rounds game.stakes (suc r)) (rounds game.stakes r) (rounds-tighter r) end p k state
