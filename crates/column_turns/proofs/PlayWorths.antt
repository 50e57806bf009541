-- What a play is worth whose game has ended, and one after which the other side's word was looked up.
use Rattle.std.proofs.Common.{◌≡◌, ◌∙◌, ℕ, ℤ, neg_ℤ, Option, Some, None, Result, Ok, ap, sym, subst}
use Rattle.position_rank.specs.Placement.{Placement, swap}
use Rattle.move_rules.specs.declared.payoff.Won.{Won}
use Rattle.move_rules.specs.Payoff.{points}
use Rattle.directed_fixed.specs.declared.bounds.End.{End}
use Rattle.directed_fixed.specs.Bounds.{IsNoLooser, IsWithin, IsWithinUnits, at, other}
use Rattle.hyper_outside.specs.declared.outside.LookStop.{LookStop}
use Rattle.cube_actions.specs.declared.kind.Kind.{Kind}
use Rattle.turn_rule.specs.Turn.{Words, win, if_won, worth}
use Rattle.turn_rule.specs.Looks.{Source, Notes, Damage}
use Rattle.turn_rule.specs.Found.{IsSame, IsFoundOf, of_play}
use Rattle.turn_rule.proofs.Tight.{tight-refl}
use Rattle.turn_rule.proofs.Found.{FindsFrom}
use Rattle.turn_rule.proofs.Plays.{left-worth}
use Rattle.turn_rule.proofs.Values.{end-within}

none_some : {X : Type 0} (o : Option X) (x : X) → o ≡ None → o ≡ Some x → ⊥
none_some o x none some = cc

module _ (end : End) (s : Source) (noted : Notes) (q : Placement) (kind : Kind) where
  -- the game has ended
  pub won-found : (won : Won) (x : ℤ) → points q ≡ Some won → x ≡ at end (win kind won) → IsWithin s.bound (win kind won) → IsFoundOf end (of_play kind q) s noted x
  won-found won x some is within =
      let same : (w : Words) → worth end kind w q ≡ x = λ w. ap (λ (o : Option Won). if_won o (λ won. at end (win kind won)) (neg_ℤ (w (other end) (swap q) kind.next))) some ∙ sym is in
      record {
        within = subst (IsWithinUnits s.bound) (sym is) (end-within end s.bound (win kind won) within);
        floor = λ told. subst (λ (z : ℤ). IsNoLooser end x z) (sym (same s.floor)) (tight-refl end x);
        notes = λ told later t. subst (λ (z : ℤ). IsNoLooser end z x) (sym (same later)) (tight-refl end x);
        right = λ told p k left. absurd (none_some (points q) won left.goes_on some);
      }

  -- it goes on
  pub word-found : {m : Damage → Type 0} (u : Notes) (a b : ℕ) (result : Result ℤ LookStop) (x y : ℤ) → points q ≡ None → result ≡ Ok x → y ≡ neg_ℤ x
      → FindsFrom (other end) s u noted a b m (IsSame (swap q) kind.next) s.bound (λ w. w (other end) (swap q) kind.next) result → IsFoundOf end (of_play kind q) s noted y
  word-found {m = m} u a b result x y none ok is looked =
      (left-worth m end s u noted a b q kind x y none is (subst (FindsFrom (other end) s u noted a b m (IsSame (swap q) kind.next) s.bound (λ w. w (other end) (swap q) kind.next)) ok looked)).answer
