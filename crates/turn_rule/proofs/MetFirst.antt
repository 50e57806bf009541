-- The damage that is met first.
use Rattle.std.proofs.Common.{◌≡◌, ◌<◌, ℕ, zero, suc, List, [], ◌∷◌, length, take, get_or, inl, inr, refl, subst, arith}
use Rattle.position_rank.specs.Placement.{Placement}
use Rattle.move_rules.specs.Listing.{Among}
use Rattle.cube_actions.specs.Stakes.{Terms}
use Rattle.roll_table.specs.Rolls.{Dice, all_rolls}
use Rattle.move_rules.proofs.Members.{Among-Contains}
use Rattle.turn_rule.specs.Looks.{Source, Damage, States, MayFollow, MayFollowDouble, MayFollowTurn, HasDamage, MayFollowRoll, AreUndamaged, Meets, MeetsFirst, MeetsOnRoll, MeetsRolling, MeetsDoubled, MeetsOnTurn}
use Rattle.turn_rule.proofs.Greatest.{roll-right}

-- it is met at one of them, and none of the states of those before is damaged
pub met-at : {X : Type 0} (s : Source) (states : X → States) (meets : X → Meets) (damage : Damage) (xs : List X) (i : ℕ) (x : X) → i < length xs → x ≡ get_or xs i x
    → ((y : X) → Among y (take i xs) → AreUndamaged s (states y)) → meets x s damage → MeetsFirst states meets xs s damage
met-at s states meets damage [] i x h e before met = absurd (omega arith)
met-at s states meets damage (y ∷ ys) zero x h e before met = inl (subst (λ z. meets z s damage) e met)
met-at s states meets damage (y ∷ ys) (suc i) x h e before met = inr (before y (inl refl), met-at s states meets damage ys i x (omega arith) e (λ z m. before z (inr m)) met)

-- ---- it is a damage of one of the states

pub damage-among : (s : Source) (some others : States) → ((p : Placement) (k : ℕ) → some p k → others p k) → (damage : Damage) → HasDamage s some damage → HasDamage s others damage
damage-among s some others among damage h = record { position = h.position; kind = h.kind; among = among h.position h.kind h.among; damaged = h.damaged }

pub met-damages : {X : Type 0} (s : Source) (states : X → States) (meets : X → Meets) (damage : Damage) (others : States) (xs : List X)
    → ((x : X) → Among x xs → meets x s damage → HasDamage s others damage) → MeetsFirst states meets xs s damage → HasDamage s others damage
met-damages s states meets damage others [] each met = absurd met
met-damages s states meets damage others (x ∷ xs) each (inl met) = each x (inl refl) met
met-damages s states meets damage others (x ∷ xs) each (inr met) = met-damages s states meets damage others xs (λ y m. each y (inr m)) met.1

module _ (s : Source) (damage : Damage) where
  pub met-on_roll : (stakes : Terms) (p : Placement) (k : ℕ) (roll : Dice) → MeetsOnRoll stakes p k roll s damage → HasDamage s (MayFollowRoll stakes p k roll) damage
  met-on_roll stakes p k roll met = met-damages s _ _ damage _ met.ends
      (λ end m. damage-among s _ _ (λ q j left. record { end = end; legal = (met.in_order.legal end).0 (Among-Contains end _ m); left = left }) damage) met.meets

  pub met-rolling : (stakes : Terms) (p : Placement) (k : ℕ) → MeetsRolling stakes p k s damage → HasDamage s (MayFollow stakes p k) damage
  met-rolling stakes p k = met-damages s _ _ damage _ all_rolls
      (λ roll m met. damage-among s _ _ (λ q j left. record { roll = roll.0; right = roll-right roll m; end = left.end; legal = left.legal; left = left.left }) damage (met-on_roll stakes p k roll.0 met))

  pub met-doubled : (stakes : Terms) (p : Placement) (k : ℕ) → MeetsDoubled stakes p k s damage → HasDamage s (MayFollowDouble stakes p k) damage
  met-doubled stakes p k met = met-damages s _ _ damage _ met.double.answers.items
      (λ taken m first. damage-among s _ _ (λ q j after. record { double = met.double; right = met.right; taken = taken; answer = Among-Contains taken _ m; after = after }) damage (met-rolling stakes p taken.kind first)) met.meets

  pub met-on_turn : (stakes : Terms) (p : Placement) (k : ℕ) → MeetsOnTurn stakes p k s damage → HasDamage s (MayFollowTurn stakes p k) damage
  met-on_turn stakes p k met = elim met.first [
    | inl first ↦ damage-among s _ _ (λ q j after. inl after) damage (met-rolling stakes p k first)
    | inr later ↦ damage-among s _ _ (λ q j after. inr after) damage (met-doubled stakes p k later.1)
  ]
