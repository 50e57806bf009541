-- What is printed of a legal play is right.
use Rattle.std.proofs.Common.{◌≡◌, ◌≤◌, ℕ, zero, suc, Bool, true, false, cond, eqb, List, [], ◌∷◌, length, Some, refl, ap, subst, arith}
use Rattle.std.specs.List.{slice_get, remove}
use Rattle.position_rank.specs.Placement.{Placement}
use Rattle.roll_table.specs.Rolls.{Dice, IsRoll, dice_of}
use Rattle.move_rules.specs.declared.play.Move.{Move}
use Rattle.move_rules.specs.declared.written.Step.{Step}
use Rattle.move_rules.specs.Sequences.{IsSequence, IsLegal}
use Rattle.move_rules.specs.Written.{AreStepsOf, Leaves}
use Rattle.play_text.specs.Notation.{IsPlayText, play_text}
use Rattle.play_text.proofs.NotationPrints.{printed-read}
use Rattle.play_text.proofs.NotationTexts.{one-play}

few-moves : (p : Placement) (dice : List ℕ) (moves : List Move) (q : Placement) → IsSequence p dice moves q → length moves ≤ length dice
few-moves p dice [] q s = omega arith
few-moves p [] (m ∷ moves) q (i, e, next, move, rest) = absurd (grind arith)
few-moves p (d ∷ dice) (m ∷ moves) q (i, e, next, move, rest) = omega (arith, few-moves next (remove (d ∷ dice) i) moves q rest, fewer (d ∷ dice) i m.die e) where
  fewer : (xs : List ℕ) (i x : ℕ) → slice_get xs i ≡ Some x → suc (length (remove xs i)) ≡ length xs
  fewer [] i x e = absurd (grind arith)
  fewer (y ∷ xs) zero x e = refl
  fewer (y ∷ xs) (suc i) x e = ap suc (fewer xs i x e)

pub roll-moves : (p : Placement) (roll : Dice) (moves : List Move) (q : Placement) → IsSequence p (dice_of roll) moves q → length moves ≤ 4
roll-moves p roll moves q s = by (eqb roll.high roll.low) s where
  by : (b : Bool) → IsSequence p (cond b (roll.high ∷ roll.high ∷ roll.high ∷ roll.high ∷ []) (roll.high ∷ roll.low ∷ [])) moves q → length moves ≤ 4
  by true s = few-moves p (roll.high ∷ roll.high ∷ roll.high ∷ roll.high ∷ []) moves q s
  by false s = (let few = few-moves p (roll.high ∷ roll.low ∷ []) moves q s in omega (arith, few))

-- what is read from a legal play's text is right, and leaves the play's end
pub printed-taken : (p : Placement) (roll : Dice) (moves : List Move) (q : Placement) (steps : List Step) → IsRoll roll → IsLegal p roll moves q → IsPlayText (play_text p moves) steps → Leaves p roll steps q
printed-taken p roll moves q steps right legal text =
    let printed = printed-read p moves (record { roll = roll; valid = right; end = q; sequence = legal.sequence }) (roll-moves p roll moves q legal.sequence) in
    let same : printed.0 ≡ steps = one-play (play_text p moves) printed.0 steps printed.2 text in
    record { roll_is = right; moves = moves; legal = legal; written = subst (λ (x : List Step). AreStepsOf p moves x) same printed.1 }
