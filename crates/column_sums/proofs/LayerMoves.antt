-- A legal play leaves the other side with one of the layers.
use Rattle.std.proofs.Common.{◌≡◌, ◌≤◌, ◌<◌, ◌∙◌, inl, inr, ℕ, zero, suc, Bool, true, false, cond, eqb, leb, ltb, get_or, List, [], ◌∷◌, length, Some, refl, ap, sym, subst, arith}
use Rattle.std.proofs.lemmas.Bool.Decides.{nat_tests}
use Rattle.std.specs.List.{slice_get, remove}
use Rattle.position_rank.specs.Placement.{Placement, moved, hit}
use Rattle.roll_table.specs.Rolls.{Dice, IsRoll, dice_of}
use Rattle.move_rules.specs.Sequences.{IsSequence, IsLegalEnd}
use Rattle.move_rules.specs.declared.play.Move.{Move}
use Rattle.move_rules.proofs.StayLive.{AreDice}
use Rattle.column_sums.specs.Columns.{AreStruck, is_open, struck}
use Rattle.column_sums.specs.Leaps.{lands_of, layout_at, IsNext}
use Rattle.column_sums.specs.AfterHits.{AreLayers, IsLayer}
use Rattle.column_sums.proofs.StepLemmas.{made-struck}

lands-suc : (n : ℕ) → 1 ≤ n → lands_of n ≡ Some n
lands-suc zero h = absurd (omega arith)
lands-suc (suc n) h = refl

hit-one : (other : List ℕ) (point : ℕ) → get_or other point 0 ≡ 1 → hit other point ≡ moved other point 25
hit-one other point e = let test : eqb (get_or other point 0) 1 ≡ true = grind (arith, nat_tests) in rw test refl

module _ (others next : List (List ℕ)) (are : AreLayers others next) where
  struck-layer : (l point : ℕ) → l < length others → 1 ≤ point → point ≤ 24 → get_or (layout_at others l) point 0 ≡ 1 → IsLayer others (moved (layout_at others l) point 25)
  struck-layer l point h low high one =
      let place = get_or (get_or next l []) point 0 in
      let is : IsNext others l point place = are l h point high in
      let free : leb (get_or (layout_at others l) point 0) 1 ≡ true = grind (arith, nat_tests) in
      let lands = lands-suc point low in
      let there : leb (get_or (layout_at others l) point 0) 1 ≡ ltb place (length others) = subst (λ o. is_open (layout_at others l) o ≡ ltb place (length others)) lands is.is_open in
      let within : place < length others = grind (arith, nat_tests) in
      (place, within, subst (λ o. layout_at others place ≡ struck (layout_at others l) o) lands (is.struck within) ∙ hit-one (layout_at others l) point one)

  after-layer : (other after : List ℕ) → AreStruck other after → IsLayer others other → IsLayer others after
  after-layer other after (inl same) (l, h, is) = (l, h, is ∙ sym same)
  after-layer other after (inr (point, low, high, one, e)) (l, h, is) =
      let there = struck-layer l point h low high (ap (λ (o : List ℕ). get_or o point 0) is ∙ one) in
      (there.0, there.1, there.2 ∙ (ap (λ (o : List ℕ). moved o point 25) is ∙ sym e))

  dice-at : (dice : List ℕ) (i die : ℕ) → AreDice dice → slice_get dice i ≡ Some die → 1 ≤ die
  dice-at [] i die right e = absurd (grind arith)
  dice-at (d ∷ dice) zero die right e = let same : d ≡ die = cc in omega (arith, right.0, same)
  dice-at (d ∷ dice) (suc i) die right e = dice-at dice i die right.1 e

  dice-remove : (dice : List ℕ) (i : ℕ) → AreDice dice → AreDice (remove dice i)
  dice-remove [] zero right = right
  dice-remove [] (suc i) right = right
  dice-remove (d ∷ dice) zero right = right.1
  dice-remove (d ∷ dice) (suc i) right = (right.0, dice-remove dice i right.1)

  sequence-layer : (p : Placement) (dice : List ℕ) (moves : List Move) (q : Placement) → AreDice dice → IsSequence p dice moves q → IsLayer others p.other → IsLayer others q.other
  sequence-layer p dice [] q right e is = subst (λ (b : Placement). IsLayer others b.other) (sym e) is
  sequence-layer p dice (move ∷ moves) q right (i, e, next_board, made, rest) is =
      sequence-layer next_board (remove dice i) moves q (dice-remove dice i right) rest
      (after-layer p.other next_board.other (made-struck p move.die move.from next_board (dice-at dice i move.die right e) made) is)

roll-dice : (roll : Dice) → IsRoll roll → AreDice (dice_of roll)
roll-dice roll right = of (eqb roll.high roll.low) where
  of : (b : Bool) → AreDice (cond b (roll.high ∷ roll.high ∷ roll.high ∷ roll.high ∷ []) (roll.high ∷ roll.low ∷ []))
  of true = let high : 1 ≤ roll.high = omega (arith, right.from, right.in_order) in (high, (high, (high, (high, tt))))
  of false = (omega (arith, right.from, right.in_order), (right.from, tt))

pub end-layer : (others next : List (List ℕ)) → AreLayers others next → (p : Placement) (roll : Dice) (q : Placement) → IsRoll roll → IsLayer others p.other → IsLegalEnd p roll q → IsLayer others q.other
end-layer others next are p roll q right is (moves, legal) = sequence-layer others next are p (dice_of roll) moves q (roll-dice roll right) legal.sequence is
