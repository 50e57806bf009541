-- Whole plays after the sides have passed each other.
use Rattle.std.proofs.Common.{◌≡◌, ◌≤◌, ◌<◌, ◌+◌, ℕ, zero, suc, Bool, true, false, cond, eqb, List, [], ◌∷◌, Some, None, length, refl, ap, sym, subst, arith}
use Rattle.std.specs.List.{slice_get, remove}
use Rattle.position_rank.specs.Placement.{Placement, swap}
use Rattle.roll_table.specs.Rolls.{Dice, IsRoll, dice_of}
use Rattle.move_rules.specs.Sequences.{IsSequence, IsLegalEnd}
use Rattle.move_rules.specs.declared.play.Move.{Move}
use Rattle.move_rules.proofs.StayLive.{AreDice, mover-stays, legal_end-stays}
use Rattle.move_rules.specs.Payoff.{points}
use Rattle.turn_rule.proofs.Within.{in_play}
use Rattle.race_table.specs.Races.{HavePassed, IsRace, pips, pips_of}
use Rattle.race_table.specs.FreePlays.{against}
use Rattle.race_table.proofs.Moves.{move-ran, can-move}

dice-at : (dice : List ℕ) (i die : ℕ) → AreDice dice → slice_get dice i ≡ Some die → 1 ≤ die
dice-at [] i die right e = absurd (grind arith)
dice-at (d ∷ dice) zero die right e = let same : d ≡ die = cc in omega (arith, right.0, same)
dice-at (d ∷ dice) (suc i) die right e = dice-at dice i die right.1 e

dice-left : (dice : List ℕ) (i : ℕ) → AreDice dice → AreDice (remove dice i)
dice-left [] zero right = right
dice-left [] (suc i) right = right
dice-left (d ∷ dice) zero right = right.1
dice-left (d ∷ dice) (suc i) right = (right.0, dice-left dice i right.1)

right-dice : (roll : Dice) → IsRoll roll → AreDice (dice_of roll)
right-dice roll right = of (eqb roll.high roll.low) where
  of : (b : Bool) → AreDice (cond b (roll.high ∷ roll.high ∷ roll.high ∷ roll.high ∷ []) (roll.high ∷ roll.low ∷ []))
  of true = let high : 1 ≤ roll.high = omega (arith, right.from, right.in_order) in (high, (high, (high, (high, tt))))
  of false = (omega (arith, right.from, right.in_order), (right.from, tt))

-- what a sequence of moves does
pub record Came (mover theirs dice : List ℕ) (moves : List Move) (q : Placement) : Type 0 where
  pub other : q.other ≡ theirs
  pub passed : HavePassed q
  pub nearer : pips_of q.mover + length moves ≤ pips_of mover
  pub as_well : (others : List ℕ) → HavePassed (against others mover) → IsSequence (against others mover) dice moves (against others q.mover)

pub sequence-came : (mover other dice : List ℕ) (moves : List Move) (q : Placement) → length mover ≡ 26 → AreDice dice → HavePassed (against other mover) → IsSequence (against other mover) dice moves q → Came mover other dice moves q
sequence-came mover other dice [] q places right passed e = subst (Came mover other dice []) (sym e) (record {
  other = refl;
  passed = passed;
  nearer = omega arith;
  as_well = λ others passes. refl;
})
sequence-came mover other dice (move ∷ moves) q places right passed (i, e, next, made, rest) =
    let die = dice-at dice i move.die right e in
    let ran = move-ran (against other mover) move.die move.from next places die passed made in
    let stays = mover-stays (against other mover) move.die move.from next places made in
    let next_is : next ≡ against other next.mover = ap (λ (o : List ℕ). against o next.mover) ran.other in
    let later = sequence-came next.mover other (remove dice i) moves q stays.0 (dice-left dice i right) (subst HavePassed next_is ran.passed) (subst (λ (n : Placement). IsSequence n (remove dice i) moves q) next_is rest) in
    record {
      other = later.other;
      passed = later.passed;
      nearer = omega (arith, later.nearer, ran.nearer);
      as_well = λ others passes.
          let moves_on = ran.as_well others passes in
          let still = move-ran (against others mover) move.die move.from (against others next.mover) places die passes moves_on in
          (i, e, against others next.mover, moves_on, later.as_well others still.passed);
    }

first_die : (b : Bool) (high low : ℕ) → slice_get (cond b (high ∷ high ∷ high ∷ high ∷ []) (high ∷ low ∷ [])) 0 ≡ Some high
first_die true high low = refl
first_die false high low = refl

module _ (roll : Dice) (right : IsRoll roll) where
  -- against any other side that he has passed, the mover has the same legal plays
  pub legal-as_well : (mover other others : List ℕ) (q : Placement) → length mover ≡ 26 → HavePassed (against other mover) → HavePassed (against others mover) → IsLegalEnd (against other mover) roll q → IsLegalEnd (against others mover) roll (against others q.mover)
  legal-as_well mover other others q places passed passes (moves, legal) =
      let dice = right-dice roll right in
      let high : 1 ≤ roll.high = omega (arith, right.from, right.in_order) in (
        moves,
        record {
          sequence = (sequence-came mover other (dice_of roll) moves q places dice passed legal.sequence).as_well others passes;
          longest = λ more end s. legal.longest more (against other end.mover) ((sequence-came mover others (dice_of roll) more end places dice passes s).as_well other passed);
          higher = λ one apart can. legal.higher one apart (can.0, against other can.1.mover, (move-ran (against others mover) roll.high can.0 can.1 places high passes can.2).as_well other passed);
        },
      )

  module _ (p : Placement) (race : IsRace p) (q : Placement) (end : IsLegalEnd p roll q) where
    pub legal-came : Came p.mover p.other (dice_of roll) end.0 q
    legal-came = sequence-came p.mover p.other (dice_of roll) end.0 q race.position.mover.places (right-dice roll right) race.passed end.1.sequence

    -- some checker moves
    pub legal-moves : 1 ≤ length end.0
    legal-moves =
        let can = can-move p roll.high race (omega (arith, right.from, right.in_order)) right.to in
        end.1.longest (record { from = can.0; die = roll.high } ∷ []) can.1 (0, first_die (eqb roll.high roll.low) roll.high roll.low, can.1, can.2, refl)

    pub legal-nearer : pips q < pips p
    legal-nearer = omega (arith, legal-came.nearer, legal-moves, ap pips_of legal-came.other)

    pub legal-race : points q ≡ None → IsRace (swap q)
    legal-race on =
        let stays = legal_end-stays p roll q right race.position race.live end in
        record {
          position = record { mover = stays.0.other; other = stays.0.mover; same = sym stays.0.same };
          live = stays.2 (in_play q on);
          passed = λ a b h k. omega (arith, legal-came.passed b a k h);
        }
