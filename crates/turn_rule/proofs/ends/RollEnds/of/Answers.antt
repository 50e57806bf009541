use Rattle.std.proofs.Common.{◌<◌, ◌∙◌, ℕ, List, [], ◌∷◌, ◌++◌, length, map, take, All, ap, sym, subst, zero, suc, arith}
use Rattle.std.proofs.lemmas.List.{take_more, map-append}
use Rattle.std.proofs.lemmas.List.Elements.{All-append}
use Rattle.roll_table.specs.Rolls.{Dice}
use Rattle.turn_rule.specs.declared.ends.OneRoll.{OneRoll}
use Rattle.turn_rule.specs.Rolled.{HasEnds, weighted}
use Rattle.turn_rule.proofs.ends.RollEnds.of.Goals as goal

one_alone : (P : OneRoll → Type 0) (one : OneRoll) → P one → All P (one ∷ [])
one_alone P one h zero d below = h
one_alone P one h (suc k) d below = absurd (omega arith)

pub loop-roll-preserved : goal.loop-roll-preserved
loop-roll-preserved c =
    let rolls = c.rolls.result in
    let i = c.loop-roll.roll-index in
    let kept = c.loop-roll.kept.items in
    let one = c.fill.new.self in
    let here : i < length rolls = omega (arith, c.type_inv.roll-items, c.loop-roll-test.true) in
    let P = λ (x : OneRoll). HasEnds c.args.position.now x in
    record {
      rolls =
          ap (map weighted) c.push.ensures.items
          ∙ (map-append weighted kept (one ∷ [])
          ∙ (ap (λ (xs : List (Dice × ℕ)). xs ++ weighted one ∷ []) c.loop-roll.invariant.rolls
          ∙ (ap (λ (w : Dice × ℕ). take i rolls ++ w ∷ []) c.fill.ensures.weighted ∙ sym (take_more rolls i c.loop-roll-item.result here))));
      ends = subst (λ (xs : List OneRoll). All P xs) (sym c.push.ensures.items) (All-append P kept (one ∷ []) c.loop-roll.invariant.ends (one_alone P one c.fill.ensures.ends));
    }
