use Rattle.std.proofs.Common.{◌<◌, ◌∙◌, ◌∷◌, [], ◌++◌, ℕ, List, All, length, map, get_or, ap, sym, subst, arith}
use Rattle.std.proofs.lemmas.List.{map-append, take_more}
use Rattle.std.proofs.lemmas.List.Elements.{All-push}
use Rattle.roll_table.specs.Rolls.{Dice}
use Rattle.race_table.specs.declared.free_plays.FreeRoll.{FreeRoll}
use Rattle.race_table.specs.FreePlays.{HasFreeEnds, weighted_turns}
use Rattle.race_table.proofs.free_plays.free_rolls.Goals as goal

pub loop-roll-preserved : goal.loop-roll-preserved
loop-roll-preserved c =
    let rolls = c.rolls.result in
    let i = c.loop-roll.roll-index in
    let kept = c.loop-roll.kept.items in
    let here : i < length rolls = omega (arith, c.type_inv.roll-items, c.loop-roll-test.true) in
    let roll = get_or rolls i c.loop-roll-item.result in
    let one : FreeRoll = record { roll = roll.0; times = roll.1; ends = c.in_ok-free_ends.field-0 } in
    let P = λ (x : FreeRoll). HasFreeEnds c.args.mover.now x in
    let items = c.in_ok-push.ensures.items in
    record {
      rolls =
          ap (map weighted_turns) items
          ∙ (map-append weighted_turns kept (one ∷ [])
          ∙ (ap (λ (xs : List (Dice × ℕ)). xs ++ roll ∷ []) c.loop-roll.invariant.rolls
          ∙ sym (take_more rolls i c.loop-roll-item.result here)));
      ends = subst (λ (xs : List FreeRoll). All P xs) (sym items) (All-push P kept one c.loop-roll.invariant.ends c.in_ok-free_ends.ensures);
    }
