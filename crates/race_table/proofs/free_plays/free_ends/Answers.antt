use Rattle.std.proofs.Common.{◌≡◌, ◌↔◌, map, ap, sym, subst, ◌∙◌}
use Rattle.std.specs.List.{Contains}
use Rattle.std.proofs.lemmas.List.{take_all}
use Rattle.position_rank.specs.Placement.{Placement}
use Rattle.move_rules.specs.Order.{ends_of}
use Rattle.move_rules.specs.Sequences.{IsLegalEnd}
use Rattle.race_table.specs.FreePlays.{AreFreeEnds}
use Rattle.race_table.proofs.FreeEnds.{mover_after, free-ends}
use Rattle.race_table.proofs.free_plays.free_ends.Goals as goal

pub returns : goal.returns
returns c =
    let mover = c.args.mover.now in
    let off = c.all_off.result in
    let entries = c.plays.new.list.items in
    let made = rw c.unwrap-position.ensures at c.new.ensures.value in
    let ends = subst (λ (p : Placement). (q : Placement) → Contains (ends_of entries) q ↔ IsLegalEnd p c.args.roll q) made.0 c.plays.ensures.ends in
    let all = take_all c.loop-entry.entry-index _ c.loop-entry-test.false in
    let is : c.loop-entry.ends.items ≡ map mover_after entries = c.loop-entry.invariant ∙ ap (map mover_after) (all ∙ c.as_slice-entry-items.ensures.value) in
    subst (AreFreeEnds mover c.args.roll) (sym is) (free-ends mover off c.args.roll entries c.high-high.ensures.valid c.all_off.ensures.off ends)
