use Rattle.std.proofs.Common.{◌∙◌, List, All, ap, sym, subst}
use Rattle.move_rules.specs.declared.play.Entry.{Entry}
use Rattle.move_rules.specs.Order.{ends_of}
use Rattle.best_reply.specs.Tables.{LeavesLive}
use Rattle.best_reply.proofs.Listed.{are-listed, listed-live}
use Rattle.best_reply.proofs.roll_lefts.RollLefts.fill.Goals as goal

pub put_lefts-requires-clause-live : goal.put_lefts-requires-clause-live
put_lefts-requires-clause-live c =
    subst (λ (list : List Entry). All (LeavesLive c.args.index.now) (ends_of list)) (sym c.as_slice.ensures.value)
    (listed-live c.args.index.now c.args.position.now c.self.inside.roll (ends_of c.plays.new.list.items) c.high-high.ensures.valid c.requires.valid c.requires.live c.requires.checkers c.plays.ensures.ends)

pub invariant_of-self : goal.invariant_of-self
invariant_of-self c = record {
  listed = are-listed c.args.position.now c.self.inside.roll c.self.inside.times c.plays.new.list.items _ c.high-high.ensures.valid (c.put_lefts.ensures.ends ∙ ap ends_of c.as_slice.ensures.value) c.plays.ensures.some c.plays.ensures.ends c.plays.ensures.first c.plays.ensures.in_order;
  right = c.put_lefts.ensures.right;
}
