use Rattle.std.proofs.Common.{All, sym, subst}
use Rattle.std.proofs.lemmas.List.Elements.{All-push}
use Rattle.best_reply.specs.Tables.{IsRight}
use Rattle.best_reply.proofs.Listed.{ends-push, entry-leaves}
use Rattle.best_reply.proofs.roll_lefts.put_lefts.Goals as goal

pub of-requires-clause-live : goal.of-requires-clause-live
of-requires-clause-live c = λ on. (entry-leaves c.args.index.now c.args.list.now c.requires.live c.loop-entry.entry-index c.entry-item.result c.loop-entry-test.true c.entry-item.is on).0

pub of-requires-clause-checkers : goal.of-requires-clause-checkers
of-requires-clause-checkers c = λ on. (entry-leaves c.args.index.now c.args.list.now c.requires.live c.loop-entry.entry-index c.entry-item.result c.loop-entry-test.true c.entry-item.is on).1

pub loop-entry-preserved : goal.loop-entry-preserved
loop-entry-preserved c = record {
  ends = ends-push c.loop-entry.lefts.items c.args.list.now c.loop-entry.entry-index c.entry-item.result c.of.result c.push.new.self.items c.loop-entry-test.true c.entry-item.is c.loop-entry.invariant.ends c.of.ensures.end c.push.ensures.items;
  right = subst (All IsRight) (sym c.push.ensures.items) (All-push IsRight c.loop-entry.lefts.items c.of.result c.loop-entry.invariant.right c.of.ensures.right);
}
