use Rattle.std.proofs.Common.{◌≡◌, take}
use Rattle.move_rules.specs.Order.{ends_of}
use Rattle.turn_rule.specs.Rolled.{weighted}
use Rattle.turn_rule.proofs.ends.OneRoll.fill.Given as goal

abbrev pub invariant-loop-entry : goal.invariant-loop-entry
invariant-loop-entry l = record {
  weighted : weighted l.self ≡ weighted l.fn.self;
  ends : l.self.ends.items ≡ ends_of (take l.entry-index l.entry-items);
}
