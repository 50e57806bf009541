use Rattle.std.proofs.Common.{◌≡◌, ◌+◌, ◌*◌, length}
use Rattle.turn_rule.specs.Games.{kinds_of}
use Rattle.interval_words.specs.Numbers.{state_of}
use Rattle.best_reply.specs.Outcomes.{AreAdvised}
use Rattle.best_reply.proofs.position_lefts.PositionLefts.push_advised.Given as goal

-- the rolls so far
abbrev pub invariant-loop-one : goal.invariant-loop-one
invariant-loop-one l = record {
  advised : AreAdvised l.words l.outcomes.items;
  many : length l.outcomes.items ≡ state_of (kinds_of l.words.game) l.self l.number * 21 + l.one-index;
}
