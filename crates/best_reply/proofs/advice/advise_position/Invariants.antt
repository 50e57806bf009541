use Rattle.std.proofs.Common.{◌≡◌, ◌+◌, ◌*◌, length}
use Rattle.turn_rule.specs.Games.{kinds_of}
use Rattle.best_reply.specs.Outcomes.{AreAdvised}
use Rattle.best_reply.proofs.advice.advise_position.Given as goal

-- the kinds so far
abbrev pub invariant-loop-number : goal.invariant-loop-number
invariant-loop-number l = record {
  advised : AreAdvised l.words l.outcomes.items;
  many : length l.outcomes.items ≡ (l.rank * kinds_of l.words.game + l.number) * 21;
}
