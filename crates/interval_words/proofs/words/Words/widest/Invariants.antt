use Rattle.std.proofs.Common.{◌≡◌, pos}
use Rattle.interval_words.proofs.Lists.{AreWidths}
use Rattle.interval_words.proofs.words.Words.widest.Given as goal

abbrev pub invariant-loop-state : goal.invariant-loop-state
invariant-loop-state l = record {
  so_far : AreWidths l.self-inside.list.items l.state l.widest;
  none : l.state ≡ 0 → l.widest ≡ pos 0;
}
