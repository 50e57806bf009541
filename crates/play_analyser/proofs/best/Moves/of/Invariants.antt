use Rattle.std.proofs.Common.{◌≡◌, take, length}
use Rattle.play_analyser.proofs.best.Moves.of.Given as goal

-- the moves so far
abbrev pub invariant-loop-i : goal.invariant-loop-i
invariant-loop-i l = record {
  room : length l.list ≡ 4;
  same : take l.i l.list ≡ take l.i l.play.items;
}
