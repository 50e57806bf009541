use Rattle.std.proofs.Common.{◌≡◌, ℕ, length}
use Rattle.position_rank.specs.Placement.{Placement}
use Rattle.turn_rule.specs.Looks.{Source, Notes}
use Rattle.column_turns.specs.Turns.{AreSummed, AreTurnsOf}
use Rattle.column_turns.proofs.turns.pair_positions.Given as goal

-- the positions so far
abbrev pub invariant-loop-i : goal.invariant-loop-i
invariant-loop-i l = record {
  room : length l.pairs ≡ length l.fn.pairs;
  turns : (source : Source) (noted : Notes) (place : ℕ → Placement) → AreSummed source noted l.stakes place l.many l.lower l.upper → AreTurnsOf source noted l.stakes place l.i l.pairs;
}
