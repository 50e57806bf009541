use Rattle.std.proofs.Common.{◌≡◌, ℕ, ◌<◌, ◌≤ℤ◌}
use Rattle.position_rank.specs.Placement.{Placement}
use Rattle.turn_rule.specs.Games.{kinds_of}
use Rattle.turn_rule.specs.States.{IsState, pair_of}
use Rattle.interval_words.specs.Numbers.{state_of}
use Rattle.interval_words.specs.Core.{noted}
use Rattle.interval_words.specs.Seats.{KeepsNotes}
use Rattle.interval_words.specs.WordLists.{width}
use Rattle.interval_words.proofs.board.Board.is_narrow.Given as goal

abbrev pub invariant-loop-state : goal.invariant-loop-state
invariant-loop-state l = record {
  keeps : KeepsNotes l.initial.seat l.seat;
  work : l.seat.view.work ≡ l.initial.seat.view.work;
  narrow : (p : Placement) (k : ℕ) → IsState l.self.game p k → state_of (kinds_of l.self.game) p k < l.state → width (pair_of (noted l.self.game l.seat.view.notes) p k) ≤ℤ l.width;
}
