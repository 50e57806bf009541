use Rattle.interval_words.specs.Seats.{SitsAt}
use Rattle.game_census.proofs.widths.widest.Given as goal

abbrev pub invariant-loop-state : goal.invariant-loop-state
invariant-loop-state l = SitsAt l.board l.seat
