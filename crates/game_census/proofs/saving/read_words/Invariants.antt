use Rattle.interval_words.specs.Seats.{SitsAt}
use Rattle.game_census.specs.Saved.{WereRead}
use Rattle.game_census.proofs.saving.read_words.Given as goal

abbrev pub invariant-loop-state : goal.invariant-loop-state
invariant-loop-state l = record {
  sits : SitsAt l.board l.seat;
  read : WereRead l.board.game l.state l.list.items;
}
