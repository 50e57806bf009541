use Rattle.std.proofs.Common.{subst}
use Rattle.cube_actions.specs.Stakes.{IsValid}
use Rattle.interval_words.proofs.TurnLaws.{all-rounds-within}
use Rattle.worker_sweep.proofs.SeatLemmas.{knows-within}
use Rattle.worker_sweep.proofs.seat_pairs.SeatPairs.new.Goals as goal

pub invariant_of-result : goal.invariant_of-result
invariant_of-result c = record {
  sits = c.requires;
  floor = all-rounds-within c.args.board.now.game (subst IsValid c.stakes.ensures c.bound.ensures.valid) c.args.seat.view.base;
  noted_within = knows-within c.args.board.now c.args.seat c.requires c.knows.ensures;
}
