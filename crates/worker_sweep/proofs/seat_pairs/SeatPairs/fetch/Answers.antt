use Rattle.std.proofs.Common.{ap}
use Rattle.worker_sweep.proofs.SeatLemmas.{knows-within}
use Rattle.interval_words.proofs.SeatNotes.{keeps-noting, sits-noting, floor-noting}
use Rattle.worker_sweep.proofs.seat_pairs.SeatPairs.fetch.Goals as goal

pub invariant_of-self : goal.invariant_of-self
invariant_of-self c =
    let sits = sits-noting c.args.self.now.board.now c.args.self.now.seat _ _ _ c.read_lower-word.ensures.seat c.args.self.now.sits in
    record {
      sits = sits;
      floor = floor-noting c.args.self.now.board.now c.args.self.now.seat _ _ _ c.read_lower-word.ensures.seat c.args.self.now.sits c.args.self.now.floor;
      noted_within = knows-within c.args.self.now.board.now _ sits c.read_lower-word.ensures.knows;
    }

pub returns-clause-kept : goal.returns-clause-kept
returns-clause-kept c = keeps-noting c.args.self.now.board.now c.args.self.now.seat _ _ _ c.read_lower-word.ensures.seat c.args.self.now.sits

pub returns-clause-work : goal.returns-clause-work
returns-clause-work c = ap (λ s. s.view.work) c.read_lower-word.ensures.seat
