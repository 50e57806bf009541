use Rattle.directed_fixed.specs.declared.bounds.End.TheVariants.{Lower}
use Rattle.worker_sweep.proofs.SeatLemmas.{looked-noting, knows-within}
use Rattle.interval_words.proofs.SeatNotes.{sits-noting, floor-noting}
use Rattle.worker_sweep.proofs.seat_pairs.SeatPairsPairs.lower_at.Goals as goal

pub invariant_of-self : goal.invariant_of-self
invariant_of-self c =
    let sits = sits-noting c.args.self.now.board.now c.args.self.now.seat _ _ _ c.read_lower.ensures.seat c.args.self.now.sits in
    record {
      sits = sits;
      floor = floor-noting c.args.self.now.board.now c.args.self.now.seat _ _ _ c.read_lower.ensures.seat c.args.self.now.sits c.args.self.now.floor;
      noted_within = knows-within c.args.self.now.board.now _ sits c.read_lower.ensures.knows;
    }

pub returns-clause-looked : goal.returns-clause-looked
returns-clause-looked c =
    looked-noting c.args.self.now.board.now c.args.self.now.seat _ c.number_at-state.result _ Lower c.args.position.now c.args.kind c.read_lower.ensures.seat c.args.self.now.sits c.number_at-state.ensures.number c.read_lower.ensures.within
    (c.read_lower.ensures.tight c.args.position.now c.args.kind c.requires.state c.number_at-state.ensures.number)
