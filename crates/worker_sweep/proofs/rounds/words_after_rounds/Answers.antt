use Rattle.worker_sweep.proofs.LastLemmas.{closed-last}
use Rattle.worker_sweep.proofs.rounds.words_after_rounds.Goals as goal

pub returns-clause-rounds : goal.returns-clause-rounds
returns-clause-rounds g c =
    let closed = c.in_ok-closed in
    closed-last c.in_ok-board.board.game closed.closed c.args.goal c.args.rounds c.in_ok-owner.field-0.rounds c.in_ok-owner.field-0.owner.view.notes closed.ensures.game closed.ensures.rounds closed.ensures.noted c.in_ok-owner.ensures.rounds
