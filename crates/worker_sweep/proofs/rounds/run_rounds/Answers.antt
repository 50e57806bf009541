use Rattle.std.proofs.Common.{List, ap, subst, sym}
use Rattle.interval_words.specs.declared.view.Note.{Note}
use Rattle.interval_words.specs.Core.{noted}
use Rattle.worker_sweep.specs.LastRounds.{IsLastRound}
use Rattle.worker_sweep.proofs.LastLemmas.{closed-last}
use Rattle.worker_sweep.proofs.rounds.run_rounds.Goals as goal

pub returns-clause-rounds : goal.returns-clause-rounds
returns-clause-rounds g c =
    let game = c.in_ok-board.board.game in
    let closed = c.in_ok-closed in
    closed-last game closed.closed c.args.goal c.args.rounds c.in_ok-owner.field-0.rounds c.split-known.result.view.notes closed.ensures.game closed.ensures.rounds closed.ensures.noted
    (subst (λ (notes : List Note). IsLastRound game c.args.goal c.args.rounds (noted game notes) c.in_ok-owner.field-0.rounds) (sym (ap (λ s. s.view.notes) c.split-known.ensures.copy)) c.in_ok-owner.ensures.rounds)
