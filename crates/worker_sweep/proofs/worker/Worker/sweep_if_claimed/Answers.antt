use Rattle.std.proofs.lemmas.Bool.{cases_lt}
use Rattle.std.proofs.Common.{inl, inr, rules, ◌+◌, length, arith, refl, sym, subst, ap, ◌∙◌}
use Rattle.std.specs.Bool.{IsTrue}
use Rattle.worker_sweep.specs.Workers.{WentThrough}
use Rattle.worker_sweep.proofs.Going.{went-on, went-sweeping}
use Rattle.worker_sweep.proofs.worker.Worker.sweep_if_claimed.Goals as goal

pub returns-then-not-claim-clause-through : goal.returns-then-not-claim-clause-through
returns-then-not-claim-clause-through g c = λ first went.
    let old = subst (WentThrough c.args.board.now.game c.args.round c.args.block first) (sym c.self.view_is) went in
    went-on c.args.board.now.game c.args.round c.args.block c.claim.ensures.found first _ old _
    (elim (cases_lt c.claim.ensures.found c.args.round) [
      | inl below ↦ (let got : IsTrue c.claim.result = c.claim.ensures.answer_is.1 below in absurd (search rules))
      | inr from ↦ from
    ])
    (ap (λ s. s.view) c.claim.ensures.seat) refl refl refl

pub returns-clause-through : goal.returns-clause-through
returns-clause-through g c = λ first went.
    let old = subst (WentThrough c.args.board.now.game c.args.round c.args.block first) (sym c.self.view_is) went in
    went-sweeping c.args.board.now.game c.args.round c.args.block c.claim.ensures.found first _ old c.sweep.new.self (c.claim.ensures.answer_is.0 (search rules)) (ap (λ s. s.view) c.sweep.ensures.claims ∙ ap (λ s. s.view) c.claim.ensures.seat) (omega (arith, c.requires.block, c.requires.many, c.requires.works.marks, ap (λ s. length s.marks) c.self.view_is)) c.sweep.ensures.marks
    (c.requires.round ∙ ap (λ s. s.seat.view.base + 1) (sym c.self.view_is)) c.sweep.ensures.works c.sweep.ensures.seat.hands
