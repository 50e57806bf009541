use Rattle.std.proofs.Common.{◌≡◌, length, ap, sym, subst}
use Rattle.interval_words.specs.Seats.{SitsAt}
use Rattle.worker_sweep.specs.Workers.{unmarked}
use Rattle.worker_sweep.proofs.TakeIn.{none-marked, room-at}
use Rattle.worker_sweep.proofs.worker.Worker.follow.Goals as goal

pub invariant_of-self : goal.invariant_of-self
invariant_of-self c =
    let board = c.args.board.now in
    let own = subst (SitsAt board) (sym (ap (λ w. w.seat) c.self.view_is)) c.requires.own in
    let new = subst (SitsAt board) (sym c.join.ensures) (record { table = own.table; game = own.game }) in (
      none-marked _ (length c.self.inside.swept.items) (subst (λ w. w.marks ≡ unmarked (length w.marks)) (sym c.self.view_is) c.requires.marks),
      room-at board c.self.inside.seat c.join.new.seat c.self.inside.turns own new c.self.invariant.1,
    )
