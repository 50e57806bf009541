use Rattle.std.proofs.Common.{◌<◌, length, arith, ap, sym, subst, ◌∙◌}
use Rattle.interval_words.specs.Seats.{SitsAt, KeepsNotes}
use Rattle.interval_words.proofs.SeatNotes.{sits-kept}
use Rattle.worker_sweep.specs.Blocks.{WorksIn}
use Rattle.worker_sweep.proofs.TakeIn.{honest-swept, room-of, has-room}
use Rattle.worker_sweep.proofs.worker.Worker.sweep.Goals as goal

sits : (c : goal.After-sweep_column-arg-1) → SitsAt c.args.board.now c.self.inside.seat
sits c = subst (SitsAt c.args.board.now) (sym (ap (λ w. w.seat) c.self.view_is)) c.requires.works.seat

pub sweep_column-requires-clause-room : goal.sweep_column-requires-clause-room
sweep_column-requires-clause-room c = room-of c.args.board.now c.self.inside.seat c.self.inside.turns (sits c) c.self.invariant.1

pub invariant_of-self : goal.invariant_of-self
invariant_of-self c =
    let board = c.args.board.now in
    let old = c.self.inside.seat in
    let seat_is = c.replace-seat.ensures.value ∙ c.split-copy.ensures.seat in
    let kept = subst (λ s. KeepsNotes s c.sweep_column.result) seat_is c.sweep_column.ensures.kept in
    let inside : c.args.block < length c.self.inside.swept.items = omega (arith, c.requires.block, c.requires.works.marks, ap (λ w. length w.marks) c.self.view_is) in
    let at : SitsAt board old = subst (SitsAt board) (sym (ap (λ w. w.seat) c.self.view_is)) c.requires.works.seat in (
      record { marks = honest-swept board old c.sweep_column.result c.self.inside.swept.items c.args.block at kept inside c.self.invariant.0.marks c.sweep_column.ensures.swept },
      has-room board c.sweep_column.result c.sweep_column.new.turns (sits-kept board old c.sweep_column.result kept at) c.sweep_column.ensures.room,
    )

pub returns-clause-works : goal.returns-clause-works
returns-clause-works c = subst (λ s. WorksIn c.args.board.now.game c.args.block s c.sweep_column.result) (c.replace-seat.ensures.value ∙ (c.split-copy.ensures.seat ∙ ap (λ w. w.seat) c.self.view_is)) c.sweep_column.ensures.works

pub sweep_column-requires-clause-hand : goal.sweep_column-requires-clause-hand
sweep_column-requires-clause-hand c = omega (arith, c.requires.works.hand, ap (λ s. s.view.hands) (c.replace-seat.ensures.value ∙ (c.split-copy.ensures.seat ∙ ap (λ w. w.seat) c.self.view_is)))
