use Rattle.std.proofs.Common.{◌≡◌, append-nil, refl, ap, sym, subst, ◌∙◌}
use Rattle.interval_words.specs.Seats.{SitsAt, joining, knowing, KeepsNotes}
use Rattle.interval_words.proofs.SeatNotes.{sits-kept}
use Rattle.worker_sweep.proofs.TakeIn.{honest-joined, keeps-joined, room-at}
use Rattle.worker_sweep.proofs.worker.Worker.take_in.Goals as goal

joins : (c : goal.After-move_marks) → c.join.new.seat ≡ joining c.self.inside.seat (knowing c.other.inside.seat)
joins c = c.join.ensures ∙ ap (joining c.self.inside.seat) c.split-noted.ensures.copy

same : (c : goal.After-move_marks) → c.other.inside.seat.view.base ≡ c.self.inside.seat.view.base
same c = ap (λ w. w.seat.view.base) c.other.view_is ∙ (c.requires.base ∙ sym (ap (λ w. w.seat.view.base) c.self.view_is))

pub invariant_of-self : goal.invariant_of-self
invariant_of-self c =
    let own = ap (λ w. w.seat.view.game) c.self.view_is ∙ c.requires.works.seat.game in
    let others = ap (λ w. w.seat.view.game) c.other.view_is ∙ c.requires.other.seat.game in
    let board = c.args.board.now in
    let at : SitsAt board c.self.inside.seat = subst (SitsAt board) (sym (ap (λ w. w.seat) c.self.view_is)) c.requires.works.seat in
    let kept = keeps-joined c.self.inside.seat (knowing c.other.inside.seat) _ (joins c) (same c) refl in (
      record { marks = honest-joined c.self.inside.seat (knowing c.other.inside.seat) _ (joins c) (same c) refl c.self.inside.swept.items c.other.inside.swept.items c.move_marks.new.to.items c.self.invariant.0.marks c.other.invariant.0.marks (others ∙ sym own) c.move_marks.ensures.to },
      room-at board c.self.inside.seat c.join.new.seat c.self.inside.turns at (sits-kept board _ c.join.new.seat kept at) c.self.invariant.1,
    )

pub returns-clause-seat : goal.returns-clause-seat
returns-clause-seat c = subst (λ s. KeepsNotes s c.join.new.seat) (ap (λ w. w.seat) c.self.view_is) (keeps-joined c.self.inside.seat (knowing c.other.inside.seat) _ (joins c) (same c) refl)

pub returns-clause-work : goal.returns-clause-work
returns-clause-work c = ap (λ s. s.view.work) (joins c) ∙ (append-nil _ ∙ ap (λ w. w.seat.view.work) c.self.view_is)
