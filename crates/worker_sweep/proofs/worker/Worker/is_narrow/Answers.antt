use Rattle.std.proofs.Common.{ℕ, ap, sym, subst, ◌∙◌}
use Rattle.interval_words.specs.Seats.{SitsAt, KeepsNotes}
use Rattle.interval_words.specs.WordLists.{AreNarrow}
use Rattle.turn_rule.specs.Turn.{rounds}
use Rattle.interval_words.proofs.SeatNotes.{sits-kept}
use Rattle.interval_words.proofs.Narrow.{wide-rounds}
use Rattle.worker_sweep.proofs.TakeIn.{honest-kept, room-at}
use Rattle.worker_sweep.proofs.worker.Worker.is_narrow.Goals as goal

sits : (c : goal.After-is_narrow) → SitsAt c.args.board.now c.self.inside.seat
sits c = subst (SitsAt c.args.board.now) (sym (ap (λ w. w.seat) c.self.view_is)) c.requires.works.seat

pub invariant_of-self : goal.invariant_of-self
invariant_of-self c =
    let board = c.args.board.now in
    let old = c.self.inside.seat in
    let new = c.is_narrow.new.seat in
    let kept = c.is_narrow.ensures.keeps in (
      record { marks = honest-kept old new c.self.inside.swept.items kept c.self.invariant.0.marks },
      room-at board old new c.self.inside.turns (sits c) (sits-kept board old new kept (sits c)) c.self.invariant.1,
    )

pub returns-clause-seat : goal.returns-clause-seat
returns-clause-seat c = subst (λ s. KeepsNotes s c.is_narrow.new.seat) (ap (λ w. w.seat) c.self.view_is) c.is_narrow.ensures.keeps

pub returns-clause-work : goal.returns-clause-work
returns-clause-work c = c.is_narrow.ensures.work ∙ ap (λ w. w.seat.view.work) c.self.view_is

pub returns-clause-wide : goal.returns-clause-wide
returns-clause-wide c = λ so.
    let game = c.args.board.now.game in
    subst (λ (n : ℕ). AreNarrow game (rounds game.stakes n) c.args.width → ⊥) (ap (λ w. w.seat.view.base) c.self.view_is)
    (wide-rounds game c.self.inside.seat c.args.width (c.is_narrow.ensures.wide so))
