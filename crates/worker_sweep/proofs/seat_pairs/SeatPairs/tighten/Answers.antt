use Rattle.std.proofs.Common.{ℤ, sym, subst}
use Rattle.directed_fixed.specs.declared.bounds.End.TheVariants.{Lower, Upper}
use Rattle.interval_words.specs.Seats.{MayTighten, Brings}
use Rattle.worker_sweep.proofs.SeatLemmas.{knows-within, told-both, works-both}
use Rattle.interval_words.proofs.SeatNotes.{keeps-refl, keeps-trans, floor-kept, may-tighten}
use Rattle.worker_sweep.proofs.seat_pairs.SeatPairs.tighten.Goals as goal

pub raise-requires-clause-value : goal.raise-requires-clause-value
raise-requires-clause-value c =
    subst (MayTighten Lower c.args.self.now.board.now.game c.args.self.now.seat.view c.number_at-state.result) (sym c.lower.ensures.lower)
    (may-tighten c.args.self.now.board.now c.args.self.now.seat c.args.self.now.seat c.number_at-state.result c.args.pair.lower Lower c.args.position.now c.args.kind c.requires.valid (keeps-refl _) c.args.self.now.sits c.number_at-state.ensures.number c.requires.state (c.requires.pair.within Lower) (c.requires.pair.loose Lower) c.requires.hand)

pub lower-requires-2-clause-value : goal.lower-requires-2-clause-value
lower-requires-2-clause-value c =
    subst (MayTighten Upper c.args.self.now.board.now.game c.raise.new.seat.view c.number_at-state.result) (sym c.upper.ensures.upper)
    (may-tighten c.args.self.now.board.now c.args.self.now.seat c.raise.new.seat c.number_at-state.result c.args.pair.upper Upper c.args.position.now c.args.kind c.requires.valid c.raise.ensures.brings.keeps c.args.self.now.sits c.number_at-state.ensures.number c.requires.state (c.requires.pair.within Upper) (c.requires.pair.loose Upper) c.requires.hand)

pub invariant_of-self : goal.invariant_of-self
invariant_of-self c =
    let kept = keeps-trans _ _ _ c.raise.ensures.brings.keeps c.lower-2.ensures.brings.keeps in
    record {
      sits = c.lower-2.ensures.seat;
      floor = floor-kept c.args.self.now.board.now c.args.self.now.seat _ kept c.args.self.now.floor;
      noted_within = knows-within c.args.self.now.board.now _ c.lower-2.ensures.seat c.lower-2.ensures.knows;
    }

pub returns-clause-kept : goal.returns-clause-kept
returns-clause-kept c = keeps-trans _ _ _ c.raise.ensures.brings.keeps c.lower-2.ensures.brings.keeps

pub returns-clause-noted : goal.returns-clause-noted
returns-clause-noted c =
    told-both c.args.self.now.board.now c.args.self.now.seat _ _ c.number_at-state.result c.args.pair c.args.position.now c.args.kind
    (subst (λ (z : ℤ). Brings Lower c.args.self.now.board.now.game c.number_at-state.result z c.args.self.now.seat c.raise.new.seat) c.lower.ensures.lower c.raise.ensures.brings)
    (subst (λ (z : ℤ). Brings Upper c.args.self.now.board.now.game c.number_at-state.result z c.raise.new.seat c.lower-2.new.seat) c.upper.ensures.upper c.lower-2.ensures.brings)
    c.args.self.now.sits c.number_at-state.ensures.number c.requires.state

pub returns-clause-works : goal.returns-clause-works
returns-clause-works c = works-both c.args.self.now.board.now c.args.self.now.seat _ _ c.number_at-state.result _ _ c.args.position.now c.args.kind c.raise.ensures.brings c.lower-2.ensures.brings c.number_at-state.ensures.number c.requires.state
