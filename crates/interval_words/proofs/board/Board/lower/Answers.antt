use Rattle.std.proofs.Common.{arith}
use Rattle.std.proofs.lemmas.Int.{ints}
use Rattle.directed_fixed.specs.declared.bounds.End.TheVariants.{Upper}
use Rattle.interval_words.proofs.SeatNotes.{keeps-noting, may-tighten, brings-read, brings-after}
use Rattle.interval_words.proofs.board.Board.lower.Goals as goal

pub lower_word-requires-clause-value : goal.lower_word-requires-clause-value
lower_word-requires-clause-value c =
    let may = c.requires.value in
    let kept = keeps-noting c.args.self.now c.args.seat.now c.read_upper.new.seat _ _ c.read_upper.ensures.seat c.requires.seat in
    may-tighten c.args.self.now c.args.seat.now c.read_upper.new.seat c.args.state c.args.value Upper may.position may.kind c.read_upper.ensures.held.kept.game.stakes kept c.requires.seat may.number may.loose.state may.loose.within may.loose.loose may.loose.hand

pub returns-then-units-clause-brings : goal.returns-then-units-clause-brings
returns-then-units-clause-brings c =
    brings-after c.args.self.now c.args.seat.now c.read_upper.new.seat c.lower_word.new.seat Upper c.args.state c.read_upper.result c.args.value c.read_upper.ensures.seat c.lower_word.ensures.seat c.requires.seat

pub returns-else-units-clause-brings : goal.returns-else-units-clause-brings
returns-else-units-clause-brings c =
    brings-read c.args.self.now c.args.seat.now c.read_upper.new.seat Upper c.args.state c.read_upper.result c.args.value c.read_upper.ensures.seat c.requires.seat
    (omega (arith, ints, c.if-units.false, c.units.ensures.value, c.units-2.ensures.value))
