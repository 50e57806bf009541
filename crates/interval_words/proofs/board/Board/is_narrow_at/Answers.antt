use Rattle.std.proofs.Common.{◌-ℤ◌, ◌≤ℤ◌, ◌<ℤ◌, arith}
use Rattle.std.proofs.lemmas.Int.{ints}
use Rattle.interval_words.proofs.Narrow.{keeps-both, narrow-noted, wide-known}
use Rattle.interval_words.proofs.board.Board.is_narrow_at.Goals as goal

pub returns-clause-keeps : goal.returns-clause-keeps
returns-clause-keeps c = keeps-both c.args.self.now c.args.seat.now c.read_lower-lower.new.seat c.read_upper-upper.new.seat c.args.state c.read_lower-lower.result c.read_upper-upper.result c.args.width c.read_lower-lower.ensures.seat c.read_upper-upper.ensures.seat c.requires.seat

pub returns-clause-narrow : goal.returns-clause-narrow
returns-clause-narrow c so =
    let less : (c.read_upper-upper.result -ℤ c.read_lower-lower.result) ≤ℤ c.args.width = omega (arith, ints, so, c.units.ensures.value, c.units-2.ensures.value, c.units-3.ensures.value, c.units.ensures.within.from, c.units.ensures.within.to, c.units-2.ensures.within.from, c.units-2.ensures.within.to) in
    narrow-noted c.args.self.now c.args.seat.now c.read_lower-lower.new.seat c.read_upper-upper.new.seat c.args.state c.read_lower-lower.result c.read_upper-upper.result c.args.width c.read_lower-lower.ensures.seat c.read_upper-upper.ensures.seat c.requires.seat less

pub returns-clause-wide : goal.returns-clause-wide
returns-clause-wide c so =
    let more : c.args.width <ℤ (c.read_upper-upper.result -ℤ c.read_lower-lower.result) = omega (arith, ints, so, c.units.ensures.value, c.units-2.ensures.value, c.units-3.ensures.value, c.units.ensures.within.from, c.units.ensures.within.to, c.units-2.ensures.within.from, c.units-2.ensures.within.to) in
    wide-known c.args.self.now c.args.seat.now c.read_lower-lower.new.seat c.read_upper-upper.new.seat c.args.state c.read_lower-lower.result c.read_upper-upper.result c.args.width c.read_lower-lower.ensures.seat c.read_upper-upper.ensures.seat c.requires.seat more c.requires.state c.read_lower-lower.ensures.tight c.read_upper-upper.ensures.tight
