use Rattle.std.specs.Int.{w32}
use Rattle.std.proofs.Common.{ap, arith}
use Rattle.std.specs.Int.{from_bool}
use Rattle.std.proofs.lemmas.Nat.Bits.{bit_at-lt, bit_at_set_same, bit_at_set_other}
use Rattle.position_rank.proofs.PointLaws.{marked-within}
use Rattle.position_rank.proofs.points.marked.Goals as goal

pub returns-then-mark-clause-within : goal.returns-then-mark-clause-within
returns-then-mark-clause-within c = marked-within c.args.bits c.args.place c.requires.within c.requires.place

pub returns-then-mark-clause-at : goal.returns-then-mark-clause-at
returns-then-mark-clause-at c =
    omega (arith, bit_at_set_same w32 c.args.bits c.args.place (omega (arith, c.requires.place)), ap from_bool c.if-mark.true, bit_at-lt c.args.bits c.args.place)

pub returns-then-mark-clause-same : goal.returns-then-mark-clause-same
returns-then-mark-clause-same c = bit_at_set_other w32 c.args.bits c.args.place (omega (arith, c.requires.place))
