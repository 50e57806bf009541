use Rattle.std.proofs.Common.{◌%◌, eqb, [], ◌∷◌, ◌∙◌, ap, length, length-append, arith}
use Rattle.position_id.proofs.Made.{bit-made}
use Rattle.position_id.proofs.read.push_bits.Goals as goal

pub loop-preserved : goal.loop-preserved
loop-preserved c = record {
  bits = bit-made c.loop.counter c.loop.rest c.loop.bits.items c.push.new.self.items c.loop-test.true c.push.ensures.items ∙ c.loop.invariant.bits;
  length = omega (arith, ap length c.push.ensures.items, length-append c.loop.bits.items (eqb (c.loop.rest % 2) 1 ∷ []));
}
