use Rattle.std.proofs.Common.{[], ◌∷◌, ◌∙◌, ap, length, length-append, arith}
use Rattle.position_id.proofs.Made.{byte-made, bytes-made}
use Rattle.position_id.proofs.print.key_bytes.Goals as goal

pub loop-byte-preserved : goal.loop-byte-preserved
loop-byte-preserved c = record {
  bytes = byte-made c.key_bits-bits.result.items c.deref.result.now c.loop-byte.key.items c.push.new.self.items c.loop-byte.byte c.number_of_bits.result c.loop-byte-test.true c.deref.ensures.0 c.number_of_bits.ensures c.push.ensures.items ∙ c.loop-byte.invariant.bytes;
  length = omega (arith, ap length c.push.ensures.items, length-append c.loop-byte.key.items (c.number_of_bits.result ∷ []));
}

pub returns : goal.returns
returns c = bytes-made c.args.position.now c.key_bits-bits.result.items c.loop-byte.key.items c.loop-byte.byte _ c.key_bits-bits.ensures.bits (omega arith) c.loop-byte.invariant.bytes
