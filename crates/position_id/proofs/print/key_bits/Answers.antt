use Rattle.std.proofs.Common.{arith}
use Rattle.position_id.proofs.Made.{board-made, key-made}
use Rattle.position_id.proofs.print.key_bits.Goals as goal

pub returns-clause-bits : goal.returns-clause-bits
returns-clause-bits c =
    let board = board-made c.args.position.now c.new-bits.result.items c.push_side.new.bits.items c.push_side-2.new.bits.items c.new-bits.ensures (rw c.other.ensures.other at c.push_side.ensures.bits) (rw c.mover.ensures.mover at c.push_side-2.ensures.bits) in
    key-made c.args.position.now c.push_side-2.new.bits.items c.loop.bits.items c.loop.counter board (omega arith) c.loop.invariant.bits
