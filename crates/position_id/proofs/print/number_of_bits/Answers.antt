use Rattle.std.proofs.Common.{◌<◌, drop, length-drop, arith}
use Rattle.std.proofs.lemmas.Grind.{common_steps}
use Rattle.position_id.specs.Ids.{number_of_bits}
use Rattle.position_id.proofs.Bits.{number-small}
use Rattle.position_id.proofs.print.number_of_bits.Goals as goal

pub overflow_mul-number : goal.overflow_mul-number
overflow_mul-number c =
    let small : number_of_bits (drop c.loop-bit.bit c.args.bits.now) < 128 = number-small (drop c.loop-bit.bit c.args.bits.now) 7 (omega (arith, length-drop c.loop-bit.bit c.args.bits.now)) in
    omega arith

pub overflow_add-number : goal.overflow_add-number
overflow_add-number c =
    let small : number_of_bits (drop c.loop-bit.bit c.args.bits.now) < 128 = number-small (drop c.loop-bit.bit c.args.bits.now) 7 (omega (arith, length-drop c.loop-bit.bit c.args.bits.now)) in
    grind (arith, common_steps)
