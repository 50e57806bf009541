use Rattle.std.proofs.Common.{◌≡◌, drop}
use Rattle.position_id.specs.Ids.{number_of_bits}
use Rattle.position_id.proofs.print.number_of_bits.Given as goal

abbrev pub invariant-loop-bit : goal.invariant-loop-bit
invariant-loop-bit l = l.number ≡ number_of_bits (drop l.bit l.bits)
