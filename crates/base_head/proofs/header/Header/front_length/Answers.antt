use Rattle.std.proofs.Common.{arith}
use Rattle.base_head.proofs.Counts.{digest_place-low}
use Rattle.base_head.proofs.header.Header.front_length.Goals as goal

pub overflow_add-result : goal.overflow_add-result
overflow_add-result c = omega (arith, c.digest_place.ensures, digest_place-low c.args.self.now c.requires)
