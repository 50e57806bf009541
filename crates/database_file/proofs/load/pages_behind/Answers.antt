use Rattle.std.proofs.Common.{◌*◌, ◌≤◌, arith}
use Rattle.std.proofs.Math.Nat.{mul-le-mul}
use Rattle.base_head.proofs.Counts.{header-kinds-few, header-positions-few}
use Rattle.database_file.proofs.load.pages_behind.Goals as goal

pub overflow_mul-result-4 : goal.overflow_mul-result-4
overflow_mul-result-4 c =
    let header = c.args.header.now in
    let kinds = header-kinds-few header c.requires in
    let few : 2 * c.from-kinds.result ≤ 28 = omega (arith, kinds, c.from-kinds.ensures) in
    omega (arith, mul-le-mul few (header-positions-few header c.requires))
