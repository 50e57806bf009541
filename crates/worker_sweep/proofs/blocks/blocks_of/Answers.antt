use Rattle.std.proofs.Common.{arith}
use Rattle.worker_sweep.proofs.BlockLemmas.{some-blocks}
use Rattle.worker_sweep.proofs.blocks.blocks_of.Goals as goal

pub returns-clause-some : goal.returns-clause-some
returns-clause-some c = omega (arith, some-blocks c.args.checkers c.requires.low c.requires.high, c.from.ensures, c.layout_count.ensures.count)
