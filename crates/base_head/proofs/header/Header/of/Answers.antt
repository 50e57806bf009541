use Rattle.std.proofs.Common.{arith}
use Rattle.base_head.proofs.Counts.{ladder-few}
use Rattle.base_head.proofs.header.Header.of.Goals as goal

pub overflow_cast-result-2 : goal.overflow_cast-result-2
overflow_cast-result-2 c =
    let starts = c.len.ensures.valid in
    omega (arith, c.len.ensures.pairs, starts.room, ladder-few _ starts.from starts.to)
