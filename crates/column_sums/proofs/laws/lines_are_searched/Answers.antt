use Rattle.std.proofs.Common.{[]}
use Rattle.column_sums.proofs.Cascades.{full-most}
use Rattle.column_sums.proofs.laws.lines_are_searched.Goals as goal

pub returns : goal.returns
returns c = λ value dice p. full-most value dice [] p
