use Rattle.base_scan.proofs.TestTexts.{number-none}
use Rattle.base_scan.proofs.words.read_number.Goals as goal

pub returns-in_err-count : goal.returns-in_err-count
returns-in_err-count c =
    rw c.from_residual.ensures (number-none c.args.text.now c.cut_minus-minus.result.1.now c.cut_minus-minus.result.0 c.cut_minus-minus.ensures.cut c.cut_minus-minus.ensures.none c.in_err-count.ensures)
