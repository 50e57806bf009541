use Rattle.std.proofs.Common.{◌∙◌, arith}
use Rattle.std.proofs.lemmas.Int.{ints}
use Rattle.base_scan.proofs.Advised.{answer-is}
use Rattle.base_scan.proofs.numbers.advised_answer.Goals as goal

pub returns : goal.returns
returns c =
    let is = c.answered.ensures ∙ answer-is c.args.words.now c.args.position.now c.args.kind c.advice_over.result c.advice_over.ensures in
    omega (arith, ints, is)
