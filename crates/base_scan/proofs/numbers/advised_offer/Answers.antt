use Rattle.std.proofs.Common.{◌∙◌, arith}
use Rattle.std.proofs.lemmas.Int.{ints}
use Rattle.base_scan.proofs.Advised.{offer-is}
use Rattle.base_scan.proofs.numbers.advised_offer.Goals as goal

pub returns : goal.returns
returns c =
    let is = c.offered.ensures ∙ offer-is c.args.words.now c.args.position.now c.args.kind c.advice_over.result c.advice_over.ensures in
    omega (arith, ints, is)
