use Rattle.std.proofs.Common.{◌∙◌, None, sym, arith}
use Rattle.std.proofs.lemmas.List.{get_or_default}
use Rattle.base_verify.proofs.Shares.{all-parts, none-yet, part-found}
use Rattle.base_verify.proofs.consistency.first_of.Goals as goal

pub loop-part-init : goal.loop-part-init
loop-part-init c = λ words parts some are. none-yet words parts some

pub returns-in-Some : goal.returns-in-Some
returns-in-Some c = λ words parts some are.
    part-found words parts some c.args.told.now are c.loop-part.part-index (c.loop-part.invariant words parts some are) c.in-Some.finding c.loop-part-test.true
    (get_or_default c.args.told.now c.loop-part.part-index None c.part-item.result c.loop-part-test.true ∙ sym c.part-item.is ∙ c.in-Some.is)

pub returns : goal.returns
returns c = λ words parts some are.
    all-parts words parts some c.args.told.now are c.loop-part.part-index (c.loop-part.invariant words parts some are) (omega (arith, c.loop-part-test.false, c.loop-part.auto.part-index-end))
