use Rattle.std.proofs.Common.{◌<◌, ◌∙◌, ◌++◌, List, Vec, Result, IfOk, sym, ap, subst, arith}
use Rattle.std.specs.Global.{Global}
use Rattle.hyper_outside.specs.declared.outside.NoMemory.{NoMemory}
use Rattle.base_scan.specs.declared.found.State.{State}
use Rattle.base_scan.specs.Found.{IsScanned}
use Rattle.base_scan.proofs.Scans.{of-all, of-more, of-none}
use Rattle.base_scan.proofs.scanning.joined.Goals as goal

pub loop-part-init : goal.loop-part-init
loop-part-init c = λ words groups many some are. of-none words groups many some c.new-all.result.items c.new-all.ensures.items

pub loop-part-preserved : goal.loop-part-preserved
loop-part-preserved c = λ words groups many some are.
    let i = c.loop-part.part-index in
    let low : i < many = omega (arith, are.many, c.loop-part-test.true) in
    let here = subst (λ (r : Result (Vec State Global) NoMemory). IfOk r (λ states. IsScanned words groups many i states.items)) (sym c.part-item.is ∙ c.in-Ok.is) (are.each i c.part-item.result low) in
    of-more words groups many some i c.loop-part.all.items c.in-Ok.states.items c.extend_from_slice.new.self.items (c.loop-part.invariant words groups many some are) here
    (c.in_ok-extend_from_slice-in-Ok.ensures.items ∙ ap (λ (xs : List State). c.loop-part.all.items ++ xs) c.as_slice.ensures.value)

pub returns : goal.returns
returns c = λ words groups many some are.
    of-all words groups many some c.loop-part.part-index c.loop-part.all.items (omega (arith, are.many, c.loop-part-test.false, c.loop-part.auto.part-index-end)) (c.loop-part.invariant words groups many some are)
