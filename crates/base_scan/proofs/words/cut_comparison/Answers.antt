use Rattle.base_scan.specs.declared.condition.Comparison.TheVariants.{Below, Equal, Above}
use Rattle.base_scan.proofs.TestTexts.{none-cut, parts-found}
use Rattle.base_scan.proofs.words.cut_comparison.Goals as goal

pub returns-in-Some : goal.returns-in-Some
returns-in-Some c = parts-found Below c.args.text.now c.split_once.result c.split_once.ensures.cases c.in-Some.name c.in-Some.number c.in-Some.is

pub returns-in-Some-split_once : goal.returns-in-Some-split_once
returns-in-Some-split_once c = parts-found Equal c.args.text.now c.split_once-2.result c.split_once-2.ensures.cases c.in-Some-split_once.name c.in-Some-split_once.number c.in-Some-split_once.is

pub returns-in_err-name : goal.returns-in_err-name
returns-in_err-name c =
    rw c.from_residual.ensures (λ name comparison number is.
    none-cut c.args.text.now c.split_once.result c.split_once-2.result c.split_once-3.result c.split_once.ensures.cases c.split_once-2.ensures.cases c.split_once-3.ensures.cases
    c.in_default.is c.in_default-split_once.is c.in_err-name.was name comparison number is)

pub returns : goal.returns
returns c = parts-found Above c.args.text.now c.split_once-3.result c.split_once-3.ensures.cases c.in_ok-name.name c.in_ok-name.number c.in_ok-name.was
