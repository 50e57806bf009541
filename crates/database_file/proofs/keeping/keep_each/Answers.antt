use Rattle.std.proofs.Common.{◌∙◌, ◌+◌, Err, refl, sym, arith}
use Rattle.std.proofs.lemmas.List.{get_or-set_other, get_or_default, length-set}
use Rattle.database_file.specs.declared.pages.PagesStop.TheVariants.{NoMemory}
use Rattle.database_file.proofs.KeepingPages.{one-kept}
use Rattle.database_file.proofs.keeping.keep_each.Goals as goal

pub returns-in_err-keep_one-clause-kept : goal.returns-in_err-keep_one-clause-kept
returns-in_err-keep_one-clause-kept c =
    let number = c.pages.number in
    one-kept c.args.first number (c.args.first + number) c.args.read.now c.replace-page.result c.args.kept.now.entries c.pages.kept.entries c.keep_one.new.kept.entries c.pages.invariant.kept (omega (arith, c.pages-test.true, c.pages.auto.number-end, c.pages.invariant.len)) refl
    (sym (c.pages.invariant.rest number (omega arith)) ∙ get_or_default c.pages.read number (Err NoMemory) c.index-read-number.result (omega (arith, c.pages-test.true, c.pages.auto.number-end, c.pages.invariant.len)) ∙ sym c.replace-page.ensures.value)
    c.in_err-keep_one.ensures.kept

pub pages-preserved : goal.pages-preserved
pages-preserved c =
    let number = c.pages.number in
    record {
      kept = one-kept c.args.first number (c.args.first + number) c.args.read.now c.replace-page.result c.args.kept.now.entries c.pages.kept.entries c.keep_one.new.kept.entries c.pages.invariant.kept (omega (arith, c.pages-test.true, c.pages.auto.number-end, c.pages.invariant.len)) refl
          (sym (c.pages.invariant.rest number (omega arith)) ∙ get_or_default c.pages.read number (Err NoMemory) c.index-read-number.result (omega (arith, c.pages-test.true, c.pages.auto.number-end, c.pages.invariant.len)) ∙ sym c.replace-page.ensures.value)
          c.in_ok-keep_one.ensures.kept;
      rest = λ later at. get_or-set_other c.pages.read number later c.replace-page.new.dest (Err NoMemory) (λ same. absurd (omega (arith, at, same))) ∙ c.pages.invariant.rest later (omega (arith, at));
      most = c.in_ok-keep_one.ensures.most ∙ c.pages.invariant.most;
      len = length-set c.pages.read number c.replace-page.new.dest ∙ c.pages.invariant.len;
    }
