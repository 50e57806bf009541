use Rattle.std.proofs.Common.{◌≤◌, length, subst, sym, arith, List, ℕ}
use Rattle.std.proofs.lemmas.Fmt.{length-decimal-le}
use Rattle.record_maker.proofs.making.digits.Goals as goal

pub returns-clause-few : goal.returns-clause-few
returns-clause-few c =
    subst (λ (text : List ℕ). length text ≤ 4) (sym c.format.ensures.text) (length-decimal-le 4 c.from.result (omega arith) (omega (arith, c.requires, c.from.ensures)) (omega (arith, c.requires, c.from.ensures)))
