use Rattle.std.proofs.Common.{◌<◌, ◌∙◌, inl, inr, pos, get_or-set_same, get_or-set_other, length, arith}
use Rattle.std.proofs.lemmas.Bool.{cases_eq}
use Rattle.column_sums.specs.Worths.{worth_at, worths_at}
use Rattle.column_sums.proofs.AtEnds.{length-map, map-set, zeros-at}
use Rattle.column_sums.proofs.sums.clear.Goals as goal

pub loop-i-preserved : goal.loop-i-preserved
loop-i-preserved c = λ end k below.
    let sums = c.loop-i.sums in
    let at = c.loop-i.i in
    let zero = c.zeros.result in
    let here : at < length (worths_at end sums) = omega (arith, c.loop-i-test.true, c.requires, c.loop-i.auto.sums, length-map (worth_at end) sums) in
    rw (map-set (worth_at end) sums at zero) (elim (cases_eq k at) [
      | inl same ↦ rw same (get_or-set_same (worths_at end sums) at (worth_at end zero) (pos 0) here ∙ zeros-at zero c.zeros.ensures end)
      | inr apart ↦ get_or-set_other (worths_at end sums) at k (worth_at end zero) (pos 0) apart ∙ c.loop-i.invariant end k (omega (arith, below, apart))
    ])
