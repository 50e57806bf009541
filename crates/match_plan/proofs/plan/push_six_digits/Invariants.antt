use Rattle.std.proofs.Common.{◌≡◌, ◌/◌, ◌%◌, ◌++◌, ℕ, map, take}
use Rattle.point_text.specs.Decimal.{decimal_digit}
use Rattle.match_plan.proofs.plan.push_six_digits.Given as goal

abbrev pub invariant-loop-power : goal.invariant-loop-power
invariant-loop-power l = l.text.bytes ≡ l.fn.text.bytes ++ map (λ (power : ℕ). decimal_digit (l.number / power % 10)) (take l.power-index l.power-items)
