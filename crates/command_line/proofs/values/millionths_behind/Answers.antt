use Rattle.std.proofs.Common.{◌≡◌, ◌≤◌, ◌-◌, ◌*◌, ◌^◌, ◌<◌, ℕ, ◌∙◌, Option, Some, IfSome, length, option_map, sym, subst, ap, arith}
use Rattle.command_line.specs.Values.{millionths_behind}
use Rattle.command_line.proofs.Numbers.{behind-read, behind-below}
use Rattle.command_line.proofs.values.millionths_behind.Goals as goal

pub returns-in_err-number-clause-number : goal.returns-in_err-number-clause-number
returns-in_err-number-clause-number c =
    let digits = c.args.digits.now in
    let short : length digits ≤ 6 = omega (arith, c.if-bytes-gt6.false, c.as_bytes-bytes.ensures.len) in
    let read = behind-read digits c.as_bytes-bytes.result.now c.parse.result c.ok.result c.as_bytes-bytes.ensures.value (sym c.if-starts_with.ensures.value) short c.parse.ensures.value.0 c.ok.ensures.value in
    c.from_residual.ensures ∙ (ap (option_map (λ n. n * 10 ^ (6 - length digits))) (sym c.in_err-number.was) ∙ read)

read : (c : goal.After-pow) → Some (c.in_ok-number.number * c.pow.result) ≡ millionths_behind c.args.digits.now
read c =
    let digits = c.args.digits.now in
    let short : length digits ≤ 6 = omega (arith, c.if-bytes-gt6.false, c.as_bytes-bytes.ensures.len) in
    let read = behind-read digits c.as_bytes-bytes.result.now c.parse.result c.ok.result c.as_bytes-bytes.ensures.value (sym c.if-starts_with.ensures.value) short c.parse.ensures.value.0 c.ok.ensures.value in
    let power : c.pow.result ≡ 10 ^ (6 - length digits) = c.pow.ensures ∙ ap (λ (k : ℕ). 10 ^ k) (omega (arith, c.as_bytes-bytes.ensures.len, short)) in
    ap (λ (k : ℕ). Some (c.in_ok-number.number * k)) power ∙ (ap (option_map (λ n. n * 10 ^ (6 - length digits))) (sym c.in_ok-number.was) ∙ read)

below : (c : goal.After-pow) → c.in_ok-number.number * c.pow.result < 1000000
below c = subst (λ (o : Option ℕ). IfSome o (λ n. n < 1000000)) (sym (read c)) (behind-below c.args.digits.now)

pub overflow_mul-result : goal.overflow_mul-result
overflow_mul-result c = omega (arith, below c)

pub returns-clause-number : goal.returns-clause-number
returns-clause-number c = read c

pub returns-clause-below : goal.returns-clause-below
returns-clause-below c = below c
