use Rattle.std.proofs.Common.{[], ◌∷◌, nat_eq, sym, ◌∙◌, ap, arith}
use Rattle.std.specs.List.{starts_with}
use Rattle.std.proofs.lemmas.Str.Parse.{parse_plain}
use Rattle.command_line.proofs.Numbers.{own, first-differs, number-is, number-none}
use Rattle.command_line.proofs.values.number_within.Goals as goal

pub returns-in-Ok-clause-number : goal.returns-in-Ok-clause-number
returns-in-Ok-clause-number c =
    let lead = first-differs 48 c.args.word.now (omega arith) (ap (λ bs. starts_with nat_eq bs (48 ∷ [])) (sym c.as_bytes-bytes.ensures.value) ∙ sym c.if-starts_with.ensures.value) in
    let sign = first-differs 43 c.args.word.now (omega arith) (ap (λ bs. starts_with nat_eq bs (43 ∷ [])) (sym c.as_bytes-bytes.ensures.value) ∙ sym c.if-starts_with-2.ensures.value) in
    let plain = parse_plain own 32 c.args.word.now _ c.parse.ensures.value.0 sign in
    let found = rw c.in-Ok.is at plain in
    number-is c.args.word.now c.args.most c.in-Ok.number found.0.0 found.0.1 lead found.1 c.if-number-ge1.true c.if-number-most.true

pub returns-in_default-3-clause-number : goal.returns-in_default-3-clause-number
returns-in_default-3-clause-number c =
    let sign = first-differs 43 c.args.word.now (omega arith) (ap (λ bs. starts_with nat_eq bs (43 ∷ [])) (sym c.as_bytes-bytes.ensures.value) ∙ sym c.if-starts_with-2.ensures.value) in
    let plain = parse_plain own 32 c.args.word.now _ c.parse.ensures.value.0 sign in
    let never = rw c.in_default.is at plain in
    number-none c.args.word.now c.args.most (omega (arith, c.ranges.most)) never
