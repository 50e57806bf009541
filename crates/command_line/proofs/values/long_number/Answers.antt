use Rattle.std.proofs.Common.{◌∙◌, ◌≢◌, ◌<◌, [], ◌∷◌, length, slice_index, nat_eq, sym, ap, arith}
use Rattle.std.specs.List.{starts_with}
use Rattle.command_line.proofs.Numbers.{first-differs, long-is}
use Rattle.command_line.proofs.values.long_number.Goals as goal
use Rattle.command_line.proofs.values.long_number.Goals.{then-bytes-gt1, else-bytes-gt1}

pub returns : goal.returns
returns c =
    let word = c.args.word.now in
    let sign = first-differs 43 word (omega arith) (ap (λ bs. starts_with nat_eq bs (43 ∷ [])) (sym c.as_bytes-bytes.ensures.value) ∙ sym c.if-starts_with.ensures.value) in
    let lead : 1 < length word → slice_index word 0 ≢ 48 = elim c.if-bytes-gt1.branch [
      | then-bytes-gt1 w ↦ λ long. first-differs 48 word (omega arith)
          (ap (λ bs. starts_with nat_eq bs (48 ∷ [])) (sym c.as_bytes-bytes.ensures.value) ∙ sym w.starts_with-then-bytes-gt1.ensures.value ∙ sym w.value-is ∙ c.if-starts_with-2.false)
      | else-bytes-gt1 w ↦ λ long. absurd (omega (arith, long, ap (λ bs. length bs) c.as_bytes-bytes.ensures.value))
    ] in
    c.ok.ensures.value ∙ long-is word c.parse.result c.parse.ensures.value.0 sign lead
