use Rattle.std.proofs.Common.{◌≡◌, ◌≢◌, ◌∙◌, ◌<◌, [], ◌∷◌, Ok, true, ltb, length, slice_index, nat_eq, sym, ap, arith}
use Rattle.std.specs.List.{starts_with}
use Rattle.std.proofs.lemmas.Bool.Decides.{nat_tests}
use Rattle.base_scan.proofs.TestTexts.{count-is, count-only, first-differs, first-is, no-plus, no-zero}
use Rattle.base_scan.proofs.words.read_count.Goals as goal
use Rattle.base_scan.proofs.words.read_count.Goals.{then-starts_with-via-then-starts_with, then-starts_with-via-else-starts_with+then-starts_with-2, then-bytes-gt1, else-bytes-gt1}

pub returns-then-starts_with : goal.returns-then-starts_with
returns-then-starts_with c = λ count small e.
    let word = c.args.digits.now in
    elim c.then-starts_with.branch [
      | then-starts_with-via-then-starts_with w ↦ (
          let at = first-is 43 word (ap (λ bs. starts_with nat_eq bs (43 ∷ [])) (sym c.as_bytes-bytes.ensures.value) ∙ sym c.starts_with.ensures.value ∙ w.if-starts_with.true) in
          no-plus count word small e at.0 at.1)
      | then-starts_with-via-else-starts_with+then-starts_with-2 w ↦ elim w.if-bytes-gt1.branch [
        | then-bytes-gt1 v ↦ (
            let at = first-is 48 word (ap (λ bs. starts_with nat_eq bs (48 ∷ [])) (sym c.as_bytes-bytes.ensures.value) ∙ sym v.starts_with-then-bytes-gt1.ensures.value ∙ sym v.value-is ∙ w.if-starts_with-2.true) in
            no-zero count word small e (omega (arith, v.if-bytes-gt1.true, ap (λ bs. length bs) c.as_bytes-bytes.ensures.value)) at.1)
        | else-bytes-gt1 v ↦ (
            let long : ltb 1 (length c.as_bytes-bytes.result.now) ≡ true = sym v.value-is ∙ w.if-starts_with-2.true in
            absurd (grind (arith, nat_tests, long, v.if-bytes-gt1.false)))
      ]
    ]

pub returns-in-Ok : goal.returns-in-Ok
returns-in-Ok c =
    let word = c.args.digits.now in
    let sign = first-differs 43 word (omega arith) (ap (λ bs. starts_with nat_eq bs (43 ∷ [])) (sym c.as_bytes-bytes.ensures.value) ∙ sym c.if-starts_with.ensures.value) in
    let lead : 1 < length word → slice_index word 0 ≢ 48 = elim c.if-bytes-gt1.branch [
      | then-bytes-gt1 w ↦ λ long. first-differs 48 word (omega arith)
          (ap (λ bs. starts_with nat_eq bs (48 ∷ [])) (sym c.as_bytes-bytes.ensures.value) ∙ sym w.starts_with-then-bytes-gt1.ensures.value ∙ sym w.value-is ∙ c.if-starts_with-2.false)
      | else-bytes-gt1 w ↦ λ long. absurd (omega (arith, long, ap (λ bs. length bs) c.as_bytes-bytes.ensures.value))
    ] in
    (c.if-count-lt-NUMBERS.true, count-is word c.parse.result c.in-Ok.count c.parse.ensures.value.0 c.in-Ok.is sign lead)

pub returns-in_default : goal.returns-in_default
returns-in_default c = λ count small e.
    let only : c.parse.result ≡ Ok count = count-only c.args.digits.now c.parse.result count c.parse.ensures.value.0 small e in
    let same : c.in-Ok.count ≡ count = cc in
    omega (arith, small, same, c.if-count-lt-NUMBERS.false)

pub returns-in_default-2 : goal.returns-in_default-2
returns-in_default-2 c = λ count small e.
    let only : c.parse.result ≡ Ok count = count-only c.args.digits.now c.parse.result count c.parse.ensures.value.0 small e in
    absurd (cc)
