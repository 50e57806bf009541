use Rattle.std.proofs.Common.{◌∙◌, sym, arith, inl, inr}
use Rattle.position_text.proofs.PlaceTexts.{place-none, place-same, place-text}
use Rattle.play_text.proofs.NotationWords.{is-cut, no-cut}
use Rattle.play_text.proofs.notation.read_step.Goals as goal
use Rattle.play_text.proofs.notation.read_step.Goals.{then-to-from-via-then-to-from, then-to-from-via-else-to-from+then-to-eq0}

pub returns-in_err-from : goal.returns-in_err-from
returns-in_err-from c = rw c.from_residual.ensures (λ step h e. no-cut c.args.word.now c.split_once.result c.split_once.ensures.cases c.in_err-from.was step e)

pub returns-in_err-from-2 : goal.returns-in_err-from-2
returns-in_err-from-2 c =
    let cut = is-cut c.args.word.now c.split_once.result c.split_once.ensures.cases c.in_ok-from.from c.in_ok-from.rest c.in_ok-from.was c.cut_mark-hit.result.0.now c.cut_mark-hit.result.1 c.cut_mark-hit.ensures.cut c.cut_mark-hit.ensures.none in
    rw c.from_residual-in_err-from-2.ensures (λ step h e. place-none c.in_ok-from.from.now step.from step.within (sym c.read_place.ensures ∙ c.in_err-from-2.was) (cut.only step e).0)

pub returns-in_err-to : goal.returns-in_err-to
returns-in_err-to c =
    let cut = is-cut c.args.word.now c.split_once.result c.split_once.ensures.cases c.in_ok-from.from c.in_ok-from.rest c.in_ok-from.was c.cut_mark-hit.result.0.now c.cut_mark-hit.result.1 c.cut_mark-hit.ensures.cut c.cut_mark-hit.ensures.none in
    rw c.from_residual-in_err-to.ensures (λ step h e. place-none c.cut_mark-hit.result.0.now step.to (omega (arith, step.within, step.falls)) (sym c.read_place-2.ensures ∙ c.in_err-to.was) (cut.only step e).1)

pub returns-then-to-from : goal.returns-then-to-from
returns-then-to-from c = λ step h e.
    let cut = is-cut c.args.word.now c.split_once.result c.split_once.ensures.cases c.in_ok-from.from c.in_ok-from.rest c.in_ok-from.was c.cut_mark-hit.result.0.now c.cut_mark-hit.result.1 c.cut_mark-hit.ensures.cut c.cut_mark-hit.ensures.none in
    let only = cut.only step e in
    let from = place-same c.in_ok-from.from.now step.from c.in_ok-from-2.from step.within (sym c.read_place.ensures ∙ c.in_ok-from-2.was) only.0 in
    let to = place-same c.cut_mark-hit.result.0.now step.to c.in_ok-to.to (omega (arith, step.within, step.falls)) (sym c.read_place-2.ensures ∙ c.in_ok-to.was) only.1 in
    elim c.then-to-from.branch [
      | then-to-from-via-then-to-from w ↦ (let low = step.falls in omega (arith, low, from, to, w.if-to-from.true))
      | then-to-from-via-else-to-from+then-to-eq0 w ↦ (
          let off = w.if-to-eq0.true in
          let low = h (sym only.2 ∙ off.0) in
          let at = off.1 in
          omega (arith, low, to, at))
    ]

pub invariant_of-result : goal.invariant_of-result
invariant_of-result c =
    let from = place-text c.in_ok-from.from.now c.in_ok-from-2.from (sym c.read_place.ensures ∙ c.in_ok-from-2.was) in
    record { within = from.0; falls = omega (arith, c.if-to-from.false) }

pub returns : goal.returns
returns c =
    let cut = is-cut c.args.word.now c.split_once.result c.split_once.ensures.cases c.in_ok-from.from c.in_ok-from.rest c.in_ok-from.was c.cut_mark-hit.result.0.now c.cut_mark-hit.result.1 c.cut_mark-hit.ensures.cut c.cut_mark-hit.ensures.none in
    let from = place-text c.in_ok-from.from.now c.in_ok-from-2.from (sym c.read_place.ensures ∙ c.in_ok-from-2.was) in
    let to = place-text c.cut_mark-hit.result.0.now c.in_ok-to.to (sym c.read_place-2.ensures ∙ c.in_ok-to.was) in (
      λ hit. elim c.if-to-eq0.either [
        | inl some ↦ omega (arith, some.1)
        | inr none ↦ absurd (cc)
      ],
      cut.whole c.in_ok-from-2.from c.in_ok-to.to from.1 to.1,
    )
