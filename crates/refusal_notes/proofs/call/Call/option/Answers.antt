use Rattle.std.proofs.Common.{Some, inl, inr, sym, ◌∙◌, arith}
use Rattle.std.proofs.lemmas.Str.Pattern.{split_parts}
use Rattle.refusal_notes.proofs.call.Call.option.Goals as goal

pub returns-then-is_value : goal.returns-then-is_value
returns-then-is_value c = (c.loop-word.word-index, c.word-item.result, omega arith, sym c.word-item.is, inl (sym c.as_str-word.ensures.value))

pub returns-in-Some : goal.returns-in-Some
returns-in-Some c =
    let parts = split_parts 61 c.as_str-word.result.now (Some (c.in-Some.field-0-0, c.in-Some.value)) c.in-Some.ensures.cases (omega arith) in
    (c.loop-word.word-index, c.word-item.result, omega arith, sym c.word-item.is, inr (c.in-Some.field-0-0.now, sym c.as_str-word.ensures.value ∙ parts.0))
