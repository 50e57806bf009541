use Rattle.std.proofs.Common.{inl, sym, arith}
use Rattle.refusal_notes.proofs.call.Call.argument.Goals as goal

pub returns-then-left-eq0 : goal.returns-then-left-eq0
returns-then-left-eq0 c = (c.loop-word.word-index, c.word-item.result, omega arith, sym c.word-item.is, inl (sym c.as_str-word.ensures.value))
