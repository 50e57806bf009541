use Rattle.std.proofs.Common.{sym, subst}
use Rattle.std.specs.Str.{IsAscii}
use Rattle.record_text.proofs.Ascii.{ascii-rule}
use Rattle.record_text.proofs.words.rule_of.Goals as goal

pub returns-in_default : goal.returns-in_default
returns-in_default c = λ rule e. c.in_default.ensures (subst IsAscii (sym e) (ascii-rule rule))
