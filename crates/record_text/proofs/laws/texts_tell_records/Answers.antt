use Rattle.std.proofs.Common.{sym, subst, []}
use Rattle.std.proofs.lemmas.List.{append-nil}
use Rattle.record_text.specs.Texts.{IsRecordText}
use Rattle.record_text.proofs.RecordLaws.{one-record}
use Rattle.record_text.proofs.laws.texts_tell_records.Goals as goal

pub returns : goal.returns
returns c = λ text rec other x y. (one-record c.texts_tell_plays.ensures text [] rec other x (subst (λ t. IsRecordText t other) (sym (append-nil text)) y)).0
