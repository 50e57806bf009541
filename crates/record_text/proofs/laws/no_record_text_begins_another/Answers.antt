use Rattle.record_text.proofs.RecordLaws.{one-record}
use Rattle.record_text.proofs.laws.no_record_text_begins_another.Goals as goal

pub returns : goal.returns
returns c = λ text more rec other x y. (one-record c.texts_tell_plays.ensures text more rec other x y).1
