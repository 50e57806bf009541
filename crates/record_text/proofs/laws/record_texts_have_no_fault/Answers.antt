use Rattle.record_text.proofs.TextLaws.{text-right}
use Rattle.record_text.proofs.laws.record_texts_have_no_fault.Goals as goal

pub returns : goal.returns
returns c = text-right c.texts_tell_plays.ensures
