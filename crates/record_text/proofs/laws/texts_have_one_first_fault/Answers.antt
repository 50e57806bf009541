use Rattle.record_text.proofs.RecordLaws.{one-fault}
use Rattle.record_text.proofs.laws.texts_have_one_first_fault.Goals as goal

pub returns : goal.returns
returns c = one-fault c.texts_tell_plays.ensures
