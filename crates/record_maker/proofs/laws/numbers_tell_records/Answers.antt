use Rattle.record_maker.proofs.OneRecord.{one-record}
use Rattle.record_maker.proofs.laws.numbers_tell_records.Goals as goal

pub returns : goal.returns
returns c = one-record c.texts_tell_plays.ensures
