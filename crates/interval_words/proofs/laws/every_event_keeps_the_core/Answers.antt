use Rattle.interval_words.proofs.EventLaws.{kept-event}
use Rattle.interval_words.proofs.laws.every_event_keeps_the_core.Goals as goal

pub returns : goal.returns
returns c = kept-event
