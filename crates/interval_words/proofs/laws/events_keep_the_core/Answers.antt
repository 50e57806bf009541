use Rattle.interval_words.proofs.EventLaws.{kept-opening, kept-events}
use Rattle.interval_words.proofs.laws.events_keep_the_core.Goals as goal

pub returns : goal.returns
returns c = λ core events start allowed. kept-events core events (kept-opening core start) allowed
