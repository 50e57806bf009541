use Rattle.record_maker.proofs.Replays.{made-replays}
use Rattle.record_maker.proofs.laws.made_records_break_no_rule.Goals as goal

pub returns : goal.returns
returns c = λ number count rec made. made-replays (λ p roll moves q steps right legal text. c.printed_plays_are_taken.ensures.taken p roll moves q steps right legal text) number count rec made
