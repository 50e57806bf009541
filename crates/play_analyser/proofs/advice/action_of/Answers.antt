use Rattle.play_analyser.proofs.CubeLosses.{least-near}
use Rattle.play_analyser.proofs.advice.action_of.Goals as goal

pub offer_loss-requires-clause-doubling : goal.offer_loss-requires-clause-doubling
offer_loss-requires-clause-doubling c = rw c.doubled_pair-doubling.ensures (least-near c.args.pass c.args.taken.now c.requires.pass c.requires.taken)
