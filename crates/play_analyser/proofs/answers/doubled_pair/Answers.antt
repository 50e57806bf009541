use Rattle.play_analyser.proofs.CubeLosses.{least-next, least-all}
use Rattle.play_analyser.proofs.answers.doubled_pair.Goals as goal

pub loop-pair-preserved : goal.loop-pair-preserved
loop-pair-preserved c =
    least-next c.args.pass c.args.taken.now c.loop-pair.pair-index c.pair-item.result c.loop-pair.least _ c.loop-pair-test.true c.pair-item.is c.loop-pair.invariant c.smaller-least.ensures.lower c.smaller-least.ensures.upper

pub returns : goal.returns
returns c = least-all c.args.pass c.args.taken.now c.loop-pair.pair-index _ c.loop-pair-test.false c.loop-pair.invariant
