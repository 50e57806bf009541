use Rattle.play_analyser.proofs.LossLemmas.{loss-next, loss-all}
use Rattle.play_analyser.proofs.among.loss_among.Goals as goal

pub loop-other-preserved : goal.loop-other-preserved
loop-other-preserved c =
    loss-next c.args.chosen c.args.others.now c.loop-other.other-index c.other-item.result c.loop-other.behind_by _ c.loop-other-test.true c.other-item.is c.loop-other.invariant c.behind-behind_by.ensures.lower c.behind-behind_by.ensures.upper

pub returns : goal.returns
returns c = loss-all c.args.chosen c.args.others.now c.loop-other.other-index _ c.loop-other-test.false c.loop-other.invariant
