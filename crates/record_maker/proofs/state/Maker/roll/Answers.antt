use Rattle.std.proofs.Common.{subst}
use Rattle.rand_pcg.specs.Lcg.{Lcg}
use Rattle.roll_table.specs.Rolls.{Dice}
use Rattle.record_maker.specs.Makers.{moment_at}
use Rattle.record_maker.specs.Making.{Plays}
use Rattle.record_maker.proofs.state.Maker.roll.Goals as goal

pub returns-clause-rolls : goal.returns-clause-rolls
returns-clause-rolls c = λ due.
    subst (λ (drawn : Dice × Lcg). Plays c.args.self.now.game c.args.player drawn.0 drawn.1 c.play.result.what (moment_at c.play.new.self due)) c.draw_roll-roll.ensures (c.play.ensures.plays due)
