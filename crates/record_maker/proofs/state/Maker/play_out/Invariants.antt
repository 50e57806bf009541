use Rattle.std.proofs.Common.{◌-◌}
use Rattle.record_maker.specs.declared.due.Due.TheVariants.{Start}
use Rattle.record_maker.specs.Makers.{moment_at}
use Rattle.record_maker.proofs.Playing.{HasPlayed}
use Rattle.record_maker.proofs.state.Maker.play_out.Given as goal

abbrev pub invariant-loop-due : goal.invariant-loop-due
invariant-loop-due l = HasPlayed (moment_at l.fn.self Start) l.actions l.self l.due

abbrev pub decreases-loop-due : goal.decreases-loop-due
decreases-loop-due l = 60010 - l.self.size.lines
