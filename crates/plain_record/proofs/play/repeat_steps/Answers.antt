use Rattle.std.proofs.Common.{false}
use Rattle.plain_record.specs.Plain.{parts, steps_on}
use Rattle.plain_record.proofs.Words.{more_added}
use Rattle.plain_record.proofs.play.repeat_steps.Goals as goal

pub checkers-preserved : goal.checkers-preserved
checkers-preserved c = more_added c.checkers.text.items c.add_steps.new.text.items _ c.args.count c.checkers._i (steps_on false c.args.start.now (parts 47 c.args.places.now)) c.checkers-test.true c.checkers.invariant c.in_ok-add_steps.ensures
