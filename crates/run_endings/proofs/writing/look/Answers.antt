use Rattle.std.proofs.Common.{◌∙◌, rules, sym, arith}
use Rattle.outside_log.specs.Log.{GivenUp}
use Rattle.outside_log.proofs.Logs.{leaves-both, leaves-one}
use Rattle.outside_log.proofs.Readings.{leaves-before, leaves-faults, reads-leave}
use Rattle.run_endings.proofs.writing.look.Goals as goal

pub returns-in-Ok-false-clause-leaves : goal.returns-in-Ok-false-clause-leaves
returns-in-Ok-false-clause-leaves g c = reads-leave c.begins_otherwise.ensures.reads

pub returns-in-Ok-true-clause-leaves : goal.returns-in-Ok-true-clause-leaves
returns-in-Ok-true-clause-leaves g c = leaves-both _ _ _ (reads-leave c.begins_otherwise.ensures.reads) (leaves-one _ _ (GivenUp c.args.name.now) tt c.give_up.ensures)

pub returns-in-Ok-true-clause-read_later : goal.returns-in-Ok-true-clause-read_later
returns-in-Ok-true-clause-read_later g c = leaves-faults (leaves-both _ _ _ (reads-leave c.begins_otherwise.ensures.reads) (leaves-one _ _ (GivenUp c.args.name.now) tt c.give_up.ensures))

pub returns-in-Ok-true-clause-told : goal.returns-in-Ok-true-clause-told
returns-in-Ok-true-clause-told g c = (
  tt,
  λ all.
      let otherwise = c.in-Ok-true.ensures.otherwise (leaves-before (leaves-one _ _ (GivenUp c.args.name.now) tt c.give_up.ensures) all) in
      (search rules, sym otherwise ∙ c.in-Ok-true.field-0-test),
)

pub returns-in-Err-clause-leaves : goal.returns-in-Err-clause-leaves
returns-in-Err-clause-leaves g c = leaves-both _ _ _ (reads-leave c.begins_otherwise.ensures.reads) (leaves-one _ _ (GivenUp c.args.name.now) tt c.give_up-in-Err.ensures)

pub returns-in-Err-clause-read_later : goal.returns-in-Err-clause-read_later
returns-in-Err-clause-read_later g c = leaves-faults (leaves-both _ _ _ (reads-leave c.begins_otherwise.ensures.reads) (leaves-one _ _ (GivenUp c.args.name.now) tt c.give_up-in-Err.ensures))

pub returns-in-Err-clause-read_cause : goal.returns-in-Err-clause-read_cause
returns-in-Err-clause-read_cause g c is =
    let rose = c.in-Err.ensures.cause.failed in
    let last = leaves-faults (leaves-one _ _ (GivenUp c.args.name.now) tt c.give_up-in-Err.ensures) in
    omega (arith, rose, last)
