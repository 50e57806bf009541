use Rattle.std.proofs.Common.{◌≡◌, ℕ, List, Bool, Option, Some, None, sym, subst}
use Rattle.roll_table.specs.Rolls.{Dice}
use Rattle.command_line.specs.declared.command.Advise.{Advise as AdviseTask}
use Rattle.base_commands.specs.Advises.{HasAdvised, HasAdvisedOn}
use Rattle.base_commands.proofs.advise.run_advise.Goals as goal

of-roll : (task : AdviseTask) (told : Bool) (held : Option (List ℕ)) (IsReport : List ℕ → Type 0) (roll : Option Dice) → task.roll ≡ roll → HasAdvisedOn roll task told held IsReport → HasAdvised task told held IsReport
of-roll task told held IsReport roll is = subst (λ (r : Option Dice). HasAdvisedOn r task told held IsReport) (sym is)

pub returns-in-Ok-clause-tells : goal.returns-in-Ok-clause-tells
returns-in-Ok-clause-tells g c =
    let (head, file) = c.in_ok-found-in-Some.ensures.told in
    let found = c.in_ok-found-in-Some.found in
    of-roll c.args.task.now _ _ _ (Some c.in-Some.roll) c.in-Some.is (record { head = head; kind = found.kind; ranking = found.ranking; file = file; report = c.in-Ok.ensures })

pub returns-in-Err-clause-tells : goal.returns-in-Err-clause-tells
returns-in-Err-clause-tells g c =
    let (head, file) = c.in_ok-found-in-Some.ensures.told in
    let found = c.in_ok-found-in-Some.found in
    of-roll c.args.task.now _ _ _ (Some c.in-Some.roll) c.in-Some.is (record { head = head; kind = found.kind; ranking = found.ranking; file = file; report = (_, c.in-Err.ensures) })

pub returns-in-Ok-write_cube-clause-tells : goal.returns-in-Ok-write_cube-clause-tells
returns-in-Ok-write_cube-clause-tells g c =
    let (head, file) = c.in_ok-found-in-None.ensures.told in
    let found = c.in_ok-found-in-None.found in
    of-roll c.args.task.now _ _ _ None c.in-None.is (record { head = head; kind = found.kind; advice = found.advice; file = file; report = c.in-Ok-write_cube.ensures })
