use Rattle.std.proofs.Common.{inl, inr}
use Rattle.run_endings.specs.Games.{WantsOther}
use Rattle.base_commands.proofs.AdviseFiles.{state-opened}
use Rattle.base_commands.proofs.Fitting.{opened-other}
use Rattle.outside_log.specs.Log.{standing}
use Rattle.base_commands.proofs.advise.open_asked.Goals as goal

pub returns-in-Ok-clause-told : goal.returns-in-Ok-clause-told
returns-in-Ok-clause-told g c told =
    state-opened c.args.task.now (standing (g.F.Files.log c.args.files.now) c.args.task.now.file) c.in_ok-base.base c.in-Ok.kind (rw (c.as_str-name.ensures) at c.in_ok-base.ensures.told told)
    c.requires.position c.requires.live c.head.ensures.valid c.head.ensures.checkers c.head.ensures.name
    (rw (c.head.ensures.head) at c.in-Ok.ensures.asked) (rw (c.head.ensures.head) at c.in-Ok.ensures.game) (rw (c.head.ensures.head) at c.in-Ok.ensures.number)

pub returns-in-Err-clause-told : goal.returns-in-Err-clause-told
returns-in-Err-clause-told g c told =
    let task = c.args.task.now in
    inl (inr (opened-other (WantsOther task.position task.kind) (standing (g.F.Files.log c.args.files.now) task.file) c.in_ok-base.base c.in-Err.refusal
    (rw (c.as_str-name.ensures) at c.in_ok-base.ensures.told told) (rw (c.head.ensures.head) at c.in-Err.ensures.asked)))
