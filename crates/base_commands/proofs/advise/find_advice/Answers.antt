use Rattle.std.proofs.Common.{List, ℕ, Option, None, Err, refl}
use Rattle.base_head.specs.Heads.{stakes_of}
use Rattle.base_head.specs.declared.header.Header.{Header}
use Rattle.base_commands.specs.Advises.{AnswersAdvice}
use Rattle.base_commands.proofs.AdviseFiles.{cube-advised, not-looked-up}
use Rattle.base_commands.proofs.Fitting.{moved}
use Rattle.outside_log.specs.Log.{standing}
use Rattle.outside_log.proofs.Readings.{reads-before, reads-both, reads-file}
use Rattle.base_commands.proofs.advise.find_advice.Goals as goal

pub returns-in-Ok-clause-told : goal.returns-in-Ok-clause-told
returns-in-Ok-clause-told g c =
    let task = c.args.task.now in
    let base = c.in_ok-base.field-0.base in
    let kind = c.in_ok-base.field-0.kind in (
      base.head,
      λ told. cube-advised task base kind (λ bytes advice. c.looked_up_advice_is_of_the_file.ensures task bytes base.head kind advice)
          (standing (g.F.Files.log c.args.files.now) task.file) c.in-Ok.advice (c.in_ok-base.ensures.told (reads-before c.advice_of.ensures.reads told))
          (rw (c.in_ok-base.ensures.name, reads-file c.in_ok-base.ensures.reads task.file) at c.in-Ok.ensures.told told),
    )

pub returns-clause-told : goal.returns-clause-told
returns-clause-told g c told =
    let task = c.args.task.now in
    let base = c.in_ok-base.field-0.base in
    let kind = c.in_ok-base.field-0.kind in
    let held = standing (g.F.Files.log c.args.files.now) task.file in
    let stop = c.in-Err.stop in
    rw (c.look_refusal.ensures.tells)
    (not-looked-up task base kind None c.requires.roll held stop (c.in_ok-base.ensures.told (reads-before c.advice_of.ensures.reads told))
    (moved (λ (h : Header) (f : Option (List ℕ)). AnswersAdvice h f (stakes_of base.head) task.position kind.number (Err stop)) base.header base.header base.name task.file (standing (g.F.Files.log c.args.files.now)) (standing (g.F.Files.log c.open_asked.new.files)) refl
    c.in_ok-base.ensures.name (reads-file c.in_ok-base.ensures.reads task.file) (c.in-Err.ensures.told told)))

pub returns-in-Ok-clause-reads : goal.returns-in-Ok-clause-reads
returns-in-Ok-clause-reads g c = reads-both _ _ _ c.open_asked.ensures.reads c.advice_of.ensures.reads

pub returns-clause-reads : goal.returns-clause-reads
returns-clause-reads g c = reads-both _ _ _ c.open_asked.ensures.reads c.advice_of.ensures.reads
