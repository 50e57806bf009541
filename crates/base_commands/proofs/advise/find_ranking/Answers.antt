use Rattle.std.proofs.Common.{List, ℕ, Option, Some, Err, subst, refl}
use Rattle.std.specs.Prelude.{IfSome}
use Rattle.roll_table.specs.Rolls.{Dice, IsRoll}
use Rattle.base_head.specs.Heads.{stakes_of}
use Rattle.base_head.specs.declared.header.Header.{Header}
use Rattle.base_commands.specs.Advises.{AnswersRanking}
use Rattle.base_commands.proofs.AdviseFiles.{not-looked-up, ranked}
use Rattle.base_commands.proofs.Fitting.{moved}
use Rattle.outside_log.specs.Log.{standing}
use Rattle.outside_log.proofs.Readings.{reads-before, reads-both, reads-file}
use Rattle.base_commands.proofs.advise.find_ranking.Goals as goal

pub returns-in-Ok-clause-told : goal.returns-in-Ok-clause-told
returns-in-Ok-clause-told g c =
    let task = c.args.task.now in
    let base = c.in_ok-base.field-0.base in
    let kind = c.in_ok-base.field-0.kind in
    let roll = c.args.roll in
    let right : IsRoll roll = subst (λ (o : Option Dice). IfSome o IsRoll) c.requires.roll c.requires.right.roll in (
      base.head,
      λ told. ranked task base kind (λ roll bytes ranking. c.looked_up_rankings_are_of_the_file.ensures task roll bytes base.head kind ranking)
          roll right (standing (g.F.Files.log c.args.files.now) task.file) c.in-Ok.ranking (c.in_ok-base.ensures.told (reads-before c.ranking_of.ensures.reads told))
          (rw (c.in_ok-base.ensures.name, reads-file c.in_ok-base.ensures.reads task.file) at c.in-Ok.ensures.told told),
    )

pub returns-clause-told : goal.returns-clause-told
returns-clause-told g c told =
    let task = c.args.task.now in
    let base = c.in_ok-base.field-0.base in
    let kind = c.in_ok-base.field-0.kind in
    let roll = c.args.roll in
    let held = standing (g.F.Files.log c.args.files.now) task.file in
    let stop = c.in-Err.stop in
    rw (c.look_refusal.ensures.tells)
    (not-looked-up task base kind (Some roll) c.requires.roll held stop (c.in_ok-base.ensures.told (reads-before c.ranking_of.ensures.reads told))
    (moved (λ (h : Header) (f : Option (List ℕ)). AnswersRanking h f (stakes_of base.head) task.position kind.number roll (Err stop)) base.header base.header base.name task.file (standing (g.F.Files.log c.args.files.now)) (standing (g.F.Files.log c.open_asked.new.files)) refl
    c.in_ok-base.ensures.name (reads-file c.in_ok-base.ensures.reads task.file) (c.in-Err.ensures.told told)))

pub returns-in-Ok-clause-reads : goal.returns-in-Ok-clause-reads
returns-in-Ok-clause-reads g c = reads-both _ _ _ c.open_asked.ensures.reads c.ranking_of.ensures.reads

pub returns-clause-reads : goal.returns-clause-reads
returns-clause-reads g c = reads-both _ _ _ c.open_asked.ensures.reads c.ranking_of.ensures.reads
