use Rattle.std.proofs.Common.{◌≡◌, ◌∙◌, ℕ, List, Option, Ok, Err, ap, subst}
use Rattle.outside_log.specs.Log.{standing}
use Rattle.outside_log.proofs.Readings.{reads-before, reads-both, reads-file}
use Rattle.record_commands.specs.ByFile.{AnswersLooking}
use Rattle.record_commands.proofs.ByFile.{file-judged, file-not-judged}
use Rattle.record_commands.proofs.by_file.judge_by.Goals as goal

pub judge_in-requires-clause-decisions : goal.judge_in-requires-clause-decisions
judge_in-requires-clause-decisions g c = λ i d below here. c.requires.decisions i d below here c.in-Ok.base.head c.in-Ok.ensures.game c.in-Ok.ensures.right

pub returns-in-Ok-judge_in-clause-told : goal.returns-in-Ok-judge_in-clause-told
returns-in-Ok-judge_in-clause-told g c told =
    let name = c.args.name.now in
    let base = c.in-Ok.base in
    let old = c.args.analysis.now in
    let new = c.judge_in.new.analysis in
    let held = standing (g.F.Files.log c.args.files.now) name in
    let same : standing (g.F.Files.log c.open_for.new.files) base.name ≡ held = ap (standing (g.F.Files.log c.open_for.new.files)) c.in-Ok.ensures.name ∙ reads-file c.in-Ok.ensures.reads name in
    file-judged c.one_list_gives_the_loss.ensures c.args.wanted name base c.args.score old new held (c.in-Ok.ensures.told (reads-before c.judge_in.ensures.reads told))
    (λ i d below here. c.requires.decisions i d below here base.head c.in-Ok.ensures.game c.in-Ok.ensures.right)
    (subst (λ (f : Option (List ℕ)). AnswersLooking base f c.args.score old new (Ok tt)) same (c.in-Ok-judge_in.ensures.told told))

pub returns-clause-told : goal.returns-clause-told
returns-clause-told g c told =
    let name = c.args.name.now in
    let base = c.in-Ok.base in
    let old = c.args.analysis.now in
    let new = c.judge_in.new.analysis in
    let stop = c.in-Err-judge_in.stop in
    let held = standing (g.F.Files.log c.args.files.now) name in
    let same : standing (g.F.Files.log c.open_for.new.files) base.name ≡ held = ap (standing (g.F.Files.log c.open_for.new.files)) c.in-Ok.ensures.name ∙ reads-file c.in-Ok.ensures.reads name in
    rw (c.look_refusal.ensures.tells)
    (file-not-judged c.one_list_gives_the_loss.ensures c.args.wanted name base c.args.score old new stop held (c.in-Ok.ensures.told (reads-before c.judge_in.ensures.reads told))
    (subst (λ (f : Option (List ℕ)). AnswersLooking base f c.args.score old new (Err stop)) same (c.in-Err-judge_in.ensures.told told)))

pub returns-in-Ok-judge_in-clause-reads : goal.returns-in-Ok-judge_in-clause-reads
returns-in-Ok-judge_in-clause-reads g c = reads-both _ _ _ c.open_for.ensures.reads c.judge_in.ensures.reads

pub returns-clause-reads : goal.returns-clause-reads
returns-clause-reads g c = reads-both _ _ _ c.open_for.ensures.reads c.judge_in.ensures.reads
