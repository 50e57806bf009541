use Rattle.std.proofs.Common.{◌≡◌, ◌∙◌, ℕ, List, [], Option, inr, ap, subst}
use Rattle.std.specs.Str.Lines.{lines}
use Rattle.outside_log.specs.Log.{standing}
use Rattle.outside_log.specs.Readings.{is_faithful}
use Rattle.outside_log.proofs.Readings.{reads-before, reads-both, reads-file}
use Rattle.base_commands.specs.ListAnswers.{AddsAnswers, AnswersLine}
use Rattle.base_commands.proofs.ListLaws.{list-answered, list-refused}
use Rattle.base_commands.proofs.list_answers.report_on.Goals as goal

pub returns-in_err-base-clause-told : goal.returns-in_err-base-clause-told
returns-in_err-base-clause-told g c =
    let file = c.args.file.now in
    list-refused file c.args.list.now (AnswersLine c.args.sought file) _ (standing (g.F.Files.log c.args.files.now)) c.in_err-base.field-0.0 c.from_residual-in_err-base.result
    (λ told. inr (rw (reads-file c.in_ok-list.ensures.reads file) at c.in_err-base.ensures.told told)) c.from_residual-in_err-base.ensures.1

pub returns-in_err-base-clause-reads : goal.returns-in_err-base-clause-reads
returns-in_err-base-clause-reads g c = reads-both _ _ _ c.read_list.ensures.reads c.open_for.ensures.reads

pub returns-in_err-answer_lines-clause-reads : goal.returns-in_err-answer_lines-clause-reads
returns-in_err-answer_lines-clause-reads g c = reads-both _ _ _ (reads-both _ _ _ c.read_list.ensures.reads c.open_for.ensures.reads) c.answer_lines.ensures.reads

pub returns-clause-reads : goal.returns-clause-reads
returns-clause-reads g c = reads-both _ _ _ (reads-both _ _ _ c.read_list.ensures.reads c.open_for.ensures.reads) c.answer_lines.ensures.reads

pub returns-clause-told : goal.returns-clause-told
returns-clause-told g c =
    let file = c.args.file.now in
    let opened = c.open_for.ensures.reads in
    let answered = c.answer_lines.ensures.reads in
    let name : c.in_ok-base.base.name ≡ file = c.in_ok-base.ensures.name in
    let is = ap (standing (g.F.Files.log c.open_for.new.files)) name ∙ reads-file opened file ∙ reads-file c.in_ok-list.ensures.reads file in
    let told = is_faithful (g.F.Files.log c.answer_lines.new.files) in
    let adds = rw (c.as_slice-lines.ensures.value, c.new-report.ensures.items) at c.in_ok-answer_lines.ensures.added in
    let named = subst (λ (n : List ℕ). AddsAnswers (AnswersLine c.args.sought n) c.in_ok-base.base (standing (g.F.Files.log c.open_for.new.files) c.in_ok-base.base.name) told (lines c.in_ok-list.list.items) [] c.answer_lines.new.report.items) name adds in
    list-answered file c.args.list.now (AnswersLine c.args.sought file) _ (standing (g.F.Files.log c.args.files.now)) c.in_ok-base.base c.in_ok-list.list.items c.answer_lines.new.report.items
    (λ told. c.in_ok-list.ensures.told (reads-before opened (reads-before answered told)))
    (λ told. rw (reads-file c.in_ok-list.ensures.reads file) at c.in_ok-base.ensures.told (reads-before answered told))
    (subst (λ (held : Option (List ℕ)). AddsAnswers (AnswersLine c.args.sought file) c.in_ok-base.base held told (lines c.in_ok-list.list.items) [] c.answer_lines.new.report.items) is named)
