use Rattle.std.proofs.Common.{◌≡◌, ◌∙◌, ◌≤◌, List, ℕ, sym, ap, arith}
use Rattle.database_file.specs.PagedFiles.{PagedFile}
use Rattle.outside_log.specs.Log.{standing}
use Rattle.outside_log.specs.Readings.{is_faithful}
use Rattle.outside_log.proofs.Readings.{reads-before, reads-both, reads-file}
use Rattle.base_commands.specs.ListAnswers.{AnswersLine}
use Rattle.base_commands.proofs.ListLaws.{all-answered, answer-of, none-answered, one-answered}
use Rattle.base_commands.proofs.ListLines.{none-left}
use Rattle.base_commands.proofs.list_answers.answer_lines.Goals as goal

pub lines-preserved : goal.lines-preserved
lines-preserved g c =
    let base = c.args.base.now in
    let held = standing (g.F.Files.log c.args.files.now) base.name in
    let now = c.lines.base in
    let same = c.lines.invariant.base in
    let line = c.first_line.result.0.now in
    let added = c.in_ok-add_line.ensures in
    let is : standing (g.F.Files.log c.lines.files) now.name ≡ held = ap (λ (b : PagedFile). standing (g.F.Files.log c.lines.files) b.name) same ∙ reads-file c.lines.invariant.reads base.name in
    let told = is_faithful (g.F.Files.log c.add_line.new.files) in
    let adds = answer-of (AnswersLine c.args.sought) base now held (standing (g.F.Files.log c.lines.files) now.name) told line c.lines.report.items c.add_line.new.report.items same is added.added in
    record {
      answered = one-answered (AnswersLine c.args.sought base.name) base held _ told c.args.list.now c.lines.rest.now line c.first_line.result.1.now c.args.report.now.items c.lines.report.items c.add_line.new.report.items
          c.lines.invariant.answered (reads-before added.reads) c.first_line.ensures.first adds;
      base = added.kept ∙ ap (λ (b : PagedFile). record b { kept = c.add_line.new.base.kept }) same;
      of_file = added.of_file;
      later = omega (arith, c.lines.invariant.later, added.later);
      reads = reads-both _ _ _ c.lines.invariant.reads added.reads;
    }

pub returns-in_err-add_line-clause-reads : goal.returns-in_err-add_line-clause-reads
returns-in_err-add_line-clause-reads g c = reads-both _ _ _ c.lines.invariant.reads c.add_line.ensures.reads

pub returns-clause-added : goal.returns-clause-added
returns-clause-added g c =
    all-answered (AnswersLine c.args.sought c.args.base.now.name) c.args.base.now (standing (g.F.Files.log c.args.files.now) c.args.base.now.name) _ c.args.list.now c.lines.rest.now c.args.report.now.items c.lines.report.items
    (none-left c.lines.rest.now (sym c.is_empty.ensures ∙ c.lines-test.false)) c.lines.invariant.answered
