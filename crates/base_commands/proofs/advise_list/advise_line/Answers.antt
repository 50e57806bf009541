use Rattle.outside_log.specs.Log.{standing}
use Rattle.base_commands.proofs.ListLaws.{none-rolled, rolled-line}
use Rattle.base_commands.proofs.advise_list.advise_line.Goals as goal

pub returns-in-Ok-clause-told : goal.returns-in-Ok-clause-told
returns-in-Ok-clause-told g c told =
    let base = c.args.base.now in
    rolled-line c.args.line.now (standing (g.F.Files.log c.args.files.now) base.name) base c.args.asked c.in-Ok.rolled c.advise_rolled.result c.in-Ok.ensures.given (c.advise_rolled.ensures.told told)

pub returns-in-Err-clause-told : goal.returns-in-Err-clause-told
returns-in-Err-clause-told g c told =
    let base = c.args.base.now in
    none-rolled base.name c.args.asked c.args.line.now (standing (g.F.Files.log c.args.files.now) base.name) base c.in-Err.refusal c.in-Err.ensures.given
