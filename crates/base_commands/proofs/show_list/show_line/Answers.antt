use Rattle.outside_log.specs.Log.{standing}
use Rattle.base_commands.proofs.ListLaws.{line-told, none-given}
use Rattle.base_commands.proofs.show_list.show_line.Goals as goal

pub returns-in-Ok-clause-told : goal.returns-in-Ok-clause-told
returns-in-Ok-clause-told g c told =
    let base = c.args.base.now in
    line-told c.args.line.now (standing (g.F.Files.log c.args.files.now) base.name) base c.in-Ok.position c.show_position.result c.in-Ok.ensures.given (c.show_position.ensures.told told)

pub returns-in-Err-clause-told : goal.returns-in-Err-clause-told
returns-in-Err-clause-told g c told =
    let base = c.args.base.now in
    none-given c.args.line.now (standing (g.F.Files.log c.args.files.now) base.name) base c.in-Err.refusal c.in-Err.ensures.given
