use Rattle.whole_file_commands.proofs.ReplyFiles.{has-replied}
use Rattle.whole_file_commands.proofs.reply.run_reply.Goals as goal

pub returns-in-Ok-clause-tells : goal.returns-in-Ok-clause-tells
returns-in-Ok-clause-tells g c =
    let task = c.args.task.now in
    let loaded = c.in_ok-base.field-0 in
    has-replied task _ _ loaded c.in_ok-base.ensures.told (c.replies_hold_for_any_words.ensures loaded.base.words c.in_ok-base.ensures.game task.rounds task.position loaded.kind.number c.in_ok-base.ensures.state)
    c.in_ok-found.found (rw (c.words.ensures.words) at c.in_ok-found.ensures) _ c.in-Ok.ensures

pub returns-clause-tells : goal.returns-clause-tells
returns-clause-tells g c =
    let task = c.args.task.now in
    let loaded = c.in_ok-base.field-0 in
    has-replied task _ _ loaded c.in_ok-base.ensures.told (c.replies_hold_for_any_words.ensures loaded.base.words c.in_ok-base.ensures.game task.rounds task.position loaded.kind.number c.in_ok-base.ensures.state)
    c.in_ok-found.found (rw (c.words.ensures.words) at c.in_ok-found.ensures) _ (_, c.in-Err.ensures)
