use Rattle.std.proofs.Common.{◌∙◌}
use Rattle.record_commands.proofs.ReadRecords.{right-at-lines, stopped}
use Rattle.record_commands.proofs.record.replay_text.Goals as goal

pub returns-in-Ok-in_text-clause-right : goal.returns-in-Ok-in_text-clause-right
returns-in-Ok-in_text-clause-right c =
    let replayed = c.in-Ok-replay_plain.replayed in
    right-at-lines replayed.rec c.in-Ok.plain.lines.items replayed.decisions c.in-Ok-in_text.decisions c.in-Ok-replay_plain.ensures.right c.in-Ok-in_text.ensures

pub returns-in-Err-clause-told : goal.returns-in-Err-clause-told
returns-in-Err-clause-told c =
    rw c.record_refusal.ensures.refusal (stopped c.args.text.now c.as_slice.result.now c.in-Ok.plain.lines.items c.requires (c.as_slice.ensures.value ∙ c.in-Ok.ensures.text) c.in-Ok.ensures.lines c.in-Err.stop c.in-Err.ensures.err)
