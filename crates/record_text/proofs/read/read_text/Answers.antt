use Rattle.std.proofs.Common.{◌≡◌, ◌<◌, [], length, Some, rules, arith, sym, ◌∙◌}
use Rattle.game_record.specs.declared.stage.Next.TheVariants.{Nothing}
use Rattle.record_text.specs.Forms.{cut_at}
use Rattle.record_text.proofs.ReadingLaws.{cut-length, reading-more, whole-read}
use Rattle.record_text.proofs.read.read_text.Goals as goal

pub loop-line-smaller : goal.loop-line-smaller
loop-line-smaller c =
    let cut : cut_at 10 c.loop-line.rest.now ≡ Some (c.in-Some.line.now, c.in-Some.more.now) = search rules in
    let long = cut-length c.loop-line.rest.now c.in-Some.line.now c.in-Some.more.now cut in
    let less : length c.in-Some.more.now < length c.loop-line.rest.now = omega (arith, long) in
    less

pub loop-line-preserved : goal.loop-line-preserved
loop-line-preserved c =
    let cut : cut_at 10 c.loop-line.rest.now ≡ Some (c.in-Some.line.now, c.in-Some.more.now) = search rules in
    reading-more c.args.text.now c.loop-line.stage c.loop-line.draft c.loop-line.number c.loop-line.rest.now c.in-Some.line.now c.in-Some.more.now c.in_ok-stage.stage c.take_line.new.draft c.loop-line.invariant cut c.in_ok-stage.ensures.ok

pub returns-clause-ok : goal.returns-clause-ok
returns-clause-ok c =
    let whole : (c.loop-line.rest.now ≡ []) × (c.loop-line.stage.next ≡ Nothing) = search rules in
    let size = sym c.is_too_long.ensures ∙ c.if-is_too_long.false in
    rw c.finish.ensures (whole-read c.args.text.now c.loop-line.stage c.loop-line.draft c.loop-line.number c.loop-line.rest.now c.loop-line.invariant size whole.0 whole.1)
