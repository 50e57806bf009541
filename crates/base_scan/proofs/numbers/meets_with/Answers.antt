use Rattle.std.proofs.Common.{◌∙◌, sym}
use Rattle.base_scan.proofs.Looks.{no-advice}
use Rattle.base_scan.proofs.numbers.meets_with.Goals as goal

pub returns-else-meets_by : goal.returns-else-meets_by
returns-else-meets_by c =
    c.if-meets_by.false
    ∙ sym (no-advice c.args.words.now c.args.condition.now c.args.seen.now.position c.args.seen.now.kind (sym c.meets_by.ensures ∙ c.if-meets_by.false))
