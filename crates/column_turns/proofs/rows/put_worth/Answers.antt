use Rattle.std.proofs.Common.{◌∙◌}
use Rattle.std.proofs.lemmas.List.{length-set}
use Rattle.std.proofs.lemmas.List.Elements.{All-set}
use Rattle.column_sums.specs.Tables.{AreRow}
use Rattle.column_turns.proofs.rows.put_worth.Goals as goal

pub returns-clause-rows : goal.returns-clause-rows
returns-clause-rows c = λ kinds are.
    let rows = c.args.rows.now in
    let row = c.set.new.self in
    record { many = length-set rows c.args.number row ∙ are.many; each = All-set AreRow rows _ row c.set.ensures.row are.each }
