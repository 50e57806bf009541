use Rattle.std.proofs.Common.{◌≡◌, ◌∙◌, arith}
use Rattle.column_sums.specs.Leaps.{layout_at}
use Rattle.column_turns.specs.Columns.{IsRoomOf}
use Rattle.base_verify.proofs.ColumnLemmas.{column-held}
use Rattle.base_verify.proofs.columns.column_holds.Goals as goal

pub returns-clause-held : goal.returns-clause-held
returns-clause-held c = λ _.
    let words = c.args.words.now in
    let column = c.fill.new.self in
    let room : IsRoomOf words.game column = record { layouts = rw c.fill.ensures.layouts c.requires.room.layouts; kinds = c.fill.ensures.kinds ∙ c.requires.room.kinds } in
    let is : column.other ≡ layout_at column.layouts c.args.other = rw c.fill.ensures.layouts c.fill.ensures.other in
    column-held words column c.args.other room c.requires.other is c.fill.ensures.movers (λ side i k below kind. c.loop-kind.invariant k (omega (arith, kind, c.loop-kind-test.false, c.kinds-kind-end.ensures, room.kinds)) side i below)
