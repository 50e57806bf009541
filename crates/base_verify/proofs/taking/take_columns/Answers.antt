use Rattle.std.proofs.Common.{◌≡◌, ◌∙◌, length, drop, arith}
use Rattle.std.proofs.lemmas.Grind.{common_steps}
use Rattle.std.proofs.lemmas.List.{take_all, take-append-le}
use Rattle.base_verify.proofs.taking.take_columns.Goals as goal

pub returns : goal.returns
returns g c =
    let marks = c.mark_columns.new.marks in
    let rest = drop (length marks) c.in_ok-marks.marks.items in
    let long = c.in_ok-marks.marks.len in
    let all = c.layout_count-count.ensures.count in
    let same = c.checkers.ensures.checkers in
    let many : long ≡ length marks = grind (arith, common_steps, all, same) in
    rw (take-append-le long marks rest (omega (arith, many)) ∙ take_all long marks (omega (arith, many))) c.mark_columns.ensures
