use Rattle.std.proofs.Common.{◌≤◌, length, length-append, ap, arith}
use Rattle.std.proofs.lemmas.Fmt.{length-decimal-le}
use Rattle.cube_actions.specs.declared.phase.Phase.{Phase}
use Rattle.cube_actions.specs.declared.phase.Phase.TheVariants.{Normal, Crawford, Post}
use Rattle.cube_text.specs.Texts.{letter}
use Rattle.cube_text.proofs.scores.print_score.Goals as goal

letter_short : (phase : Phase) → length (letter phase) ≤ 1
letter_short Normal = omega arith
letter_short Crawford = omega arith
letter_short Post = omega arith

pub push_str-requires-3 : goal.push_str-requires-3
push_str-requires-3 c =
    let needs = c.needs.ensures.valid.needs in
    let near = length-decimal-le 1 c.needs.result (omega arith) (omega (arith, needs.in_order, needs.to, c.needs.ensures.needs)) (omega (arith, needs.in_order, needs.to, c.needs.ensures.needs)) in
    let far = length-decimal-le 1 c.needs-2.result (omega arith) (omega (arith, needs.to, c.needs-2.ensures.needs)) (omega (arith, needs.to, c.needs-2.ensures.needs)) in
    let first = simp length-append at (ap length c.push_str.ensures.bytes) in
    let dot = simp length-append at (ap length (c.push.ensures.ascii (omega arith))) in
    let second = simp length-append at (ap length c.push_str-2.ensures.bytes) in
    let dots = simp length-append at (ap length (c.push-2.ensures.ascii (omega arith))) in
    (omega arith, omega (arith, first, dot, second, dots, ap length c.new-text.ensures, ap length c.format.ensures.text, ap length c.format-2.ensures.text, near, far, ap length c.letter.ensures, letter_short c.score.inside.phase))
