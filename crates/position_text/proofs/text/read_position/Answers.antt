use Rattle.std.proofs.Common.{◌≡◌, Some, true, ap, refl, sym, ◌∙◌, rules}
use Rattle.std.specs.Result.{result_ok}
use Rattle.position_text.specs.Text.{words, before_slash, after_slash}
use Rattle.position_text.proofs.TextReads.{first-places, read_words-done}
use Rattle.position_text.proofs.text.read_position.Goals as goal

pub set_up-requires-clause-mover : goal.set_up-requires-clause-mover
set_up-requires-clause-mover c =
    let some : c.read_sides.result ≡ Some (c.in_ok-mover.mover, c.in_ok-mover.other) = c.ok_or.ensures.ok_part ∙ ap result_ok c.in_ok-mover.was in
    first-places (before_slash (words c.args.text.now)) c.deref.result.now (c.deref.ensures.0 ∙ (rw some at c.read_sides.ensures.mover))

pub set_up-requires-clause-other : goal.set_up-requires-clause-other
set_up-requires-clause-other c =
    let some : c.read_sides.result ≡ Some (c.in_ok-mover.mover, c.in_ok-mover.other) = c.ok_or.ensures.ok_part ∙ ap result_ok c.in_ok-mover.was in
    first-places (after_slash (words c.args.text.now)) c.deref-2.result.now (c.deref-2.ensures.0 ∙ (rw some at c.read_sides.ensures.other))

pub returns-clause-text : goal.returns-clause-text
returns-clause-text c =
    let some : c.read_sides.result ≡ Some (c.in_ok-mover.mover, c.in_ok-mover.other) = c.ok_or.ensures.ok_part ∙ ap result_ok c.in_ok-mover.was in
    let shape : c.has_shape.result ≡ true = search rules in
    c.set_up.ensures.placement ∙ read_words-done (words c.args.text.now) c.deref.result.now c.deref-2.result.now (sym c.has_shape.ensures ∙ shape) (c.read_sides.ensures.places.0 (rw some refl)) (c.deref.ensures.0 ∙ (rw some at c.read_sides.ensures.mover)) (c.deref-2.ensures.0 ∙ (rw some at c.read_sides.ensures.other))
