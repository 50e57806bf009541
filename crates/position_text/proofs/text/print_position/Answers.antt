use Rattle.position_text.proofs.TextPrint.{joined-position}
use Rattle.position_text.proofs.text.print_position.Goals as goal

pub returns : goal.returns
returns c = joined-position c.args.position.now c.push_side.new.text.bytes c.push_word.new.text.bytes c.push_side-2.new.text.bytes (rw (c.mover.ensures.mover, c.new-text.ensures) at c.push_side.ensures.words) c.push_word.ensures (rw c.other.ensures.other at c.push_side-2.ensures.words)
