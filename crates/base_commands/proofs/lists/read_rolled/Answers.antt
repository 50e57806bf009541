use Rattle.std.proofs.Common.{inr}
use Rattle.std.proofs.lemmas.List.{take_rest}
use Rattle.base_commands.proofs.lists.read_rolled.Goals as goal

pub returns-in-Err-read_roll-clause-given : goal.returns-in-Err-read_roll-clause-given
returns-in-Err-read_roll-clause-given c =
    inr (c.in-Ok.position, rw (c.without_blanks.ensures, c.word_start-start.ensures.start) at c.in-Ok.ensures.given, rw (take_rest c.args.line.now c.word_start-start.result, c.word_start-start.ensures.start) at c.in-Err-read_roll.ensures.given)
