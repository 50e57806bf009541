use Rattle.std.proofs.Common.{sym}
use Rattle.roll_table.specs.Rolls.{dice_of}
use Rattle.move_rules.proofs.WrittenLaws.{steps-lead}
use Rattle.play_text.proofs.PrintedTaken.{printed-taken}
use Rattle.play_text.proofs.notation.printed_plays_are_taken.Goals as goal

pub returns-clause-taken : goal.returns-clause-taken
returns-clause-taken c = printed-taken

pub returns-clause-end : goal.returns-clause-end
returns-clause-end c = λ p roll steps moves others q end s a t b. sym (steps-lead p (dice_of roll) (dice_of roll) steps moves others q end a s b t)
