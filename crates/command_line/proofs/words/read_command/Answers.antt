use Rattle.std.proofs.Common.{◌∙◌, refl, sym}
use Rattle.word_forms.specs.Clap.{bytes_of}
use Rattle.command_line.proofs.Faulty.{none_misread}
use Rattle.command_line.proofs.Mapped.{same_place}
use Rattle.command_line.proofs.words.read_command.Goals as goal

pub read_arguments-requires : goal.read_arguments-requires
read_arguments-requires c = none_misread (bytes_of c.args.words.now) (sym (same_place c.args.words.now) ∙ sym c.in-None.ensures)

pub returns-in-Some : goal.returns-in-Some
returns-in-Some c = let at = sym (same_place c.args.words.now) ∙ sym c.in-Some.ensures in rw (c.bad.ensures, at, c.place_at.ensures) refl

pub returns-in-None : goal.returns-in-None
returns-in-None c = let none = sym (same_place c.args.words.now) ∙ sym c.in-None.ensures in rw none c.read_arguments.ensures
