use Rattle.std.proofs.Common.{◌≡◌, List, subst}
use Rattle.word_forms.specs.Form.{Bytes, Form}
use Rattle.word_forms.specs.Clap.{form_by, HasFlags}
use Rattle.command_line.specs.Commands.{command_form}
use Rattle.command_line.proofs.words.read_arguments.Goals as goal

abbrev form : (arguments options flags : List Bytes) → Form
form arguments options flags = record { arguments = arguments; options = options; flags = flags }

pub returns-in-Ok : goal.returns-in-Ok
returns-in-Ok c =
    let is : form_by c.arguments.result.now c.options.result.now c.flags.result.now ≡ command_form c.args.name =
    λ i. form (c.arguments.ensures i) (c.options.ensures i) (c.flags.ensures i) in
    let read = c.in-Ok.ensures in
    rw (← is, read.1) (c.read_values.ensures read.0 read.2 (subst (λ (f : Form). HasFlags f read.0 c.in-Ok.values) is read.3))
