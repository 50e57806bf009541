use Rattle.std.proofs.Common.{◌≡◌, ◌∙◌, List, ◌∷◌, Option, Some, string_bytes, ap, sym, subst}
use Rattle.std.specs.Option.{option_map_or}
use Rattle.hyper_outside.specs.declared.outside.WordsKind.TheVariants.{Command}
use Rattle.word_forms.specs.Form.{Bytes}
use Rattle.word_forms.specs.Clap.{bytes_of}
use Rattle.command_line.specs.declared.command.CommandName.{CommandName}
use Rattle.command_line.specs.Commands.{refused}
use Rattle.command_line.specs.Reading.{Gives}
use Rattle.command_line.specs.Words.{command_asked, reading, words_reading}
use Rattle.command_line.proofs.Rightness.{given-right}
use Rattle.command_line.proofs.words.read_words.Goals as goal

pub returns-in-Some-asked-clause-reads : goal.returns-in-Some-asked-clause-reads
returns-in-Some-asked-clause-reads c =
    let name = string_bytes c.in-Some.name.now in
    let rest = bytes_of c.in-Some.words.now in
    let is : bytes_of c.args.words.now ≡ name ∷ rest = ap bytes_of c.in-Some.ensures.cases.0 in
    let asked : command_asked name rest ≡ Some c.in-Some-asked.command = sym (ap (λ (n : Bytes). command_asked n rest) c.as_str.ensures.value) ∙ sym c.asked.ensures ∙ c.in-Some-asked.is in
    subst (λ (words : List Bytes). Gives (reading words) c.read_command.result) (sym is)
    (subst (λ (command : Option CommandName). Gives (option_map_or (λ n. words_reading n rest) command (refused Command 0)) c.read_command.result) (sym asked) c.read_command.ensures)

pub returns-in-Some-asked-clause-right : goal.returns-in-Some-asked-clause-right
returns-in-Some-asked-clause-right c = given-right (bytes_of c.args.words.now) c.read_command.result (returns-in-Some-asked-clause-reads c)
