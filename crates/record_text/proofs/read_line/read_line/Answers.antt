use Rattle.std.proofs.Common.{◌≡◌, ◌∙◌, Some, rules}
use Rattle.record_text.specs.Forms.{form_of}
use Rattle.record_text.specs.FormWords.{form}
use Rattle.record_text.proofs.FormLaws.{form-says}
use Rattle.record_text.proofs.read_line.read_line.Goals as goal

pub returns-in-Ok-clause-text : goal.returns-in-Ok-clause-text
returns-in-Ok-clause-text c =
    let has_form : form_of c.args.line.now ≡ Some (form c.in-Some.form) = search rules in
    form-says c.args.line.now (form c.in-Some.form) has_form ∙ c.in-Ok.ensures.ok.0
