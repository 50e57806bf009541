use Rattle.std.proofs.Common.{◌∙◌}
use Rattle.std.proofs.lemmas.List.{length-map}
use Rattle.word_forms.proofs.Walks.{small_form}
use Rattle.clap.specs.Words.{app_of}
use Rattle.word_forms.specs.Clap.{form_by, bytes_of}
use Rattle.word_forms.proofs.Readings.{read_ok, stop_is, is_free}
use Rattle.word_forms.proofs.read_form.Goals as goal

pub returns-in-Ok : goal.returns-in-Ok
returns-in-Ok c =
    let f = form_by c.args.arguments.now c.args.options.now c.args.flags.now in
    let words = bytes_of c.args.words.now in
    let app = app_of c.in_ok-command.command in
    let small : small_form f = rw length-map c.requires.few in
    let kinds = c.in-Ok.ensures.kinds (is_free f words small c.requires.right app c.in_ok-command.ensures) in
    read_ok f words small c.requires.right app c.in_ok-command.ensures c.in-Ok.matches kinds c.in-Ok.ensures.matches

pub returns-in-Err : goal.returns-in-Err
returns-in-Err c =
    let f = form_by c.args.arguments.now c.args.options.now c.args.flags.now in
    let words = bytes_of c.args.words.now in
    let app = app_of c.in_ok-command.command in
    let small : small_form f = rw length-map c.requires.few in
    let kinds = c.in-Err.ensures.kinds (is_free f words small c.requires.right app c.in_ok-command.ensures) in
    stop_is f words small c.requires.right app c.in_ok-command.ensures c.stop_of.result c.in-Err.error kinds (λ e. c.stop_of.ensures.1 (c.kind.ensures ∙ e))
