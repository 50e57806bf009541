-- Why words that haven't a command's form are refused.
use Rattle.hyper_outside.specs.declared.outside.WordsKind.TheVariants.{Form}
use Rattle.word_forms.specs.declared.FormStop.{FormStop}
use Rattle.word_forms.specs.declared.FormStop.TheVariants as form
use Rattle.command_line.specs.declared.stop.WordsFault.TheVariants.{Words}
use Rattle.command_line.specs.declared.stop.WordsStop.{WordsStop}
use Rattle.command_line.specs.declared.stop.WordsStop.TheVariants.{Bad, NoMemory}

abbrev pub form_refusal : FormStop → WordsStop
form_refusal form.Form = Bad (Words (record { kind = Form; place = 0 }))
form_refusal form.NoMemory = NoMemory
