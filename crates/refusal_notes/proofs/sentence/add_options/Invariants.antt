use Rattle.refusal_notes.specs.Notes.{GoesOn}
use Rattle.refusal_notes.proofs.sentence.add_options.Given as goal

abbrev pub invariant-loop-option : goal.invariant-loop-option
invariant-loop-option l = GoesOn l.initial.text.bytes l.text.bytes
