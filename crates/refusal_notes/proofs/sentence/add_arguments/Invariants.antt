use Rattle.refusal_notes.specs.Notes.{GoesOn}
use Rattle.refusal_notes.proofs.sentence.add_arguments.Given as goal

abbrev pub invariant-loop-argument : goal.invariant-loop-argument
invariant-loop-argument l = GoesOn l.initial.text.bytes l.text.bytes
