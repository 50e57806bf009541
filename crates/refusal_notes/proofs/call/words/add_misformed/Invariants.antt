use Rattle.refusal_notes.specs.Notes.{GoesOn}
use Rattle.refusal_notes.proofs.call.words.add_misformed.Given as goal

abbrev pub invariant-loop-at : goal.invariant-loop-at
invariant-loop-at l = GoesOn l.initial.text.bytes l.text.bytes
