use Rattle.refusal_notes.specs.Notes.{GoesOn}
use Rattle.refusal_notes.proofs.sentence.say.Given as goal

abbrev pub invariant-loop-piece : goal.invariant-loop-piece
invariant-loop-piece l = GoesOn l.initial.text.bytes l.text.bytes
