-- Moments one after another.
use Rattle.std.proofs.Common.{◌∙◌, ℤ, refl, arith, subst}
use Rattle.directed_fixed.specs.declared.bounds.End.{End}
use Rattle.turn_rule.specs.Looks.{Source, Seen, Sought, AreLater}
use Rattle.turn_rule.specs.Found.{IsFoundOf}
use Rattle.turn_rule.proofs.Found.{notes-refl, notes-trans, found-later}
use Rattle.column_turns.specs.Moments.{IsLater}

pub later-refl : (a : Seen) → IsLater a a
later-refl a = record { source = refl; notes = notes-refl a.source a.notes; faults = omega arith }

-- the notes of a later moment, in terms of the first one's source
pub later-notes : (a b c : Seen) → IsLater a b → IsLater b c → AreLater a.source b.notes c.notes
later-notes a b c one two = subst (λ (s : Source). AreLater s b.notes c.notes) one.source two.notes

pub later-trans : (a b c : Seen) → IsLater a b → IsLater b c → IsLater a c
later-trans a b c one two = record {
  source = two.source ∙ one.source;
  notes = notes-trans a.source a.notes b.notes c.notes one.notes (later-notes a b c one two);
  faults = omega (arith, one.faults, two.faults);
}

-- what was found stays found
pub found-then : (end : End) (sought : Sought) (a b c : Seen) (x : ℤ) → IsLater a b → IsLater b c → IsFoundOf end sought a.source b.notes x → IsFoundOf end sought a.source c.notes x
found-then end sought a b c x one two found = found-later end a.source b.notes c.notes sought.states (sought.limit a.source.bound) (sought.value end) x (later-notes a b c one two) found
