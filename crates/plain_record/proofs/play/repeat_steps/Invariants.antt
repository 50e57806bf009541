use Rattle.std.proofs.Common.{◌≡◌, ◌-◌, ◌++◌, false}
use Rattle.std.specs.List.{flat_map}
use Rattle.plain_record.specs.Plain.{parts, repeated, spaced, steps_on}
use Rattle.plain_record.proofs.play.repeat_steps.Given as goal

abbrev pub invariant-checkers : goal.invariant-checkers
invariant-checkers l =
    l.text.items ++ flat_map spaced (repeated (l.count - l._i) (steps_on false l.start (parts 47 l.places))) ≡ l.fn.text.items ++ flat_map spaced (repeated l.count (steps_on false l.start (parts 47 l.places)))
