use Rattle.std.proofs.Common.{◌≡◌, ◌++◌}
use Rattle.std.specs.List.{flat_map}
use Rattle.std.specs.Option.{option_map}
use Rattle.plain_record.specs.Cuts.{parts_left}
use Rattle.plain_record.specs.Plain.{parts, spaced, steps_on}
use Rattle.plain_record.proofs.Parts.{left_over}
use Rattle.plain_record.proofs.play.add_steps.Given as goal

abbrev pub invariant-places : goal.invariant-places
invariant-places l = l.text.items ++ flat_map spaced (steps_on l.is_first l.from (parts_left 47 (option_map (λ rest. rest.now) l.rest))) ≡ l.fn.text.items ++ flat_map spaced (steps_on l.is_first l.start (parts 47 l.places))

abbrev pub decreases-places : goal.decreases-places
decreases-places l = left_over (option_map (λ rest. rest.now) l.rest)
