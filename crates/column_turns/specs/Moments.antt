-- A place of look-ups at two moments.
use Rattle.std.specs.Prelude.{◌≡◌, ◌≤◌}
use Rattle.turn_rule.specs.Looks.{Seen, AreLater}

-- the same source, later notes, and a count of faults that hasn't fallen
pub record IsLater (old new : Seen) : Type 0 where
  pub source : new.source ≡ old.source
  pub notes : AreLater old.source old.notes new.notes
  pub faults : old.faults ≤ new.faults
