use Rattle.std.proofs.Common.{◌≡◌, ◌<◌, ℕ, map, get_or}
use Rattle.turn_rule.specs.declared.ends.OneRoll.{OneRoll}
use Rattle.turn_rule.specs.Rolled.{HasEnds, weighted}
use Rattle.turn_rule.proofs.ends.fill_all.Given as goal

abbrev pub invariant-loop-one : goal.invariant-loop-one
invariant-loop-one l = record {
  rolls : map weighted l.kept ≡ map weighted l.fn.kept;
  ends : (k : ℕ) (d : OneRoll) → k < l.one-index → HasEnds l.position (get_or l.kept k d);
}
