use Rattle.std.proofs.Common.{◌≡◌, map, take}
use Rattle.race_table.specs.FreePlays.{against}
use Rattle.race_table.specs.Tables.{best_race}
use Rattle.race_table.proofs.fill.best_of.Given as goal

-- the best of the plays so far
abbrev pub invariant-loop-i : goal.invariant-loop-i
invariant-loop-i l = l.best ≡ best_race l.races (map (against l.other) (take l.i l.ends))
