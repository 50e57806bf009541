use Rattle.std.proofs.Common.{◌≡◌, map, take}
use Rattle.record_analysis.specs.Analyses.{unjudged}
use Rattle.record_analysis.proofs.analysis.all_unjudged.Given as goal

-- those so far
abbrev pub invariant-loop-i : goal.invariant-loop-i
invariant-loop-i l = l.list.items ≡ map unjudged (take l.i l.decisions)
