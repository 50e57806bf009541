use Rattle.std.proofs.Common.{◌≡◌, take, length, Ok}
use Rattle.arrayvec.specs.ArrayVec.{ArrayVec}
use Rattle.directed_fixed.specs.Bounds.{Bounds}
use Rattle.turn_rule.specs.Looks.{Looked}
use Rattle.turn_rule.proofs.Found.{look}
use Rattle.turn_rule.specs.Found.{of_play}
use Rattle.play_analyser.specs.Sought.{ArePairsFor, MeetsSome}
use Rattle.play_analyser.proofs.play_pairs.play_pairs.Given as goal

-- the pairs of the plays so far
abbrev pub invariant-loop-left : goal.invariant-loop-left
invariant-loop-left g l =
    let s = (g.P.Pairs.seen l.fn.pairs).source in
    let later = g.P.Pairs.seen l.pairs in
    record {
      source : later.source ≡ s;
      stays : g.P.Pairs.stays l.pairs ≡ g.P.Pairs.stays l.fn.pairs;
      many : length l.found.items ≡ l.left-index;
      found : Looked (look s (g.P.Pairs.seen l.fn.pairs).notes later.notes (g.P.Pairs.seen l.fn.pairs).faults later.faults) (MeetsSome (of_play l.kind) l.ends s) (λ (f : ArrayVec Bounds). ArePairsFor (of_play l.kind) (take l.left-index l.ends) s later.notes f.items) (Ok l.found);
    }
