use Rattle.column_sums.specs.Listings.{AreUnmarked}
use Rattle.column_sums.proofs.listing.unmark.Given as goal

abbrev pub invariant-loop-i : goal.invariant-loop-i
invariant-loop-i l = AreUnmarked l.cells l.count l.i l.fn.marks l.marks
