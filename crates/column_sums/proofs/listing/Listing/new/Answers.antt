use Rattle.std.proofs.Common.{vec_capacity}
use Rattle.column_sums.proofs.Listed.{listing-none}
use Rattle.column_sums.proofs.listing.Listing.new.Goals as goal

pub invariant_of-result : goal.invariant_of-result
invariant_of-result c = rw (c.in_ok-with_capacity.ensures.items, c.in_ok-no_marks.ensures) (listing-none (vec_capacity c.in_ok-with_capacity.field-0) c.in_ok-with_capacity.ensures.capacity)
