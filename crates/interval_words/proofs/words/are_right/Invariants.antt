use Rattle.std.proofs.Common.{◌<◌, ℕ}
use Rattle.directed_fixed.specs.Bounds.{IsWithin}
use Rattle.interval_words.specs.WordLists.{pair_at}
use Rattle.interval_words.proofs.words.are_right.Given as goal

abbrev pub invariant-loop-state : goal.invariant-loop-state
invariant-loop-state l = (n : ℕ) → n < l.state → IsWithin l.bound (pair_at l.list n)
