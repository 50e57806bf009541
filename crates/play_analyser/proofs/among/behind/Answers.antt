use Rattle.std.proofs.Common.{arith}
use Rattle.std.proofs.lemmas.Int.{ints, clamps}
use Rattle.play_analyser.proofs.among.behind.Goals as goal

pub new-requires : goal.new-requires
new-requires c =
    omega (arith, ints, clamps, c.max.ensures, c.max-2.ensures, c.add-lower.ensures, c.add-upper.ensures, c.neg.ensures, c.neg-2.ensures, c.lower.ensures.lower, c.upper-2.ensures.upper, c.upper.ensures.upper, c.lower-2.ensures.lower, c.lower-3.ensures.lower, c.upper-3.ensures.upper, c.requires.chosen.in_order, c.requires.other.in_order, c.lower-3.ensures.in_order)
