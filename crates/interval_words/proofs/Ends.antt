-- Values as one end of a pair.
use Rattle.std.proofs.Common.{◌≡◌, ℕ, ℤ, arith}
use Rattle.std.proofs.lemmas.Int.{ints, clamps}
use Rattle.directed_fixed.specs.declared.bounds.End.{End}
use Rattle.directed_fixed.specs.declared.bounds.End.TheVariants.{Lower, Upper}
use Rattle.directed_fixed.specs.Bounds.{IsNoLooser, IsWithinUnits}
use Rattle.interval_words.specs.Numbers.{value_of, tightest, tightest_word}

pub tight-refl : (end : End) (a : ℤ) → IsNoLooser end a a
tight-refl Lower a = omega (arith, ints)
tight-refl Upper a = omega (arith, ints)

pub tight-trans : (end : End) (a b c : ℤ) → IsNoLooser end a b → IsNoLooser end b c → IsNoLooser end a c
tight-trans Lower a b c h j = omega (arith, ints)
tight-trans Upper a b c h j = omega (arith, ints)

pub tightest-left : (end : End) (a b : ℤ) → IsNoLooser end (tightest end a b) a
tightest-left Lower a b = omega (arith, ints, clamps)
tightest-left Upper a b = omega (arith, ints, clamps)

pub tightest-right : (end : End) (a b : ℤ) → IsNoLooser end (tightest end a b) b
tightest-right Lower a b = omega (arith, ints, clamps)
tightest-right Upper a b = omega (arith, ints, clamps)

-- what is at least as tight as both is so as the tighter one
pub tight-tightest : (end : End) (a b c : ℤ) → IsNoLooser end c a → IsNoLooser end c b → IsNoLooser end c (tightest end a b)
tight-tightest Lower a b c h j = omega (arith, ints, clamps)
tight-tightest Upper a b c h j = omega (arith, ints, clamps)

pub tightest-mono : (end : End) (a b c : ℤ) → IsNoLooser end b c → IsNoLooser end (tightest end a b) (tightest end a c)
tightest-mono Lower a b c h = omega (arith, ints, clamps)
tightest-mono Upper a b c h = omega (arith, ints, clamps)

pub within-tightest : (end : End) (bound a b : ℤ) → IsWithinUnits bound a → IsWithinUnits bound b → IsWithinUnits bound (tightest end a b)
within-tightest Lower bound a b h j = record { from = omega (arith, ints, clamps, h.from, j.from); to = omega (arith, ints, clamps, h.to, j.to) }
within-tightest Upper bound a b h j = record { from = omega (arith, ints, clamps, h.from, j.from); to = omega (arith, ints, clamps, h.to, j.to) }

-- the greater word stands for the greater value
pub value_of-tightest : (end : End) (a b : ℕ) → value_of (tightest_word end a b) ≡ tightest end (value_of a) (value_of b)
unfolding value_of
value_of-tightest Lower a b = omega (arith, ints, clamps)
value_of-tightest Upper a b = omega (arith, ints, clamps)
