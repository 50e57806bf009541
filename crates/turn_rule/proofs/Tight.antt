-- More on tightness of an end, and tightness of words.
use Rattle.std.proofs.Common.{◌≡◌, ℕ, ℤ, ◌+ℤ◌, arith}
use Rattle.std.specs.Int.{int_min}
use Rattle.std.proofs.lemmas.Int.{ints}
use Rattle.directed_fixed.specs.declared.bounds.End.{End}
use Rattle.directed_fixed.specs.declared.bounds.End.TheVariants.{Lower, Upper}
use Rattle.directed_fixed.specs.Bounds.{IsNoLooser}
use Rattle.turn_rule.specs.Turn.{Words}
use Rattle.turn_rule.specs.States.{AreNoLooserOf}
use Rattle.turn_rule.proofs.Integers.{le_refl, le_trans, min_mono, add_mono}

-- what holds of both ends
pub each-end : (P : End → Type 0) → P Lower → P Upper → (end : End) → P end
each-end P lower upper Lower = lower
each-end P lower upper Upper = upper

pub tight-refl : (end : End) (a : ℤ) → IsNoLooser end a a
tight-refl Lower a = le_refl a
tight-refl Upper a = le_refl a

pub tight-trans : (end : End) (a b c : ℤ) → IsNoLooser end a b → IsNoLooser end b c → IsNoLooser end a c
tight-trans Lower a b c h k = le_trans c b a k h
tight-trans Upper a b c h k = le_trans a b c h k

pub tight-both : (end : End) (a b : ℤ) → IsNoLooser end a b → IsNoLooser end b a → a ≡ b
tight-both Lower a b h k = omega (arith, ints)
tight-both Upper a b h k = omega (arith, ints)

pub tight-min : (end : End) (a b c d : ℤ) → IsNoLooser end a c → IsNoLooser end b d → IsNoLooser end (int_min a b) (int_min c d)
tight-min Lower a b c d h k = min_mono c d a b h k
tight-min Upper a b c d h k = min_mono a b c d h k

pub tight-add : (end : End) (a b c d : ℤ) → IsNoLooser end a c → IsNoLooser end b d → IsNoLooser end (a +ℤ b) (c +ℤ d)
tight-add Lower a b c d h k = add_mono c d a b h k
tight-add Upper a b c d h k = add_mono a b c d h k

pub words-refl : (checkers kinds : ℕ) (u : Words) → AreNoLooserOf checkers kinds u u
words-refl checkers kinds u end p k state = tight-refl end (u end p k)

pub words-trans : (checkers kinds : ℕ) (u v w : Words) → AreNoLooserOf checkers kinds u v → AreNoLooserOf checkers kinds v w → AreNoLooserOf checkers kinds u w
words-trans checkers kinds u v w h k end p j state = tight-trans end _ _ _ (h end p j state) (k end p j state)
