-- Sums over rolls of what the plays of a policy are worth.
use Rattle.std.proofs.Common.{◌≡◌, ◌+◌, ◌^◌, ℕ, ℤ, pos, ◌≤ℤ◌, ◌+ℤ◌, ◌*ℤ◌, List, [], ◌∷◌, refl, ap, ◌∙◌, arith}
use Rattle.std.proofs.lemmas.Int.{ints}
use Rattle.position_rank.specs.Placement.{Placement}
use Rattle.roll_table.specs.Rolls.{Dice, IsRoll, all_rolls}
use Rattle.move_rules.specs.Ends.{legal_ends}
use Rattle.move_rules.specs.Listing.{Among}
use Rattle.directed_fixed.specs.declared.bounds.End.{End}
use Rattle.directed_fixed.specs.declared.bounds.End.TheVariants.{Lower, Upper}
use Rattle.directed_fixed.specs.Bounds.{IsNoLooser}
use Rattle.turn_rule.specs.Turn.{sum_over}
use Rattle.turn_rule.specs.Truth.{IsBoundOf}
use Rattle.turn_rule.proofs.Integers.{le_refl, le_trans, mul_mono, add_mono, distribute}
use Rattle.turn_rule.proofs.Greatest.{AreRolls, all_rolls-right, greatest-bound, total}
use Rattle.turn_rule.proofs.Scaled.{times-scaled}
use Rattle.best_reply.specs.Replies.{sum_by}

plus_scaled : (c d : ℕ) (a b x y : ℤ) → (pos c *ℤ a) ≤ℤ (pos d *ℤ x) → (pos c *ℤ b) ≤ℤ (pos d *ℤ y) → (pos c *ℤ (a +ℤ b)) ≤ℤ (pos d *ℤ (x +ℤ y))
plus_scaled c d a b x y h k = rw (distribute c a b, distribute d x y) (add_mono _ _ _ _ h k)

spread : (w n : ℕ) (b : ℤ) → pos (w + n) *ℤ b ≡ pos w *ℤ b +ℤ pos n *ℤ b
spread w n b = omega (arith, ints)

sum_by-scaled : (f g : Placement → ℤ) (play : Dice → Placement) (c d : ℕ) → ((roll : Dice) → IsRoll roll → (pos c *ℤ f (play roll)) ≤ℤ (pos d *ℤ g (play roll))) → (rolls : List (Dice × ℕ)) → AreRolls rolls → (pos c *ℤ sum_by rolls f play) ≤ℤ (pos d *ℤ sum_by rolls g play)
sum_by-scaled f g play c d h [] a = omega (arith, ints)
sum_by-scaled f g play c d h (roll ∷ rolls) a = plus_scaled c d _ _ _ _ (times-scaled roll.1 c d _ _ (h roll.0 a.0)) (sum_by-scaled f g play c d h rolls a.1)

-- what bounds the worth of each play bounds the sum
pub bound-sum_by : (end : End) (f g : Placement → ℤ) (play : Dice → Placement) (over : ℕ) → ((roll : Dice) → IsRoll roll → IsBoundOf end (f (play roll)) (g (play roll)) over) → IsBoundOf end (sum_by all_rolls f play) (sum_by all_rolls g play) over
bound-sum_by Lower f g play over h = sum_by-scaled f g play over (2 ^ 32) h all_rolls all_rolls-right
bound-sum_by Upper f g play over h = sum_by-scaled g f play (2 ^ 32) over h all_rolls all_rolls-right

module _ (f g : Placement → ℤ) (play : Dice → Placement) where
  pub sum_by-mono : ((roll : Dice) → IsRoll roll → f (play roll) ≤ℤ g (play roll)) → (rolls : List (Dice × ℕ)) → AreRolls rolls → sum_by rolls f play ≤ℤ sum_by rolls g play
  sum_by-mono h [] a = le_refl (pos 0)
  sum_by-mono h (roll ∷ rolls) a = add_mono _ _ _ _ (mul_mono roll.1 _ _ (h roll.0 a.0)) (sum_by-mono h rolls a.1)

  pub sum_by-agree : ((roll : Dice) → IsRoll roll → f (play roll) ≡ g (play roll)) → (rolls : List (Dice × ℕ)) → AreRolls rolls → sum_by rolls f play ≡ sum_by rolls g play
  sum_by-agree h [] a = refl
  sum_by-agree h (roll ∷ rolls) a =
      ap (λ (z : ℤ). pos roll.1 *ℤ z +ℤ sum_by rolls f play) (h roll.0 a.0) ∙ ap (λ (z : ℤ). pos roll.1 *ℤ g (play roll.0) +ℤ z) (sum_by-agree h rolls a.1)

  -- legal plays give no more than the best do
  pub sum_by-best : (p : Placement) → ((roll : Dice) → IsRoll roll → f (play roll) ≤ℤ g (play roll)) → ((roll : Dice) → Among (play roll) (legal_ends p roll)) → (rolls : List (Dice × ℕ)) → AreRolls rolls → sum_by rolls f play ≤ℤ sum_over rolls g p
  sum_by-best p h legal [] a = le_refl (pos 0)
  sum_by-best p h legal (roll ∷ rolls) a =
      add_mono _ _ _ _ (mul_mono roll.1 _ _ (le_trans _ _ _ (h roll.0 a.0) (greatest-bound g (play roll.0) (legal_ends p roll.0) (legal roll.0)))) (sum_by-best p h legal rolls a.1)

pub tight-sum_by : (end : End) (f g : Placement → ℤ) (play : Dice → Placement) → ((roll : Dice) → IsRoll roll → IsNoLooser end (f (play roll)) (g (play roll))) → IsNoLooser end (sum_by all_rolls f play) (sum_by all_rolls g play)
tight-sum_by Lower f g play h = sum_by-mono g f play h all_rolls all_rolls-right
tight-sum_by Upper f g play h = sum_by-mono f g play h all_rolls all_rolls-right

module _ (f : Placement → ℤ) (play : Dice → Placement) (b : ℤ) where
  pub sum_by-upto : ((roll : Dice) → IsRoll roll → f (play roll) ≤ℤ b) → (rolls : List (Dice × ℕ)) → AreRolls rolls → sum_by rolls f play ≤ℤ (pos (total rolls) *ℤ b)
  sum_by-upto h [] a = omega (arith, ints)
  sum_by-upto h (roll ∷ rolls) a = rw spread (add_mono _ _ _ _ (mul_mono roll.1 _ _ (h roll.0 a.0)) (sum_by-upto h rolls a.1))

  pub sum_by-from : ((roll : Dice) → IsRoll roll → b ≤ℤ f (play roll)) → (rolls : List (Dice × ℕ)) → AreRolls rolls → (pos (total rolls) *ℤ b) ≤ℤ sum_by rolls f play
  sum_by-from h [] a = omega (arith, ints)
  sum_by-from h (roll ∷ rolls) a = rw spread (add_mono _ _ _ _ (mul_mono roll.1 _ _ (h roll.0 a.0)) (sum_by-from h rolls a.1))
