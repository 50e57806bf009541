-- What a move leaves, case by case.
use Rattle.std.proofs.Common.{◌≡◌, ◌≢◌, ◌<◌, ◌≤◌, ◌-◌, ℕ, Bool, true, false, not, eqb, ltb, None, refl, arith}
use Rattle.std.proofs.lemmas.Bool.Decides.{nat_tests}
use Rattle.std.specs.Prelude.{slice_index}
use Rattle.position_rank.specs.Placement.{Placement, above}
use Rattle.move_rules.specs.Ends.{after_move, can_run, can_bear_off}

module _ (p : Placement) (die from : ℕ) where
  none : can_run p die from ≡ false → can_bear_off p die from ≡ false → after_move p die from ≡ None
  unfolding after_move
  none runs off = rw (runs, off) refl

  pub none-held : slice_index p.mover from ≡ 0 → after_move p die from ≡ None
  none-held h = none (grind (arith, nat_tests)) (grind (arith, nat_tests))

  pub none-bar : from ≢ 25 → 0 < slice_index p.mover 25 → after_move p die from ≡ None
  none-bar h k = none (grind (arith, nat_tests)) (grind (arith, nat_tests))

  pub none-closed : die < from → 1 < slice_index p.other (25 - (from - die)) → after_move p die from ≡ None
  none-closed h k = none (grind (arith, nat_tests)) (grind (arith, nat_tests))

  pub none-far : from ≤ die → 0 < above p.mover 6 → after_move p die from ≡ None
  none-far h k = none (grind (arith, nat_tests)) (grind (arith, nat_tests))

  pub none-higher : from ≤ die → from ≢ die → 0 < above p.mover from → after_move p die from ≡ None
  none-higher h e k = none (grind (arith, nat_tests)) (grind (arith, nat_tests))

-- what a test of two parts says

pub is-some : (b : Bool) (n : ℕ) → b ≡ ltb 0 n → b ≡ true → 0 < n
is-some b n e h = grind (arith, nat_tests)

pub is-none : (b : Bool) (n : ℕ) → b ≡ ltb 0 n → b ≡ false → n ≡ 0
is-none b n e h = grind (arith, nat_tests)

pub is-apart : (b : Bool) (m n : ℕ) → b ≡ not (eqb m n) → b ≡ true → m ≢ n
is-apart b m n e h = grind (arith, nat_tests)
