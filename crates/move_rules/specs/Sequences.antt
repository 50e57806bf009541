-- Sequences of moves, and which of them are legal.
use Rattle.std.specs.Prelude.{◌≡◌, ◌≢◌, ℕ, ◌≤◌, List, [], ◌∷◌, length, map, Some, slice_get, remove}
use Rattle.move_rules.specs.declared.play.Move.{Move}
use Rattle.position_rank.specs.Placement.{Placement}
use Rattle.roll_table.specs.Rolls.{Dice, dice_of}
use Rattle.move_rules.specs.Moves.{IsMove}

-- these moves lead from p to q, each by one of the dice that are left
abbrev pub IsSequence : Placement → List ℕ → List Move → Placement → Type 0
IsSequence p dice [] q = q ≡ p
IsSequence p dice (move ∷ moves) q =
    (i : ℕ) × (slice_get dice i ≡ Some move.die)
    × (next : Placement) × IsMove p move.die move.from next
    × IsSequence next (remove dice i) moves q

-- some move by this die can be made
abbrev pub CanPlay : Placement → ℕ → Type 0
CanPlay p die = (from : ℕ) × (q : Placement) × IsMove p die from q

-- As many dice as possible are used. If only one can be, the higher is, where it can be.
pub record IsLegal (p : Placement) (roll : Dice) (moves : List Move) (q : Placement) : Type 0 where
  pub sequence : IsSequence p (dice_of roll) moves q
  pub longest : (others : List Move) (end : Placement) → IsSequence p (dice_of roll) others end
      → length others ≤ length moves
  pub higher : length moves ≡ 1 → roll.high ≢ roll.low → CanPlay p roll.high
      → map (λ (move : Move). move.die) moves ≡ roll.high ∷ []

-- what a legal sequence leaves
abbrev pub IsLegalEnd : Placement → Dice → Placement → Type 0
IsLegalEnd p roll q = (moves : List Move) × IsLegal p roll moves q
