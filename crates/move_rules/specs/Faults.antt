-- What is wrong with a play.
use Rattle.std.specs.Prelude.{◌≡◌, ◌≢◌, ℕ, ◌-◌, ◌<◌, ◌≤◌, ◌⊎◌, List, [], ◌∷◌, length, map, Some, slice_get, slice_index, remove, Contains}
use Rattle.position_rank.specs.Placement.{Placement, above}
use Rattle.roll_table.specs.Rolls.{Dice, dice_of}
use Rattle.move_rules.specs.Moves.{IsMove}
use Rattle.move_rules.specs.Sequences.{IsSequence, CanPlay}
use Rattle.move_rules.specs.declared.play.Move.{Move}
use Rattle.move_rules.specs.declared.applied.BadPlay.{BadPlay}
use Rattle.move_rules.specs.declared.applied.BadPlay.TheVariants.{WrongDice, NoChecker, BarFirst, NotHome, Closed, HitMark, TooFew, HigherDie}

-- the order in which faults are looked for
abbrev pub fault_order : BadPlay → ℕ
fault_order WrongDice = 1
fault_order NoChecker = 2
fault_order BarFirst = 3
fault_order NotHome = 4
fault_order Closed = 5
fault_order HitMark = 6
fault_order TooFew = 7
fault_order HigherDie = 8

-- a move with these dice left has this fault
abbrev pub HasFault : Placement → List ℕ → Move → BadPlay → Type 0
HasFault p dice move WrongDice = Contains dice move.die → ⊥
HasFault p dice move NoChecker =
    (move.from < 1) ⊎ (25 < move.from) ⊎ (slice_index p.mover move.from ≡ 0)
HasFault p dice move BarFirst = (move.from ≢ 25) × (0 < slice_index p.mover 25)
HasFault p dice move NotHome = (move.from ≤ move.die)
    × ((0 < above p.mover 6) ⊎ ((move.from ≢ move.die) × (0 < above p.mover move.from)))
HasFault p dice move Closed =
    (move.die < move.from) × (1 < slice_index p.other (25 - (move.from - move.die)))
HasFault p dice move HitMark = ⊥
HasFault p dice move TooFew = ⊥
HasFault p dice move HigherDie = ⊥

-- it has this fault, and none that is looked for before
pub record IsFirstFault (p : Placement) (dice : List ℕ) (move : Move)
    (fault : BadPlay) : Type 0 where
  pub fault_is : HasFault p dice move fault
  pub none_before : (earlier : BadPlay) → fault_order earlier < fault_order fault
      → HasFault p dice move earlier → ⊥

-- the first wrong move has this fault
abbrev pub IsFirstWrong : Placement → List ℕ → List Move → BadPlay → Type 0
IsFirstWrong p dice [] fault = ⊥
IsFirstWrong p dice (move ∷ moves) fault =
    IsFirstFault p dice move fault
    ⊎ ((i : ℕ) × (slice_get dice i ≡ Some move.die)
    × (next : Placement) × IsMove p move.die move.from next
    × IsFirstWrong next (remove dice i) moves fault)

-- all moves are right, and more of them can be made
pub record IsTooFew (p : Placement) (roll : Dice) (moves : List Move) : Type 0 where
  pub end : Placement
  pub sequence : IsSequence p (dice_of roll) moves end
  pub others : List Move
  pub others_end : Placement
  pub other : IsSequence p (dice_of roll) others others_end
  pub more : length moves < length others

-- one move is all that can be made, and it was made by the lower die, though the higher can be played
pub record IsLowerDie (p : Placement) (roll : Dice) (moves : List Move) : Type 0 where
  pub end : Placement
  pub sequence : IsSequence p (dice_of roll) moves end
  pub longest : (others : List Move) (others_end : Placement)
      → IsSequence p (dice_of roll) others others_end → length others ≤ length moves
  pub unequal : roll.low < roll.high
  pub lower : map (λ (move : Move). move.die) moves ≡ roll.low ∷ []
  pub can : CanPlay p roll.high

-- all moves are right, and this is wrong with all of them together
abbrev pub IsWholeFault : Placement → Dice → List Move → BadPlay → Type 0
IsWholeFault p roll moves TooFew = IsTooFew p roll moves
IsWholeFault p roll moves HigherDie = IsLowerDie p roll moves
IsWholeFault p roll moves WrongDice = ⊥
IsWholeFault p roll moves NoChecker = ⊥
IsWholeFault p roll moves BarFirst = ⊥
IsWholeFault p roll moves NotHome = ⊥
IsWholeFault p roll moves Closed = ⊥
IsWholeFault p roll moves HitMark = ⊥

-- what is wrong with a play of a roll: its first wrong move has this fault, or all of them together
abbrev pub IsFault : Placement → Dice → List Move → BadPlay → Type 0
IsFault p roll moves fault =
    IsFirstWrong p (dice_of roll) moves fault ⊎ IsWholeFault p roll moves fault

-- the die of the first move, or 0 where there is none
abbrev pub first_die : List Move → ℕ
first_die [] = 0
first_die (move ∷ moves) = move.die

-- what is wrong with a sequence, beside a legal one
abbrev pub DiffersBy : List Move → List Move → BadPlay → Type 0
DiffersBy moves legal TooFew = length moves < length legal
DiffersBy moves legal HigherDie =
    (length legal ≤ length moves) × (length moves ≡ 1) × (first_die moves < first_die legal)
DiffersBy moves legal WrongDice = ⊥
DiffersBy moves legal NoChecker = ⊥
DiffersBy moves legal BarFirst = ⊥
DiffersBy moves legal NotHome = ⊥
DiffersBy moves legal Closed = ⊥
DiffersBy moves legal HitMark = ⊥
