-- Plays as they are written: each step from a place to a lower one, with the mark of a hit.
use Rattle.std.specs.Prelude.{◌≡◌, ℕ, ◌+◌, ◌-◌, ◌<◌, ◌≤◌, ◌⊎◌, ◌↔◌, IsTrue, List, [], ◌∷◌, sum, Some, slice_get, slice_index, remove, All, Contains}
use Rattle.position_rank.specs.Placement.{Placement}
use Rattle.roll_table.specs.Rolls.{Dice, IsRoll, dice_of}
use Rattle.move_rules.specs.Ends.{next_board}
use Rattle.move_rules.specs.Moves.{IsMove}
use Rattle.move_rules.specs.Sequences.{IsLegal}
use Rattle.move_rules.specs.Faults.{IsFirstFault, IsWholeFault}
use Rattle.move_rules.specs.declared.play.Move.{Move}
use Rattle.move_rules.specs.declared.written.Step.{Step}
use Rattle.move_rules.specs.declared.applied.BadPlay.{BadPlay}
use Rattle.move_rules.specs.declared.applied.BadPlay.TheVariants.{WrongDice, HitMark}

-- a move hits a single checker of the other side
abbrev pub IsHit : Placement → Move → Type 0
IsHit p move = (move.die < move.from) × (slice_index p.other (25 - (move.from - move.die)) ≡ 1)

-- ---- how a play is written

-- a step is written for a move: from its place to where its die leads, with the mark of a hit
pub record IsStepOf (p : Placement) (move : Move) (step : Step) : Type 0 where
  pub from : step.from ≡ move.from
  pub to : step.to ≡ move.from - move.die
  pub mark : IsTrue step.hit ↔ IsHit p move

-- these steps are written for moves that are made from a position in turn
abbrev pub AreStepsOf : Placement → List Move → List Step → Type 0
AreStepsOf p [] [] = Unit {0}
AreStepsOf p [] (step ∷ steps) = ⊥
AreStepsOf p (move ∷ moves) [] = ⊥
AreStepsOf p (move ∷ moves) (step ∷ steps) =
    IsStepOf p move step × AreStepsOf (next_board p move) moves steps

-- A written play is right where some legal sequence of the roll is written so. It leaves what that sequence leaves.
pub record Leaves (p : Placement) (roll : Dice) (steps : List Step) (end : Placement) : Type 0 where
  pub roll_is : IsRoll roll
  pub moves : List Move
  pub legal : IsLegal p roll moves end
  pub written : AreStepsOf p moves steps

-- ---- by which dice

-- one of the mover's checkers isn't off
abbrev pub HasOneLeft : Placement → Type 0
HasOneLeft p = slice_index p.mover 0 + 1 ≡ sum p.mover

-- the smallest die that is left and takes a checker off from here
abbrev pub IsSmallest : List ℕ → ℕ → ℕ → Type 0
IsSmallest dice from die =
    Contains dice die × (from ≤ die) × All (λ other. from ≤ other → die ≤ other) dice

-- the greatest die that is left, if it takes a checker off from here
abbrev pub IsGreatest : List ℕ → ℕ → ℕ → Type 0
IsGreatest dice from die = Contains dice die × (from ≤ die) × All (λ other. other ≤ die) dice

-- the die by which a step is made: to a point, that of its length; off, the smallest that is long enough; for the last checker, the greatest
abbrev pub IsDieOf : Placement → List ℕ → Step → ℕ → Type 0
IsDieOf p dice step die =
    ((0 < step.to) × (die ≡ step.from - step.to))
    ⊎ ((step.to ≡ 0) × HasOneLeft p × IsGreatest dice step.from die)
    ⊎ ((step.to ≡ 0) × (HasOneLeft p → ⊥) × IsSmallest dice step.from die)

-- a step is written for this move, whose die is one of those that are left, and makes next of p
pub record IsStep (p : Placement) (dice : List ℕ) (step : Step) (move : Move) (i : ℕ)
    (next : Placement) : Type 0 where
  pub from : move.from ≡ step.from
  pub die : IsDieOf p dice step move.die
  pub left : slice_get dice i ≡ Some move.die
  pub made : IsMove p move.die move.from next
  pub mark : IsTrue step.hit ↔ IsHit p move

-- these steps are written for these moves, which lead from p to q
abbrev pub IsWritten : Placement → List ℕ → List Step → List Move → Placement → Type 0
IsWritten p dice [] [] q = q ≡ p
IsWritten p dice [] (move ∷ moves) q = ⊥
IsWritten p dice (step ∷ steps) [] q = ⊥
IsWritten p dice (step ∷ steps) (move ∷ moves) q = (i : ℕ) × (next : Placement)
    × IsStep p dice step move i next × IsWritten next (remove dice i) steps moves q

-- ---- what is wrong with a written play

-- the move of a step by a die
abbrev pub move_by : Step → ℕ → Move
move_by step die = record { from = step.from; die = die }

-- the step's move by one of the dice that are left can be made, but isn't marked so
pub record IsMarkedWrong (p : Placement) (dice : List ℕ) (step : Step) (die : ℕ) : Type 0 where
  pub left : Contains dice die
  pub next : Placement
  pub made : IsMove p die step.from next
  pub mark : (IsTrue step.hit ↔ IsHit p (move_by step die)) → ⊥

-- what is wrong with a step: no die makes it, or its move by that die has this fault, or only its mark is wrong
abbrev pub IsWrongStep : Placement → List ℕ → Step → BadPlay → Type 0
IsWrongStep p dice step fault =
    ((fault ≡ WrongDice) × ((die : ℕ) → IsDieOf p dice step die → ⊥))
    ⊎ ((die : ℕ) × IsDieOf p dice step die × IsFirstFault p dice (move_by step die) fault)
    ⊎ ((fault ≡ HitMark) × (die : ℕ) × IsDieOf p dice step die × IsMarkedWrong p dice step die)

-- the first wrong step has this fault
abbrev pub IsWrongWritten : Placement → List ℕ → List Step → BadPlay → Type 0
IsWrongWritten p dice [] fault = ⊥
IsWrongWritten p dice (step ∷ steps) fault =
    IsWrongStep p dice step fault
    ⊎ ((move : Move) × (i : ℕ) × (next : Placement) × IsStep p dice step move i next
    × IsWrongWritten next (remove dice i) steps fault)

-- what is wrong with a written play of a roll: its first wrong step has this fault, or all of its moves together
abbrev pub IsWrittenFault : Placement → Dice → List Step → BadPlay → Type 0
IsWrittenFault p roll steps fault =
    IsWrongWritten p (dice_of roll) steps fault
    ⊎ ((moves : List Move) × (end : Placement) × IsWritten p (dice_of roll) steps moves end
    × IsWholeFault p roll moves fault)
