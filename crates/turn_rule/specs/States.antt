-- The states of a game, and what words on them may satisfy.
use Rattle.std.specs.Prelude.{◌≡◌, ◌<◌, ℕ, ℤ, sum}
use Rattle.position_rank.specs.Placement.{Placement, IsPosition, IsLive}
use Rattle.directed_fixed.specs.declared.bounds.End.{End}
use Rattle.directed_fixed.specs.declared.bounds.End.TheVariants.{Lower, Upper}
use Rattle.directed_fixed.specs.Bounds.{Bounds, IsNoLooser, IsWithin}
use Rattle.turn_rule.specs.declared.game.Game.{Game}
use Rattle.turn_rule.specs.Turn.{Words}
use Rattle.turn_rule.specs.Games.{kinds_of}

-- a live position with so many checkers a side, and one of so many kinds
pub record IsStateOf (checkers kinds : ℕ) (p : Placement) (k : ℕ) : Type 0 where
  pub position : IsPosition p
  pub many : sum p.mover ≡ checkers
  pub live : IsLive p
  pub kind : k < kinds

-- a live position with the game's checkers, and one of its kinds
abbrev pub IsState : Game → Placement → ℕ → Type 0
IsState game = IsStateOf game.checkers (kinds_of game)

-- both words of a state
abbrev pub pair_of : Words → Placement → ℕ → Bounds
pair_of u p k = record { lower = u Lower p k; upper = u Upper p k }

-- in each state of so many checkers and kinds, lower at most upper, and both within the bound
abbrev pub AreWithinOf : ℕ → ℕ → ℤ → Words → Type 0
AreWithinOf checkers kinds bound u =
    (p : Placement) (k : ℕ) → IsStateOf checkers kinds p k → IsWithin bound (pair_of u p k)

-- in each state, lower at most upper, and both within the bound of the stakes
abbrev pub AreWithin : Game → Words → Type 0
AreWithin game = AreWithinOf game.checkers (kinds_of game) game.stakes.bound

-- in each state of so many checkers and kinds, the first words are at least as tight as the second
abbrev pub AreNoLooserOf : ℕ → ℕ → Words → Words → Type 0
AreNoLooserOf checkers kinds u v =
    (end : End) (p : Placement) (k : ℕ) → IsStateOf checkers kinds p k
    → IsNoLooser end (u end p k) (v end p k)

-- in each state, the first words are at least as tight as the second
abbrev pub AreNoLooser : Game → Words → Words → Type 0
AreNoLooser game = AreNoLooserOf game.checkers (kinds_of game)

-- in each state, the words are the same
abbrev pub Agree : Game → Words → Words → Type 0
Agree game u v = (end : End) (p : Placement) (k : ℕ) → IsState game p k → u end p k ≡ v end p k
