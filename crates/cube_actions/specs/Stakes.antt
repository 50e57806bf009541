-- What a game is played for.
use Rattle.std.specs.Prelude.{◌≡◌, ◌<◌, ◌^◌, ◌*◌, ℕ, ℤ, pos, ◌⊎◌, List, None, All, IfSome, length, replicate, slice_index_or}
use Rattle.directed_fixed.specs.Bounds.{Bounds, IsWithin}
use Rattle.cube_actions.specs.declared.kind.Kind.{Kind}
use Rattle.cube_actions.specs.declared.kind.Double.{Double}
use Rattle.cube_actions.specs.declared.kind.Taken.{Taken}
use Rattle.cube_actions.specs.declared.name.StakesName.{StakesName}
use Rattle.cube_actions.specs.declared.name.StakesName.TheVariants.{Unlimited, Match}

-- the kinds of state, the bound of all values, and the name
pub record Terms : Type 0 where
  pub kinds : List Kind
  pub bound : ℤ
  pub name : StakesName

-- so many whole points
abbrev pub point_units : ℕ → ℤ
point_units n = pos (n * 2 ^ 32)

-- both bounds are so many whole points
abbrev pub exactly : ℕ → Bounds
exactly n = record { lower = point_units n; upper = point_units n }

abbrev pub nothing : Bounds
nothing = exactly 0

-- what stands where a number names no kind
abbrev pub no_kind : Kind
no_kind = record { next = 0; win = replicate 3 nothing; double = None }

abbrev pub kind_at : Terms → ℕ → Kind
kind_at stakes k = slice_index_or stakes.kinds k no_kind

-- three points for money, a whole match for a match
abbrev pub bound_of : StakesName → ℤ
bound_of (Unlimited rule) = point_units 3
bound_of (Match score) = point_units 1

-- an answer to a double names a kind, in which the doubler rolls on, and how often its value counts
pub record IsRightAnswer (stakes : Terms) (taken : Taken) : Type 0 where
  pub kind : taken.kind < length stakes.kinds
  pub factor : (taken.factor ≡ 1) ⊎ (taken.factor ≡ 2) ⊎ (taken.factor ≡ 4)

-- a double may be passed, and there is an answer to it
pub record IsRightDouble (stakes : Terms) (double : Double) : Type 0 where
  pub pass : IsWithin stakes.bound double.pass
  pub some : 0 < length double.answers.items
  pub answers : All (IsRightAnswer stakes) double.answers.items

pub record IsRightKind (stakes : Terms) (kind : Kind) : Type 0 where
  pub next : kind.next < length stakes.kinds
  pub wins : All (IsWithin stakes.bound) kind.win
  pub double : IfSome kind.double (IsRightDouble stakes)

-- stakes have a kind, each of their kinds is right, and the bound is that of the name
pub record IsValid (stakes : Terms) : Type 0 where
  pub some : 0 < length stakes.kinds
  pub kinds : All (IsRightKind stakes) stakes.kinds
  pub bound : stakes.bound ≡ bound_of stakes.name
