-- What words may satisfy on some states alone, such as those that may follow a turn.
use Rattle.std.specs.Prelude.{◌≡◌, ℕ, ℤ}
use Rattle.position_rank.specs.Placement.{Placement}
use Rattle.directed_fixed.specs.declared.bounds.End.{End}
use Rattle.directed_fixed.specs.Bounds.{IsNoLooser, IsWithin}
use Rattle.turn_rule.specs.Turn.{Words}
use Rattle.turn_rule.specs.States.{pair_of}
use Rattle.turn_rule.specs.Exact.{Values}
use Rattle.turn_rule.specs.Truth.{IsBoundOf}
use Rattle.turn_rule.specs.Looks.{States}

-- on these states, the words of this end are the same
abbrev pub AgreeOn : States → End → Words → Words → Type 0
AgreeOn states end u v = (p : Placement) (k : ℕ) → states p k → u end p k ≡ v end p k

-- on these states, the first words of this end are at least as tight as the second
abbrev pub AreNoLooserOn : States → End → Words → Words → Type 0
AreNoLooserOn states end u v =
    (p : Placement) (k : ℕ) → states p k → IsNoLooser end (u end p k) (v end p k)

-- on these states, the words of this end bound these values, each a number over so many
abbrev pub AreBoundsOn : States → End → Words → Values → ℕ → Type 0
AreBoundsOn states end u values over =
    (p : Placement) (k : ℕ) → states p k → IsBoundOf end (u end p k) (values p k) over

-- on these states, lower at most upper, and both within a bound
abbrev pub AreWithinOn : States → ℤ → Words → Type 0
AreWithinOn states bound u = (p : Placement) (k : ℕ) → states p k → IsWithin bound (pair_of u p k)
