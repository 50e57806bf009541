-- One end of a value that is worked out from looked up words.
use Rattle.std.specs.Prelude.{◌≡◌, ◌<◌, ℕ, ℤ, pos, ◌*ℤ◌, IsTrue, Some, None, Result, List, length, slice_index_or}
use Rattle.position_rank.specs.Placement.{Placement, swap}
use Rattle.roll_table.specs.Rolls.{Dice, all_rolls}
use Rattle.move_rules.specs.Listing.{Among}
use Rattle.move_rules.specs.Ends.{legal_ends}
use Rattle.move_rules.specs.Payoff.{points}
use Rattle.directed_fixed.specs.declared.bounds.End.{End}
use Rattle.directed_fixed.specs.Bounds.{IsNoLooser, IsWithinUnits}
use Rattle.hyper_outside.specs.declared.outside.LookStop.{LookStop}
use Rattle.cube_actions.specs.declared.kind.Double.{Double}
use Rattle.cube_actions.specs.declared.kind.Kind.{Kind}
use Rattle.cube_actions.specs.declared.kind.Taken.{Taken}
use Rattle.cube_actions.specs.Stakes.{Terms, kind_at}
use Rattle.turn_rule.specs.Turn.{Words, worth, greatest, sum_over, doubled}
use Rattle.turn_rule.specs.States.{IsStateOf, AreNoLooserOf}
use Rattle.turn_rule.specs.Looks.{Source, Notes, Seen, States, Sought, LooksUp, HasDamage, AreUndamaged, MeetsOnEnds, MeetsRolling, MeetsOnAnswers, IsLeft, MayFollow}

-- One end of a value within a bound. Where the answers are told, it is at least as tight as the value over the source's floor, and no tighter
-- than the value over any words that are at least as tight as the notes. None of the states is damaged.
pub record IsFound (end : End) (source : Source) (noted : Notes) (states : States) (bound : ℤ)
    (value : Words → ℤ) (found : ℤ) : Type 0 where
  pub within : IsWithinUnits bound found
  pub floor : IsTrue noted.told → IsNoLooser end found (value source.floor)
  pub notes : IsTrue noted.told → (later : Words)
      → AreNoLooserOf source.checkers source.kinds later noted.words
      → IsNoLooser end (value later) found
  pub right : IsTrue noted.told → AreUndamaged source states

-- one end of what is sought
abbrev pub IsFoundOf : End → Sought → Source → Notes → ℤ → Type 0
IsFoundOf end sought source noted =
    IsFound end source noted sought.states (sought.limit source.bound) (sought.value end)

-- a look-up of one end of what is sought
abbrev pub Finds : End → Sought → Seen → Seen → Result ℤ LookStop → Type 0
Finds end sought old new result =
    LooksUp old new (sought.meets old.source) (IsFoundOf end sought old.source new.notes) result

-- the other side's state after a play that doesn't end the game is one of the source
abbrev pub LeavesState : Source → ℕ → Placement → Type 0
LeavesState source next end =
    points end ≡ None → IsStateOf source.checkers source.kinds (swap end) next

-- this state
abbrev pub IsSame : Placement → ℕ → States
IsSame p k q j = (q ≡ p) × (j ≡ k)

-- a state that one of these plays leaves
abbrev pub MayFollowEnds : ℕ → List Placement → States
MayFollowEnds next ends p k = (end : Placement) × Among end ends × IsLeft next end p k

-- a state that some roll's play may leave, among these rolls
abbrev pub MayFollowAmong : ℕ → Placement → List (Dice × ℕ) → States
MayFollowAmong next p rolls q j = (roll : Dice × ℕ) × Among roll rolls × (end : Placement)
    × Among end (legal_ends p roll.0) × IsLeft next end q j

-- a state that some roll's play may leave after one of these answers
abbrev pub MayFollowAnswer : Terms → Placement → List Taken → States
MayFollowAnswer stakes p answers q j =
    (taken : Taken) × Among taken answers × MayFollow stakes p taken.kind q j

-- the word of a state
abbrev pub of_word : Placement → ℕ → Sought
of_word p k = record {
  states = IsSame p k;
  meets = λ source damage. source.damage p k ≡ Some damage;
  limit = λ bound. bound;
  value = λ end u. u end p k;
}

-- what the mover has after a play that ends so
abbrev pub of_play : Kind → Placement → Sought
of_play kind q = record {
  states = IsLeft kind.next q;
  meets = λ source damage. HasDamage source (IsLeft kind.next q) damage;
  limit = λ bound. bound;
  value = λ end u. worth end kind u q;
}

-- what the best of some plays is worth
abbrev pub of_plays : Kind → List Placement → Sought
of_plays kind ends = record {
  states = MayFollowEnds kind.next ends;
  meets = MeetsOnEnds kind.next ends;
  limit = λ bound. bound;
  value = λ end u. greatest (worth end kind u) ends;
}

-- the sum over the 36 ways of two dice of what the best play is worth
abbrev pub of_sum : Terms → Placement → ℕ → Sought
of_sum stakes p k = record {
  states = MayFollow stakes p k;
  meets = MeetsRolling stakes p k;
  limit = λ bound. pos 36 *ℤ bound;
  value = λ end u. sum_over all_rolls (worth end (kind_at stakes k) u) p;
}

-- what a double is worth
abbrev pub of_double : Terms → Placement → Double → Sought
of_double stakes p double = record {
  states = MayFollowAnswer stakes p double.answers.items;
  meets = MeetsOnAnswers stakes p double.answers.items;
  limit = λ bound. pos 4 *ℤ bound;
  value = λ end u. doubled end stakes u p double;
}

-- for each kind, the sum over the 36 ways of two dice of what the best play is worth
abbrev pub AreFoundSums : End → Source → Notes → Terms → Placement → List ℤ → Type 0
AreFoundSums end source noted stakes p sums =
    (k : ℕ) → k < length stakes.kinds
    → IsFoundOf end (of_sum stakes p k) source noted (slice_index_or sums k (pos 0))
