-- What is sought from the words of a game where a play or a cube action is to be chosen.
use Rattle.std.specs.Prelude.{ℕ, pos, ◌*ℤ◌, ◌^◌, List, [], ◌∷◌, ⊤}
use Rattle.position_rank.specs.Placement.{Placement}
use Rattle.directed_fixed.specs.Bounds.{Bounds, IsWithin, at}
use Rattle.cube_actions.specs.declared.kind.Taken.{Taken}
use Rattle.cube_actions.specs.Stakes.{Terms}
use Rattle.turn_rule.specs.Looks.{Source, Notes, States, Sought, IsPairFor, MayFollowRoll, MayFollowTurn, Meets, MeetsFirst, MeetsOnRoll, MeetsOnTurn, of_roll}
use Rattle.turn_rule.specs.declared.choice.Choice.{Choice}
use Rattle.turn_rule.specs.declared.choice.Choice.TheVariants.{Played, Offered, Answered}
use Rattle.play_analyser.specs.Regrets.{loss_of}

-- the states on which it rests what a choice loses and what was best
abbrev pub MayFollowChoice : Terms → Placement → ℕ → Choice → States
MayFollowChoice stakes p k (Played roll end) = MayFollowRoll stakes p k roll
MayFollowChoice stakes p k (Offered offer) = MayFollowTurn stakes p k
MayFollowChoice stakes p k (Answered answer) = MayFollowTurn stakes p k

-- the damage that is met first where that is sought
abbrev pub MeetsOnChoice : Terms → Placement → ℕ → Choice → Meets
MeetsOnChoice stakes p k (Played roll end) = MeetsOnRoll stakes p k roll
MeetsOnChoice stakes p k (Offered offer) = MeetsOnTurn stakes p k
MeetsOnChoice stakes p k (Answered answer) = MeetsOnTurn stakes p k

-- what a choice loses
abbrev pub of_loss : Terms → Placement → ℕ → Choice → Sought
of_loss stakes p k choice = record {
  states = MayFollowChoice stakes p k choice;
  meets = MeetsOnChoice stakes p k choice;
  limit = λ bound. pos 8 *ℤ bound;
  value = λ end u. at end (loss_of stakes u p k choice);
}

-- what rolling is worth after an answer to a double
abbrev pub of_answer : Terms → Placement → Taken → Sought
of_answer stakes p taken = of_roll stakes p taken.kind taken.factor

-- the damage that is met first where it is sought for each of some, in their order
abbrev pub MeetsSome : {X : Type 0} → (X → Sought) → List X → Meets
MeetsSome sought = MeetsFirst (λ x. (sought x).states) (λ x. (sought x).meets)

-- a pair for each of some, in their order
abbrev pub ArePairsFor : {X : Type 0} → (X → Sought) → List X → Source → Notes → List Bounds
    → Type 0
ArePairsFor sought [] source noted [] = ⊤
ArePairsFor sought [] source noted (pair ∷ pairs) = ⊥
ArePairsFor sought (x ∷ xs) source noted [] = ⊥
ArePairsFor sought (x ∷ xs) source noted (pair ∷ pairs) =
    IsPairFor (sought x) source noted pair × ArePairsFor sought xs source noted pairs

-- so near to zero that the difference of any two is a value too
abbrev pub IsNear : Bounds → Type 0
IsNear pair = IsWithin (pos (2 ^ 55)) pair
