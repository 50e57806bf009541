-- A score has its place in the ladder of its match, and stakes have their name.
use Rattle.std.proofs.Common.{◌≡◌, ◌<◌, ℕ, Bool, true, not, List, length, get_or, inl, inr, refl, arith}
use Rattle.std.proofs.lemmas.Bool.{cases_lt}
use Rattle.std.proofs.lemmas.Bool.Decides.{nat_tests}
use Rattle.std.proofs.lemmas.List.Sums.{prefix_len_passes}
use Rattle.std.specs.List.{position_or_len, Contains}
use Rattle.cube_actions.specs.declared.name.StakesName.{StakesName}
use Rattle.cube_actions.specs.declared.name.StakesName.TheVariants.{Unlimited, Match}
use Rattle.cube_actions.specs.declared.phase.Phase.{Phase}
use Rattle.cube_actions.specs.declared.phase.Phase.TheVariants.{Normal, Crawford, Post}
use Rattle.cube_actions.specs.Ladder.{ladder}
use Rattle.cube_actions.specs.Matches.{stakes_named}
use Rattle.cube_actions.specs.Scores.{MatchScore, same_phase, same_score}
use Rattle.cube_actions.specs.Starts.{StartPairs, ladder_place}

found-below : {X : Type 0} (test : X → X → Bool) → ((x : X) → test x x ≡ true) → (x : X) (xs : List X) → Contains xs x → position_or_len (test x) xs < length xs
found-below test same x xs (k, low, e) = elim (cases_lt (position_or_len (test x) xs) (length xs)) [
  | inl here ↦ here
  | inr none ↦ (let missed : not (test x (get_or xs k x)) ≡ true = prefix_len_passes (λ other. not (test x other)) xs k x (omega arith) in
      let passes : test x (get_or xs k x) ≡ true = rw e (same x) in
      absurd (grind arith))
]

same_phase-refl : (a : Phase) → same_phase a a ≡ true
same_phase-refl Normal = refl
same_phase-refl Crawford = refl
same_phase-refl Post = refl

same_score-refl : (a : MatchScore) → same_score a a ≡ true
same_score-refl a = rw (same_phase-refl a.phase) (grind (arith, nat_tests))

-- a score of the ladder has its place there
pub listed : (points : ℕ) (score : MatchScore) → Contains (ladder points) score → ladder_place points score < length (ladder points)
listed n score h = found-below same_score same_score-refl score (ladder n) h

-- the stakes of a name have it
pub terms-named : (name : StakesName) (starts : StartPairs) → (stakes_named name starts).name ≡ name
terms-named (Unlimited rule) starts = refl
terms-named (Match score) starts = refl
