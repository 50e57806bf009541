-- A kind has one number among those of its stakes, and a score one place in its ladder.
use Rattle.std.proofs.Common.{◌≡◌, ◌≢◌, ◌<◌, ℕ, Bool, true, false, not, Option, Some, None, List, length, get_or, inl, inr, refl, ap, sym, ◌∙◌, arith}
use Rattle.std.proofs.lemmas.Bool.{cases_lt}
use Rattle.std.proofs.lemmas.Bool.Decides.{nat_tests}
use Rattle.std.proofs.lemmas.List.Sums.{position_or_len_is, prefix_len_passes}
use Rattle.std.proofs.lemmas.Option.{get_or_from_slice_get, slice_get_within}
use Rattle.std.specs.List.{position_or_len, slice_get, AllPairs, Contains}
use Rattle.cube_actions.specs.declared.name.KindName.{KindName}
use Rattle.cube_actions.specs.declared.name.KindName.TheVariants.{Alone, Centred, Mine, Theirs, InMatch}
use Rattle.cube_actions.specs.declared.phase.Phase.{Phase}
use Rattle.cube_actions.specs.declared.phase.Phase.TheVariants.{Normal, Crawford, Post}
use Rattle.cube_actions.specs.declared.side.Side.{Side}
use Rattle.cube_actions.specs.declared.side.Side.TheVariants.{Near, Far}
use Rattle.cube_actions.specs.Ladder.{ladder}
use Rattle.cube_actions.specs.MatchKinds.{same_side, same_owner}
use Rattle.cube_actions.specs.Names.{same_name}
use Rattle.cube_actions.specs.Scores.{MatchScore, same_phase, same_score}
use Rattle.cube_actions.specs.Starts.{ladder_place}

-- ---- a test on what is sought

-- it fails where the two aren't alike
fails : (b : Bool) → (b ≡ true → ⊥) → b ≡ false
fails true h = absurd (h refl)
fails false h = refl

-- a list that has something that passes has a first such place
pub found-below : {X : Type 0} (test : X → X → Bool) → ((x : X) → test x x ≡ true) → (x : X) (xs : List X) → Contains xs x → position_or_len (test x) xs < length xs
found-below test same x xs (k, low, e) = elim (cases_lt (position_or_len (test x) xs) (length xs)) [
  | inl here ↦ here
  | inr none ↦ (let missed : not (test x (get_or xs k x)) ≡ true = prefix_len_passes (λ other. not (test x other)) xs k x (omega arith) in
      let passes : test x (get_or xs k x) ≡ true = rw e (same x) in
      absurd (grind arith))
]

-- ---- names

same_side-true : (a b : Side) → same_side a b ≡ true → a ≡ b
same_side-true Near Near h = refl
same_side-true Far Far h = refl
same_side-true _ _ h = cc

same_side-refl : (a : Side) → same_side a a ≡ true
same_side-refl Near = refl
same_side-refl Far = refl

same_owner-true : (a b : Option Side) → same_owner a b ≡ true → a ≡ b
same_owner-true None None h = refl
same_owner-true (Some a) (Some b) h = ap Some (same_side-true a b h)
same_owner-true None (Some b) h = cc
same_owner-true (Some a) None h = cc

same_owner-refl : (a : Option Side) → same_owner a a ≡ true
same_owner-refl None = refl
same_owner-refl (Some a) = same_side-refl a

pub same_name-true : (a b : KindName) → same_name a b ≡ true → a ≡ b
same_name-true Alone Alone h = refl
same_name-true Centred Centred h = refl
same_name-true Mine Mine h = refl
same_name-true Theirs Theirs h = refl
same_name-true (InMatch a b c) (InMatch d e f) h =
    let mover : same_side a d ≡ true = grind (arith, nat_tests) in
    let cube : b ≡ e = grind (arith, nat_tests) in
    let owner : same_owner c f ≡ true = grind (arith, nat_tests) in
    let movers = same_side-true a d mover in
    let owners = same_owner-true c f owner in
    λ i. InMatch (movers i) (cube i) (owners i)
same_name-true _ _ h = cc

pub same_name-refl : (a : KindName) → same_name a a ≡ true
same_name-refl Alone = refl
same_name-refl Centred = refl
same_name-refl Mine = refl
same_name-refl Theirs = refl
same_name-refl (InMatch a b c) = rw (same_side-refl a, same_owner-refl c) (grind (arith, nat_tests))

-- where names are different, the place of a name is its number
pub number-is : (name : KindName) (names : List KindName) (n : ℕ) → AllPairs (λ a b. a ≢ b) names → slice_get names n ≡ Some name → n ≡ position_or_len (same_name name) names
number-is name names n apart there =
    let within = slice_get_within names n name there in
    let here : get_or names n name ≡ name = get_or_from_slice_get names n name name there in
    sym (position_or_len_is (same_name name) names n name (omega arith)
    (λ k low. fails (same_name name (get_or names k name)) (λ alike. apart k n name low within (sym (same_name-true name (get_or names k name) alike) ∙ sym here)))
    (λ _. rw here (same_name-refl name)))

-- ---- scores

same_phase-refl : (a : Phase) → same_phase a a ≡ true
same_phase-refl Normal = refl
same_phase-refl Crawford = refl
same_phase-refl Post = refl

same_score-refl : (a : MatchScore) → same_score a a ≡ true
same_score-refl a = rw (same_phase-refl a.phase) (grind (arith, nat_tests))

-- a score of the ladder has its place there
pub listed : (length_of_match : ℕ) (score : MatchScore) → Contains (ladder length_of_match) score → ladder_place length_of_match score < length (ladder length_of_match)
listed n score h = found-below same_score same_score-refl score (ladder n) h
