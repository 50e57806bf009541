-- Names are told apart by `same_name`, and a list is searched by it.
use Rattle.std.proofs.Common.{◌≡◌, ◌≤◌, ℕ, true, false, not, cond, ltb, Option, Some, None, IsSome, ◌↔◌, List, length, get_or, inl, inr, refl, ap, sym, ◌∙◌, arith}
use Rattle.std.proofs.lemmas.Bool.{cases_lt}
use Rattle.std.proofs.lemmas.Bool.Decides.{nat_tests}
use Rattle.std.proofs.lemmas.List.Sums.{prefix_len_passes}
use Rattle.std.specs.List.{position_or_len, Contains}
use Rattle.std.specs.Option.{is_some}
use Rattle.cube_actions.specs.declared.side.Side.{Side}
use Rattle.cube_actions.specs.declared.side.Side.TheVariants.{Near, Far}
use Rattle.cube_actions.specs.declared.name.KindName.{KindName}
use Rattle.cube_actions.specs.declared.name.KindName.TheVariants.{Alone, Centred, Mine, Theirs, InMatch}
use Rattle.cube_actions.specs.MatchKinds.{same_side, same_owner}
use Rattle.cube_actions.specs.Names.{same_name}
use Rattle.cube_actions.proofs.FirstPassing.{found_at}

same_side-true : (a b : Side) → same_side a b ≡ true → a ≡ b
same_side-true Near Near h = refl
same_side-true Far Far h = refl
same_side-true _ _ h = cc

same_side-refl : (a : Side) → same_side a a ≡ true
same_side-refl Near = refl
same_side-refl Far = refl

same_owner-true : (a b : Option Side) → same_owner a b ≡ true → a ≡ b
same_owner-true None None h = refl
same_owner-true (Some a) (Some b) h = ap Some (same_side-true a b h)
same_owner-true None (Some b) h = cc
same_owner-true (Some a) None h = cc

same_owner-refl : (a : Option Side) → same_owner a a ≡ true
same_owner-refl None = refl
same_owner-refl (Some a) = same_side-refl a

pub same_name-true : (a b : KindName) → same_name a b ≡ true → a ≡ b
same_name-true Alone Alone h = refl
same_name-true Centred Centred h = refl
same_name-true Mine Mine h = refl
same_name-true Theirs Theirs h = refl
same_name-true (InMatch a b c) (InMatch d e f) h =
    let mover : same_side a d ≡ true = grind (arith, nat_tests) in
    let cube : b ≡ e = grind (arith, nat_tests) in
    let owner : same_owner c f ≡ true = grind (arith, nat_tests) in
    let movers = same_side-true a d mover in
    let owners = same_owner-true c f owner in
    λ i. InMatch (movers i) (cube i) (owners i)
same_name-true _ _ h = cc

pub same_name-refl : (a : KindName) → same_name a a ≡ true
same_name-refl Alone = refl
same_name-refl Centred = refl
same_name-refl Mine = refl
same_name-refl Theirs = refl
same_name-refl (InMatch a b c) = rw (same_side-refl a, same_owner-refl c) (grind (arith, nat_tests))

missed : (name : KindName) (names : List KindName) → length names ≤ position_or_len (same_name name) names → Contains names name → ⊥
missed name names none (k, low, e) =
    let fails : not (same_name name (get_or names k name)) ≡ true = prefix_len_passes (λ other. not (same_name name other)) names k name (omega arith) in
    let same : same_name name (get_or names k name) ≡ true = rw e (same_name-refl name) in
    grind arith

pub some_exactly : (name : KindName) (names : List KindName) (o : Option ℕ) → o ≡ cond (ltb (position_or_len (same_name name) names) (length names)) (Some (position_or_len (same_name name) names)) None → (IsSome o ↔ Contains names name)
some_exactly name names o e =
    elim (cases_lt (position_or_len (same_name name) names) (length names)) [
      | inl here ↦ (
          let test : ltb (position_or_len (same_name name) names) (length names) ≡ true = grind (arith, nat_tests) in
          let is : o ≡ Some (position_or_len (same_name name) names) = e ∙ rw test (λ i. Some (position_or_len (same_name name) names)) in
          (λ _. (position_or_len (same_name name) names, here, sym (same_name-true _ _ (found_at (same_name name) names name here))), λ _. ap is_some is))
      | inr none ↦ (
          let test : ltb (position_or_len (same_name name) names) (length names) ≡ false = grind (arith, nat_tests) in
          let is : o ≡ None = e ∙ rw test (λ i. None) in
          (λ h. (let clash : true ≡ false = sym h ∙ ap is_some is in cc), λ held. absurd (missed name names none held)))
    ]
