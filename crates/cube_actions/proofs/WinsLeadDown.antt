-- A win leads to a score that stands before this one.
use Rattle.std.proofs.Common.{◌≡◌, ◌≤◌, ◌<◌, ℕ, Bool, true, nat_le, nat_lt, ◌||◌, List, [], ◌∷◌, length, get_or, refl, sym, subst, arith}
use Rattle.std.proofs.lemmas.Bool.Decides.{nat_tests}
use Rattle.std.specs.List.{list_all}
use Rattle.cube_actions.specs.declared.phase.Phase.{Phase}
use Rattle.cube_actions.specs.declared.phase.Phase.TheVariants.{Normal, Crawford, Post}
use Rattle.cube_actions.specs.declared.side.Side.{Side}
use Rattle.cube_actions.specs.declared.side.Side.TheVariants.{Near, Far}
use Rattle.cube_actions.specs.Scores.{MatchScore, IsScore, last_game, needs, same_score, same_phase}
use Rattle.cube_actions.specs.Ladder.{in_order, is_of_match, ladder}
use Rattle.cube_actions.specs.Starts.{ladder_place}
use Rattle.cube_actions.specs.Matches.{after_win}
use Rattle.cube_actions.proofs.LadderOfFive.{one_to_five}
use Rattle.cube_actions.proofs.FirstPassing.{passed_at, found_at}

comes_before : ℕ → MatchScore → Side → ℕ → Bool
comes_before n score winner won = nat_le (needs score winner) won || nat_lt (ladder_place n (after_win score winner won)) (ladder_place n score)

abbrev all_before : ℕ → List MatchScore → Bool
all_before n scores =
    list_all (λ score. list_all (λ winner. list_all (comes_before n score winner) (1 ∷ 2 ∷ 3 ∷ 4 ∷ [])) (Near ∷ Far ∷ [])) scores

tried : (n : ℕ) → 1 ≤ n → n ≤ 5 → all_before n (ladder n) ≡ true
unfolding comes_before ladder in_order
tried = one_to_five (λ n. all_before n (ladder n) ≡ true) refl refl refl refl refl

pub same_phase-true : (a b : Phase) → same_phase a b ≡ true → a ≡ b
same_phase-true Normal Normal h = refl
same_phase-true Crawford Crawford h = refl
same_phase-true Post Post h = refl
same_phase-true _ _ h = cc

pub same_score-true : (a b : MatchScore) → same_score a b ≡ true → a ≡ b
same_score-true a b h =
    let near : a.near ≡ b.near = grind (arith, nat_tests) in
    let far : a.far ≡ b.far = grind (arith, nat_tests) in
    let phase : same_phase a.phase b.phase ≡ true = grind (arith, nat_tests) in
    let phases = same_phase-true a.phase b.phase phase in
    λ i. record { near = near i; far = far i; phase = phases i }

among_four : (p : ℕ → Bool) → list_all p (1 ∷ 2 ∷ 3 ∷ 4 ∷ []) ≡ true → (n : ℕ) → 1 ≤ n → n ≤ 4 → p n ≡ true
among_four p all n from to =
    one_to_five (λ n. n ≤ 4 → p n ≡ true)
    (λ _. passed_at p (1 ∷ 2 ∷ 3 ∷ 4 ∷ []) 0 1 all (omega arith))
    (λ _. passed_at p (1 ∷ 2 ∷ 3 ∷ 4 ∷ []) 1 1 all (omega arith))
    (λ _. passed_at p (1 ∷ 2 ∷ 3 ∷ 4 ∷ []) 2 1 all (omega arith))
    (λ _. passed_at p (1 ∷ 2 ∷ 3 ∷ 4 ∷ []) 3 1 all (omega arith))
    (λ h. absurd (omega arith)) n from (omega arith) to

of_side : (p : Side → Bool) → list_all p (Near ∷ Far ∷ []) ≡ true → (side : Side) → p side ≡ true
of_side p all Near = passed_at p (Near ∷ Far ∷ []) 0 Near all (omega arith)
of_side p all Far = passed_at p (Near ∷ Far ∷ []) 1 Near all (omega arith)

few_needed : (score : MatchScore) (side : Side) → IsScore score → needs score side ≤ 5
few_needed score Near valid = omega (arith, valid.needs.in_order, valid.needs.to)
few_needed score Far valid = valid.needs.to

comes-true : (n : ℕ) (score : MatchScore) (winner : Side) (won : ℕ) → comes_before n score winner won ≡ true → won < needs score winner → ladder_place n (after_win score winner won) < ladder_place n score
unfolding comes_before
comes-true n score winner won h less = grind (arith, nat_tests)

pub after_win-before : (n : ℕ) → 1 ≤ n → n ≤ 5 → (score : MatchScore) → IsScore score → ladder_place n score < length (ladder n) → (winner : Side) (won : ℕ) → 1 ≤ won → won < needs score winner → ladder_place n (after_win score winner won) < ladder_place n score
after_win-before n from to score valid listed winner won some less =
    let here = get_or (ladder n) (ladder_place n score) last_game in
    let same : score ≡ here = same_score-true score here (found_at (same_score score) (ladder n) last_game listed) in
    let row = passed_at (λ s. list_all (λ side. list_all (comes_before n s side) (1 ∷ 2 ∷ 3 ∷ 4 ∷ [])) (Near ∷ Far ∷ [])) (ladder n) (ladder_place n score) last_game (tried n from to) listed in
    let mine : list_all (λ winner. list_all (comes_before n score winner) (1 ∷ 2 ∷ 3 ∷ 4 ∷ [])) (Near ∷ Far ∷ []) ≡ true = subst (λ (s : MatchScore). list_all (λ winner. list_all (comes_before n s winner) (1 ∷ 2 ∷ 3 ∷ 4 ∷ [])) (Near ∷ Far ∷ []) ≡ true) (sym same) row in
    let few = few_needed score winner valid in
    comes-true n score winner won (among_four (comes_before n score winner) (of_side (λ side. list_all (comes_before n score side) (1 ∷ 2 ∷ 3 ∷ 4 ∷ [])) mine winner) won some (omega arith)) less

pub in_five-valid : (near far : ℕ) (phase : Phase) → is_of_match 5 (record { near = near; far = far; phase = phase }) ≡ true → IsScore (record { near = near; far = far; phase = phase })
in_five-valid near far Normal h = record {
  needs = record { from = grind (arith, nat_tests); in_order = grind (arith, nat_tests); to = grind (arith, nat_tests) };
  fits = record { normal = λ _. grind (arith, nat_tests); crawford = λ e. cc; post = λ e. cc };
}
in_five-valid near far Crawford h = record {
  needs = record { from = grind (arith, nat_tests); in_order = grind (arith, nat_tests); to = grind (arith, nat_tests) };
  fits = record { normal = λ e. cc; crawford = λ _. (grind (arith, nat_tests), grind (arith, nat_tests)); post = λ e. cc };
}
in_five-valid near far Post h = record {
  needs = record { from = grind (arith, nat_tests); in_order = grind (arith, nat_tests); to = grind (arith, nat_tests) };
  fits = record { normal = λ e. cc; crawford = λ e. cc; post = λ _. grind (arith, nat_tests) };
}

pub all_in_five : (n : ℕ) → 1 ≤ n → n ≤ 5 → list_all (is_of_match 5) (ladder n) ≡ true
unfolding ladder in_order
all_in_five = one_to_five (λ n. list_all (is_of_match 5) (ladder n) ≡ true) refl refl refl refl refl

pub listed-valid : (n : ℕ) → 1 ≤ n → n ≤ 5 → (score : MatchScore) → ladder_place n score < length (ladder n) → IsScore score
listed-valid n from to score listed =
    let here = get_or (ladder n) (ladder_place n score) last_game in
    let same : score ≡ here = same_score-true score here (found_at (same_score score) (ladder n) last_game listed) in
    subst IsScore (sym same) (in_five-valid here.near here.far here.phase (passed_at (is_of_match 5) (ladder n) (ladder_place n score) last_game (all_in_five n from to) listed))
