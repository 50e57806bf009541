-- A ladder has exactly the scores of its match, in order.
use Rattle.std.proofs.Common.{◌≡◌, ◌≤◌, ◌<◌, ◌+◌, ◌-◌, ℕ, Bool, true, false, not, nat_eq, nat_lt, max, ◌&&◌, ◌||◌, List, [], ◌∷◌, length, get_or, ◌⊎◌, inl, inr, refl, sym, subst, arith}
use Rattle.std.proofs.lemmas.Bool.Decides.{nat_tests}
use Rattle.std.proofs.lemmas.List.Kept.{AllPairs-cons}
use Rattle.std.specs.List.{list_all, AllPairs, Contains}
use Rattle.cube_actions.specs.declared.phase.Phase.{Phase}
use Rattle.cube_actions.specs.declared.phase.Phase.TheVariants.{Normal, Crawford, Post}
use Rattle.cube_actions.specs.Scores.{MatchScore, same_score, same_phase}
use Rattle.cube_actions.specs.Ladder.{in_order, is_of_match, can_be, ladder, IsOfMatch, ScoreComesBefore}
use Rattle.cube_actions.specs.Starts.{ladder_place}
use Rattle.cube_actions.proofs.LadderOfFive.{one_to_five}
use Rattle.cube_actions.proofs.FirstPassing.{passed_at, found_at}
use Rattle.cube_actions.proofs.WinsLeadDown.{same_score-true, same_phase-true, in_five-valid, all_in_five}

abbrev five : List ℕ
five = 1 ∷ 2 ∷ 3 ∷ 4 ∷ 5 ∷ []

abbrev phases : List Phase
phases = Normal ∷ Crawford ∷ Post ∷ []

among_five : (p : ℕ → Bool) → list_all p five ≡ true → (n : ℕ) → 1 ≤ n → n ≤ 5 → p n ≡ true
among_five p all =
    one_to_five (λ n. p n ≡ true)
    (passed_at p five 0 1 all (omega arith))
    (passed_at p five 1 1 all (omega arith))
    (passed_at p five 2 1 all (omega arith))
    (passed_at p five 3 1 all (omega arith))
    (passed_at p five 4 1 all (omega arith))

of_phase : (p : Phase → Bool) → list_all p phases ≡ true → (phase : Phase) → p phase ≡ true
of_phase p all Normal = passed_at p phases 0 Normal all (omega arith)
of_phase p all Crawford = passed_at p phases 1 Normal all (omega arith)
of_phase p all Post = passed_at p phases 2 Normal all (omega arith)

-- the ladder has the score if it is one of the match
is_listed : ℕ → ℕ → ℕ → Phase → Bool
is_listed n near far phase =
    let score : MatchScore = record { near = near; far = far; phase = phase } in
    not (is_of_match n score) || nat_lt (ladder_place n score) (length (ladder n))

tried : (n : ℕ) → 1 ≤ n → n ≤ 5 → list_all (λ near. list_all (λ far. list_all (is_listed n near far) phases) five) five ≡ true
unfolding is_listed ladder in_order
tried = one_to_five (λ n. list_all (λ near. list_all (λ far. list_all (is_listed n near far) phases) five) five ≡ true) refl refl refl refl refl

listed-true : (n near far : ℕ) (phase : Phase) → is_listed n near far phase ≡ true → is_of_match n (record { near = near; far = far; phase = phase }) ≡ true → ladder_place n (record { near = near; far = far; phase = phase }) < length (ladder n)
unfolding is_listed
listed-true n near far phase h of_match = grind (arith, nat_tests)

fits : (n near far : ℕ) (phase : Phase) → IsOfMatch n (record { near = near; far = far; phase = phase }) → is_of_match n (record { near = near; far = far; phase = phase }) ≡ true
fits n near far Normal h = let low = h.valid.fits.normal refl in grind (arith, nat_tests, h.valid.needs.in_order, h.within)
fits n near far Crawford h = let low = h.valid.fits.crawford refl in grind (arith, nat_tests, h.valid.needs.in_order, h.within)
fits n near far Post h = let low = h.valid.fits.post refl in let won = h.won refl in grind (arith, nat_tests, h.valid.needs.in_order, h.within)

pub listed : (n : ℕ) → 1 ≤ n → n ≤ 5 → (score : MatchScore) → IsOfMatch n score → ladder_place n score < length (ladder n)
listed n from to score h =
    let needs = h.valid.needs in
    let rows = among_five (λ near. list_all (λ far. list_all (is_listed n near far) phases) five) (tried n from to) score.near needs.from (omega (arith, needs.in_order, needs.to)) in
    let row = among_five (λ far. list_all (is_listed n score.near far) phases) rows score.far (omega (arith, needs.from, needs.in_order)) needs.to in
    listed-true n score.near score.far score.phase (of_phase (is_listed n score.near score.far) row score.phase) (fits n score.near score.far score.phase h)

all_fit : (n : ℕ) → 1 ≤ n → n ≤ 5 → list_all (is_of_match n) (ladder n) ≡ true
unfolding ladder in_order
all_fit = one_to_five (λ n. list_all (is_of_match n) (ladder n) ≡ true) refl refl refl refl refl

post_won : (n near far : ℕ) (phase : Phase) → can_be n near far phase ≡ true → phase ≡ Post → far ≤ max 1 (n - 1)
post_won n near far Normal h e = cc
post_won n near far Crawford h e = cc
post_won n near far Post h e = grind (arith, nat_tests)

pub in_ladder : (n : ℕ) → 1 ≤ n → n ≤ 5 → (score : MatchScore) → Contains (ladder n) score → IsOfMatch n score
in_ladder n from to score (k, low, e) =
    let test : is_of_match n score ≡ true = subst (λ (s : MatchScore). is_of_match n s ≡ true) e (passed_at (is_of_match n) (ladder n) k score (all_fit n from to) low) in
    let five : is_of_match 5 score ≡ true = subst (λ (s : MatchScore). is_of_match 5 s ≡ true) e (passed_at (is_of_match 5) (ladder n) k score (all_in_five n from to) low) in
    record {
      valid = in_five-valid score.near score.far score.phase five;
      within = grind (arith, nat_tests);
      won = post_won n score.near score.far score.phase (grind (arith, nat_tests));
    }

pub to_ladder : (n : ℕ) → 1 ≤ n → n ≤ 5 → (score : MatchScore) → IsOfMatch n score → Contains (ladder n) score
to_ladder n from to score h =
    let here = listed n from to score h in
    (ladder_place n score, here, sym (same_score-true score (get_or (ladder n) (ladder_place n score) score) (found_at (same_score score) (ladder n) score here)))

-- whether a score comes before another
before : MatchScore → MatchScore → Bool
before a b =
    nat_lt (a.near + a.far) (b.near + b.far)
    || (nat_eq (a.near + a.far) (b.near + b.far) && nat_lt a.near b.near)
    || (nat_eq a.near b.near && nat_eq a.far b.far && same_phase a.phase Post && same_phase b.phase Crawford)

all_pairs : (MatchScore → MatchScore → Bool) → List MatchScore → Bool
all_pairs p [] = true
all_pairs p (x ∷ xs) = list_all (p x) xs && all_pairs p xs

both : (a b : Bool) → (a && b) ≡ true → (a ≡ true) × (b ≡ true)
both true true h = (refl, refl)
both true false h = cc
both false b h = cc

pairs-true : (p : MatchScore → MatchScore → Bool) (xs : List MatchScore) → all_pairs p xs ≡ true → AllPairs (λ a b. p a b ≡ true) xs
unfolding all_pairs
pairs-true p [] h = λ i j d low within. absurd (omega arith)
pairs-true p (x ∷ xs) h =
    let parts = both (list_all (p x) xs) (all_pairs p xs) h in
    AllPairs-cons (λ a b. p a b ≡ true) x xs (λ k d within. passed_at (p x) xs k d parts.0 within) (pairs-true p xs parts.1)

either_of : (x y z : Bool) → (x || y || z) ≡ true → (x ≡ true) ⊎ (y ≡ true) ⊎ (z ≡ true)
either_of true y z h = inl refl
either_of false true z h = inr (inl refl)
either_of false false z h = inr (inr h)

before-true : (a b : MatchScore) → before a b ≡ true → ScoreComesBefore a b
unfolding before
before-true a b h =
    elim (either_of (nat_lt (a.near + a.far) (b.near + b.far)) _ _ h) [
      | inl fewer ↦ inl (grind (arith, nat_tests))
      | inr (inl nearer) ↦ inr (inl (grind (arith, nat_tests), grind (arith, nat_tests)))
      | inr (inr later) ↦ inr (inr (grind (arith, nat_tests), grind (arith, nat_tests), same_phase-true a.phase Post (grind (arith, nat_tests)), same_phase-true b.phase Crawford (grind (arith, nat_tests))))
    ]

sorted : (n : ℕ) → 1 ≤ n → n ≤ 5 → all_pairs before (ladder n) ≡ true
unfolding all_pairs before ladder in_order
sorted = one_to_five (λ n. all_pairs before (ladder n) ≡ true) refl refl refl refl refl

pub ladder_sorted : (n : ℕ) → 1 ≤ n → n ≤ 5 → AllPairs ScoreComesBefore (ladder n)
ladder_sorted n from to i j d low within = before-true _ _ (pairs-true before (ladder n) (sorted n from to) i j d low within)
