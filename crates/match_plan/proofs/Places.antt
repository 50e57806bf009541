-- Scores stand in the ladder of their match where they are looked for, and their lines in this order in its plan.
use Rattle.std.proofs.Common.{◌≡◌, ◌<◌, ◌≤◌, ◌∙◌, ◌+◌, ◌++◌, ◌==◌, ℕ, zero, suc, Bool, true, false, List, [], ◌∷◌, length, take, get_or, ◌⊎◌, inl, inr, ap, refl, sym, subst, arith}
use Rattle.std.proofs.lemmas.Bool.Decides.{nat_tests}
use Rattle.std.proofs.lemmas.Grind.{flat_map-append}
use Rattle.std.proofs.lemmas.List.{append-nil, get_or_default, take_more}
use Rattle.std.proofs.lemmas.List.Folds.{list_all_at}
use Rattle.std.proofs.lemmas.List.FromFn.{get_or-range_with_len, length-range_with_len}
use Rattle.std.specs.List.{flat_map, list_all, range_with_len}
use Rattle.directed_fixed.specs.Bounds.{Bounds}
use Rattle.cube_actions.specs.Ladder.{in_order, ladder}
use Rattle.cube_actions.specs.Scores.{MatchScore, last_game}
use Rattle.cube_actions.specs.Stakes.{nothing}
use Rattle.cube_actions.specs.Starts.{StartPairs, AreStarts, Covers, ladder_place, start_pair}

abbrev score_at : ℕ → ℕ → MatchScore
score_at match_length place = get_or (ladder match_length) place last_game

stands : ℕ → ℕ → Bool
stands match_length place = ladder_place match_length (score_at match_length place) == place

abbrev places : ℕ → List ℕ
places match_length = range_with_len 0 (length (ladder match_length))

tried : (match_length : ℕ) → 1 ≤ match_length → match_length ≤ 5 → list_all (stands match_length) (places match_length) ≡ true
unfolding stands ladder in_order
tried zero from to = absurd (omega arith)
tried (suc zero) from to = refl
tried (suc (suc zero)) from to = refl
tried (suc (suc (suc zero))) from to = refl
tried (suc (suc (suc (suc zero)))) from to = refl
tried (suc (suc (suc (suc (suc zero))))) from to = refl
tried (suc (suc (suc (suc (suc (suc n)))))) from to = absurd (omega arith)

either : (b : Bool) → (b ≡ true) ⊎ (b ≡ false)
either true = inl refl
either false = inr refl

-- what all elements pass, the element at an index passes
passed_at : {X : Type 0} (p : X → Bool) (xs : List X) (i : ℕ) (d : X) → list_all p xs ≡ true → i < length xs → p (get_or xs i d) ≡ true
passed_at p xs i d all within = elim (either (p (get_or xs i d))) [ inl h ↦ h | inr h ↦ (let e = list_all_at p xs i d within h in cc) ]

stands-true : (match_length place : ℕ) → stands match_length place ≡ true → ladder_place match_length (score_at match_length place) ≡ place
unfolding stands
stands-true match_length place h = grind (arith, nat_tests)

-- the score at a place is found there
found-there : (match_length : ℕ) → 1 ≤ match_length → match_length ≤ 5 → (place : ℕ) → place < length (ladder match_length) → ladder_place match_length (score_at match_length place) ≡ place
found-there match_length from to place inside =
    let here : get_or (places match_length) place 0 ≡ place = get_or-range_with_len 0 (length (ladder match_length)) place 0 inside ∙ omega arith in
    let within : place < length (places match_length) = omega (arith, inside, length-range_with_len 0 (length (ladder match_length))) in
    stands-true match_length place
    (subst (λ (n : ℕ). stands match_length n ≡ true) here (passed_at (stands match_length) (places match_length) place 0 (tried match_length from to) within))

module _ (starts : StartPairs) (valid : AreStarts starts) (whole : length starts.pairs ≡ length (ladder starts.match_length)) (place : ℕ) (inside : place < length (ladder starts.match_length)) (score : MatchScore) (is : score ≡ get_or (ladder starts.match_length) place score) where
  there : ladder_place starts.match_length score ≡ place
  there =
      ap (ladder_place starts.match_length) (is ∙ get_or_default (ladder starts.match_length) place score last_game inside)
      ∙ found-there starts.match_length valid.from valid.to place inside

  pub place-held : place < length starts.pairs
  place-held = omega (arith, whole, inside)

  pub place-covered : Covers starts score
  place-covered = record { listed = omega (arith, there, inside); held = omega (arith, there, inside, whole) }

  pub place-start : (pair : Bounds) → pair ≡ get_or starts.pairs place nothing → pair ≡ start_pair starts score
  place-start pair h = h ∙ ap (λ (n : ℕ). get_or starts.pairs n nothing) (sym there)

  -- one score's lines more
  pub place-lines : (lines : MatchScore → List ℕ) → flat_map lines (take (place + 1) (ladder starts.match_length)) ≡ flat_map lines (take place (ladder starts.match_length)) ++ lines score
  place-lines lines =
      ap (flat_map lines) (take_more (ladder starts.match_length) place score inside ∙ ap (λ (s : MatchScore). take place (ladder starts.match_length) ++ s ∷ []) (sym is))
      ∙ flat_map-append lines (take place (ladder starts.match_length)) (score ∷ [])
      ∙ ap (λ (text : List ℕ). flat_map lines (take place (ladder starts.match_length)) ++ text) (append-nil (lines score))
