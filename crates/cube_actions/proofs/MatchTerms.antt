-- The stakes of a game of a match are valid.
use Rattle.std.proofs.Common.{◌≡◌, ◌≤◌, ◌<◌, ◌-◌, ◌*◌, ℕ, Bool, true, false, not, cond, nat_le, nat_lt, ◌&&◌, ◌||◌, Some, None, IfSome, [], ◌∷◌, length, get_or, All, inl, inr, refl, sym, subst, arith}
use Rattle.std.proofs.lemmas.Bool.{cases_lt}
use Rattle.std.proofs.lemmas.Bool.Decides.{nat_tests}
use Rattle.std.proofs.lemmas.Int.{ints}
use Rattle.std.proofs.lemmas.List.{length-map, get_or_past}
use Rattle.std.proofs.lemmas.List.Elements.{All-map, All-cons, All-nil}
use Rattle.std.specs.List.{list_all}
use Rattle.directed_fixed.specs.Bounds.{Bounds, IsWithin, negated}
use Rattle.cube_actions.specs.declared.kind.Double.{Double}
use Rattle.cube_actions.specs.declared.match_kind.MatchKind.{MatchKind}
use Rattle.cube_actions.specs.declared.phase.Phase.{Phase}
use Rattle.cube_actions.specs.declared.side.Side.{Side}
use Rattle.cube_actions.specs.Stakes.{Terms, IsValid, IsRightKind, IsRightDouble, IsRightAnswer, exactly, point_units, nothing}
use Rattle.cube_actions.specs.Scores.{MatchScore, last_game, same_score, needs, other_side}
use Rattle.cube_actions.specs.Ladder.{ladder, in_order}
use Rattle.cube_actions.specs.MatchKinds.{match_kinds, every_kind, can_come, number_in, kind_after_play, after_take, kind_may_double}
use Rattle.cube_actions.specs.Starts.{StartPairs, AreStarts, ladder_place, start_pair}
use Rattle.cube_actions.specs.Matches.{terms_of, match_kind, value_of_win, next_value, next_score, stays_near}
use Rattle.cube_actions.proofs.LadderOfFive.{one_to_five, filter_few}
use Rattle.cube_actions.proofs.FirstPassing.{passed_at, found_at}
use Rattle.cube_actions.proofs.WinsLeadDown.{same_score-true}

-- the numbers that a kind names are those of kinds
number_fits : MatchScore → MatchKind → Bool
number_fits score kind =
    nat_lt (number_in score (kind_after_play kind)) (length (match_kinds score))
    && (not (kind_may_double score kind) || nat_lt (number_in score (after_take kind)) (length (match_kinds score)))
    && nat_le 1 kind.cube && nat_le kind.cube 8

tried : (n : ℕ) → 1 ≤ n → n ≤ 5 → list_all (λ score. list_all (number_fits score) (match_kinds score)) (ladder n) ≡ true
unfolding number_fits match_kinds ladder in_order
tried = one_to_five (λ n. list_all (λ score. list_all (number_fits score) (match_kinds score)) (ladder n) ≡ true) refl refl refl refl refl

numbers_fit : (n : ℕ) → 1 ≤ n → n ≤ 5 → (score : MatchScore) → ladder_place n score < length (ladder n) → list_all (number_fits score) (match_kinds score) ≡ true
numbers_fit n from to score listed =
    let here = get_or (ladder n) (ladder_place n score) last_game in
    let same : score ≡ here = same_score-true score here (found_at (same_score score) (ladder n) last_game listed) in
    let row = passed_at (λ s. list_all (number_fits s) (match_kinds s)) (ladder n) (ladder_place n score) last_game (tried n from to) listed in
    subst (λ (s : MatchScore). list_all (number_fits s) (match_kinds s) ≡ true) (sym same) row

pub cubes_small : (n : ℕ) → 1 ≤ n → n ≤ 5 → (score : MatchScore) → ladder_place n score < length (ladder n) → All (λ kind. (1 ≤ kind.cube) × (kind.cube ≤ 8)) (match_kinds score)
unfolding number_fits
cubes_small n from to score listed k d within =
    let fits = passed_at (number_fits score) (match_kinds score) k d (numbers_fit n from to score listed) within in
    (grind (arith, nat_tests), grind (arith, nat_tests))

pub few_kinds : (score : MatchScore) → length (match_kinds score) ≤ 14
unfolding match_kinds
few_kinds score = filter_few (can_come score) every_kind

some_kinds : (score : MatchScore) → 0 < length (match_kinds score)
unfolding match_kinds
some_kinds score = omega arith

nothing_within : IsWithin (point_units 1) nothing
nothing_within = record { from = omega (arith, ints); in_order = omega (arith, ints); to = omega (arith, ints) }

won_within : IsWithin (point_units 1) (exactly 1)
won_within = record { from = omega (arith, ints); in_order = omega (arith, ints); to = omega (arith, ints) }

start_within : (starts : StartPairs) (score : MatchScore) → AreStarts starts → IsWithin (point_units 1) (start_pair starts score)
start_within starts score valid =
    let place = ladder_place starts.match_length score in
    elim (cases_lt place (length starts.pairs)) [
      | inl held ↦ valid.within place nothing held
      | inr none ↦ rw (get_or_past starts.pairs place nothing none) nothing_within
    ]

negated_within : (pair : Bounds) → IsWithin (point_units 1) pair → IsWithin (point_units 1) (negated pair)
negated_within pair h = record { from = omega (arith, ints, h.to); in_order = omega (arith, ints, h.in_order); to = omega (arith, ints, h.from) }

next_within : (starts : StartPairs) (phase : Phase) (winner : Side) (own others : ℕ) → AreStarts starts → IsWithin (point_units 1) (next_value starts phase winner own others)
next_within starts phase winner own others valid =
    let pair = start_within starts (next_score phase own others) valid in
    elim (stays_near winner own others) as (λ b. IsWithin (point_units 1) (cond b (start_pair starts (next_score phase own others)) (negated (start_pair starts (next_score phase own others))))) [
      | true ↦ pair
      | false ↦ negated_within _ pair
    ]

pub win_within : (starts : StartPairs) (score : MatchScore) (winner : Side) (won : ℕ) → AreStarts starts → IsWithin (point_units 1) (value_of_win starts score winner won)
win_within starts score winner won valid =
    let own = needs score winner in
    let others = needs score (other_side winner) in
    elim (nat_le own won) as (λ b. IsWithin (point_units 1) (cond b (exactly 1) (next_value starts score.phase winner (own - won) others))) [
      | true ↦ won_within
      | false ↦ next_within starts score.phase winner (own - won) others valid
    ]

fits_next : (score : MatchScore) (kind : MatchKind) → number_fits score kind ≡ true → number_in score (kind_after_play kind) < length (match_kinds score)
unfolding number_fits
fits_next score kind h = grind (arith, nat_tests)

fits_take : (score : MatchScore) (kind : MatchKind) → number_fits score kind ≡ true → kind_may_double score kind ≡ true → number_in score (after_take kind) < length (match_kinds score)
unfolding number_fits
fits_take score kind h may = grind (arith, nat_tests)

right_if : (t : Terms) (may : Bool) (double : Double) → (may ≡ true → IsRightDouble t double) → IfSome (cond may (Some double) None) (IsRightDouble t)
right_if t true double right = right refl
right_if t false double right = tt

long : (score : MatchScore) (starts : StartPairs) → length (terms_of score starts).kinds ≡ length (match_kinds score)
long score starts = length-map (match_kinds score) (match_kind starts score)

right_kind : (score : MatchScore) (starts : StartPairs) (kind : MatchKind) → AreStarts starts → number_fits score kind ≡ true → IsRightKind (terms_of score starts) (match_kind starts score kind)
right_kind score starts kind valid fits =
    let many = long score starts in
    record {
      next = omega (arith, many, fits_next score kind fits);
      wins = All-map (IsWithin (point_units 1)) (λ times. value_of_win starts score kind.mover (times * kind.cube)) (1 ∷ 2 ∷ 3 ∷ []) (λ k d within. win_within starts score kind.mover (get_or (1 ∷ 2 ∷ 3 ∷ []) k d * kind.cube) valid);
      double = right_if (terms_of score starts) (kind_may_double score kind) _ (λ may. record {
        pass = win_within starts score kind.mover kind.cube valid;
        some = omega arith;
        answers = All-cons (IsRightAnswer (terms_of score starts)) _ [] (record { kind = omega (arith, many, fits_take score kind fits may); factor = inl refl }) (All-nil (IsRightAnswer (terms_of score starts)));
      });
    }

pub terms-valid : (score : MatchScore) (starts : StartPairs) → AreStarts starts → ladder_place starts.match_length score < length (ladder starts.match_length) → IsValid (terms_of score starts)
terms-valid score starts valid listed =
    let fit = numbers_fit starts.match_length valid.from valid.to score listed in
    record {
      some = omega (arith, long score starts, some_kinds score);
      kinds = All-map (IsRightKind (terms_of score starts)) (match_kind starts score) (match_kinds score) (λ k d within. right_kind score starts (get_or (match_kinds score) k d) valid (passed_at (number_fits score) (match_kinds score) k d fit within));
      bound = refl;
    }
