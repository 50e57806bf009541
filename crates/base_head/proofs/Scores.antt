-- The scores that a ladder lists.
use Rattle.std.proofs.Common.{◌≡◌, ◌<◌, ◌≤◌, ℕ, Bool, true, ltb, List, length, get_or, refl, sym, subst, arith}
use Rattle.std.proofs.lemmas.Bool.Decides.{nat_tests}
use Rattle.std.proofs.lemmas.List.Elements.{filter_passes}
use Rattle.std.proofs.lemmas.List.Quantifiers.{position-Some}
use Rattle.std.specs.List.{position_or_len}
use Rattle.cube_actions.specs.declared.phase.Phase.{Phase}
use Rattle.cube_actions.specs.declared.phase.Phase.TheVariants.{Normal, Crawford, Post}
use Rattle.cube_actions.specs.Ladder.{can_be, in_order, is_of_match, ladder}
use Rattle.cube_actions.specs.Scores.{MatchScore, last_game, same_phase, same_score}
use Rattle.base_head.specs.Headers.{HasScore}
use Rattle.base_head.specs.HeaderFaults.{is_phase_at}

found_at : {X : Type 0} (p : X → Bool) (xs : List X) (d : X) → position_or_len p xs < length xs → p (get_or xs (position_or_len p xs) d) ≡ true
found_at p xs d within =
    let e : ltb (position_or_len p xs) (length xs) ≡ true = grind (arith, nat_tests) in
    (position-Some p xs (position_or_len p xs) d (rw e refl)).1

same_phase-true : (a b : Phase) → same_phase a b ≡ true → a ≡ b
same_phase-true Normal Normal h = refl
same_phase-true Crawford Crawford h = refl
same_phase-true Post Post h = refl
same_phase-true Normal Crawford h = absurd (grind (arith, h))
same_phase-true Normal Post h = absurd (grind (arith, h))
same_phase-true Crawford Normal h = absurd (grind (arith, h))
same_phase-true Crawford Post h = absurd (grind (arith, h))
same_phase-true Post Normal h = absurd (grind (arith, h))
same_phase-true Post Crawford h = absurd (grind (arith, h))

same_score-true : (a b : MatchScore) → same_score a b ≡ true → a ≡ b
same_score-true a b h =
    let near : a.near ≡ b.near = grind (arith, nat_tests) in
    let far : a.far ≡ b.far = grind (arith, nat_tests) in
    let phase : same_phase a.phase b.phase ≡ true = grind (arith, nat_tests) in
    let phases = same_phase-true a.phase b.phase phase in
    λ i. record { near = near i; far = far i; phase = phases i }

-- a listed score is one of the match
of_match : (n : ℕ) (score : MatchScore) → HasScore n score → is_of_match n score ≡ true
unfolding ladder
of_match n score has =
    let here = get_or (ladder n) (position_or_len (same_score score) (ladder n)) last_game in
    let same : score ≡ here = same_score-true score here (found_at (same_score score) (ladder n) last_game has.listed) in
    subst (λ (s : MatchScore). is_of_match n s ≡ true) (sym same) (filter_passes (is_of_match n) in_order (position_or_len (same_score score) (ladder n)) last_game has.listed)

-- the numbers of a score that its match has
pub record ScoreNumbers (score : MatchScore) : Type 0 where
  pub from : 1 ≤ score.near
  pub in_order : score.near ≤ score.far
  pub to : score.far ≤ 5
  pub fits : is_phase_at score.near score.far score.phase ≡ true

by_phase : (n near far : ℕ) (phase : Phase) → can_be n near far phase ≡ true → (1 ≤ near) × (is_phase_at near far phase ≡ true)
by_phase n near far Normal can = (grind (arith, nat_tests), can)
by_phase n near far Crawford can = (grind (arith, nat_tests), can)
by_phase n near far Post can = (grind (arith, nat_tests), grind (arith, nat_tests))

pub score-numbers : (n : ℕ) (score : MatchScore) → HasScore n score → ScoreNumbers score
score-numbers n score has =
    let test = of_match n score has in
    let phase = by_phase n score.near score.far score.phase (grind (arith, nat_tests, test)) in
    let most : score.far ≤ n = grind (arith, nat_tests, test) in
    record {
      from = phase.0;
      in_order = grind (arith, nat_tests, test);
      to = omega (arith, most, has.to);
      fits = phase.1;
    }
