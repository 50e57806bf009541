-- Places of scores in the ladder of a match.
use Rattle.std.proofs.Common.{◌≡◌, ◌≢◌, ◌<◌, ◌≤◌, ◌∙◌, ℕ, Bool, true, false, not, length, inl, inr, refl, sym, ap, subst, arith}
use Rattle.std.proofs.lemmas.Bool.{cases_lt, false≢true}
use Rattle.std.proofs.lemmas.Bool.Decides.{nat_tests}
use Rattle.std.proofs.lemmas.List.Sums.{prefix_len_passes, prefix_len_stops}
use Rattle.std.specs.List.{AllPairs}
use Rattle.cube_actions.specs.declared.phase.Phase.{Phase}
use Rattle.cube_actions.specs.declared.phase.Phase.TheVariants.{Normal, Crawford, Post}
use Rattle.cube_actions.specs.Scores.{MatchScore, is_crawford, last_game, same_score, same_phase}
use Rattle.cube_actions.specs.Ladder.{ladder, ScoreComesBefore}
use Rattle.cube_actions.specs.Starts.{ladder_place}
use Rattle.match_scores.specs.Ladders.{score_at}

not-false : (b : Bool) → not b ≡ false → b ≡ true
not-false true h = refl
not-false false h = cc

same_phase-true : (a b : Phase) → same_phase a b ≡ true → a ≡ b
same_phase-true Normal Normal h = refl
same_phase-true Crawford Crawford h = refl
same_phase-true Post Post h = refl
same_phase-true _ _ h = cc

same_phase-same : (a : Phase) → same_phase a a ≡ true
same_phase-same Normal = refl
same_phase-same Crawford = refl
same_phase-same Post = refl

same_score-true : (a b : MatchScore) → same_score a b ≡ true → a ≡ b
same_score-true a b h =
    let near : a.near ≡ b.near = grind (arith, nat_tests) in
    let far : a.far ≡ b.far = grind (arith, nat_tests) in
    let phase : same_phase a.phase b.phase ≡ true = grind (arith, nat_tests) in
    let phases = same_phase-true a.phase b.phase phase in
    λ i. record { near = near i; far = far i; phase = phases i }

same_score-same : (a : MatchScore) → same_score a a ≡ true
same_score-same a = let phase = same_phase-same a.phase in grind (arith, nat_tests)

-- the score at its own place
pub score-found : (match_length : ℕ) (score : MatchScore) → ladder_place match_length score < length (ladder match_length) → score_at match_length (ladder_place match_length score) ≡ score
score-found match_length score listed =
    let passes = not-false _ (prefix_len_stops (λ other. not (same_score score other)) (ladder match_length) last_game listed) in
    sym (same_score-true score (score_at match_length (ladder_place match_length score)) passes)

-- a score stands first where it is found
pub place-first : (match_length place : ℕ) → place < length (ladder match_length) → ladder_place match_length (score_at match_length place) ≤ place
place-first match_length place here =
    let score = score_at match_length place in
    elim (cases_lt place (ladder_place match_length score)) [
      | inl later ↦ (let passes = prefix_len_passes (λ other. not (same_score score other)) (ladder match_length) place last_game later in let same = same_score-same score in absurd (no (same_score score score) same passes))
      | inr first ↦ first
    ] where
      no : (b : Bool) → b ≡ true → not b ≡ true → ⊥
      no true h k = absurd (grind arith)
      no false h k = absurd (grind arith)

-- ---- no score stands twice in a ladder

before-none : (score : MatchScore) → ScoreComesBefore score score → ⊥
before-none score (inl less) = omega (arith, less)
before-none score (inr (inl same)) = let less = same.1 in omega (arith, less)
before-none score (inr (inr same)) = false≢true (ap is_crawford (sym same.2 ∙ same.3))

pub apart-later : (match_length : ℕ) → AllPairs ScoreComesBefore (ladder match_length) → (i j : ℕ) → i < j → j < length (ladder match_length) → score_at match_length i ≢ score_at match_length j
apart-later match_length order i j less here same =
    before-none (score_at match_length j) (subst (λ (score : MatchScore). ScoreComesBefore score (score_at match_length j)) same (order i j last_game less here))

-- a score's own place is where it is found
pub place-of : (match_length : ℕ) → AllPairs ScoreComesBefore (ladder match_length) → (place : ℕ) → place < length (ladder match_length) → ladder_place match_length (score_at match_length place) ≡ place
place-of match_length order place here =
    let found = ladder_place match_length (score_at match_length place) in
    let first = place-first match_length place here in
    elim (cases_lt found place) [
      | inl earlier ↦ absurd (apart-later match_length order found place earlier here (score-found match_length (score_at match_length place) (omega (arith, earlier, here))))
      | inr not_earlier ↦ omega (arith, first, not_earlier)
    ]
