-- Every match has exact starts, from the last game backwards each the mean of its game, and no others.
use Rattle.std.proofs.Common.{◌≡◌, ◌<◌, ◌≤◌, ◌+◌, ◌-◌, ◌*◌, ◌^◌, ◌∙◌, ℕ, zero, suc, ℤ, pos, neg_ℤ, ◌*ℤ◌, ◌≤ℤ◌, Bool, true, false, cond, eqb, nat_le, min, ◌==◌, ◌||◌, List, [], ◌∷◌, None, length, slice_index_or, inl, inr, ap, refl, sym, arith}
use Rattle.std.proofs.lemmas.Bool.{cases_lt}
use Rattle.std.proofs.lemmas.Bool.Decides.{nat_tests}
use Rattle.std.proofs.lemmas.Int.{ints}
use Rattle.std.proofs.Math.Nat.{mul-pos}
use Rattle.directed_fixed.specs.Bounds.{IsWithinUnits}
use Rattle.move_rules.specs.declared.payoff.Won.{Won}
use Rattle.move_rules.specs.declared.payoff.Won.TheVariants.{Single, Gammon, Backgammon}
use Rattle.cube_actions.specs.declared.phase.Phase.{Phase}
use Rattle.cube_actions.specs.declared.phase.Phase.TheVariants.{Normal, Crawford, Post}
use Rattle.cube_actions.specs.declared.side.Side.{Side}
use Rattle.cube_actions.specs.declared.side.Side.TheVariants.{Near, Far}
use Rattle.cube_actions.specs.MatchKinds.{match_kinds}
use Rattle.cube_actions.specs.Matches.{after_win, next_score, stays_near}
use Rattle.cube_actions.specs.Scores.{MatchScore, IsScore, needs, other_side}
use Rattle.turn_rule.specs.Exact.{Scoring}
use Rattle.turn_rule.proofs.Integers.{mul_mono, regroup, times-neg}
use Rattle.match_scores.specs.Payoffs.{EndScores, ExactStarts, ScoredMatch, cube_in, ends_over, exact_win, mover_in, scored_by, start_scored}
use Rattle.match_scores.specs.Ladders.{AreEndScores, HasExactStarts, IsScoredMatch}
use Rattle.match_scores.proofs.MatchPayoffs.{cube-some}
use Rattle.match_scores.proofs.Multiples.{times-negated, times-start}
use Rattle.match_scores.proofs.OneScore.{cancel, parts-some}

-- how many points the sides need together beyond one each: the fewer, the later in the match
abbrev points_left : MatchScore → ℕ
points_left score = (score.near + score.far) - 2

-- a win leaves fewer points to both sides together
fewer-left : (score : MatchScore) (winner : Side) (won : ℕ) → IsScore score → 1 ≤ won → won < needs score winner → points_left (after_win score winner won) < points_left score
fewer-left score Near won valid some less = omega (arith, valid.needs.from, valid.needs.in_order)
fewer-left score Far won valid some less = omega (arith, valid.needs.from, valid.needs.in_order)

few-left : (score : MatchScore) → IsScore score → points_left score < 9
few-left score valid = omega (arith, valid.needs.in_order, valid.needs.to)

past-last : {X : Type 0} (xs : List X) (k : ℕ) (d : X) → length xs ≤ k → slice_index_or xs k d ≡ d
past-last [] k d h = refl
past-last (x ∷ xs) zero d h = absurd (omega arith)
past-last (x ∷ xs) (suc k) d h = past-last xs k d (omega arith)

-- the cube shows a point or more, whatever the number of the kind
cube-shown : (score : MatchScore) (k : ℕ) → 1 ≤ cube_in score k
unfolding match_kinds
cube-shown score k = elim (cases_lt k (length (match_kinds score))) [
  | inl here ↦ cube-some score k here
  | inr past ↦ rw (past-last (match_kinds score) k (record { mover = Near; cube = 1; owner = None }) past) (omega arith)
]

-- numbers within a bound are so many times within so many times the bound
within-times : (scale n : ℕ) (x : ℤ) → IsWithinUnits (pos scale) x → IsWithinUnits (pos (scale * n)) (pos n *ℤ x)
within-times scale n x h =
    let low = mul_mono n (neg_ℤ (pos scale)) x h.from in
    let high = mul_mono n x (pos scale) h.to in
    record { from = omega (arith, ints, low, times-neg n (pos scale)); to = omega (arith, ints, high) }

module _ (checkers turns scale : ℕ) (ends : EndScores) where
  -- by how much a game multiplies what values are counted over
  abbrev parts : ℕ
  parts = 30 * 36 ^ turns

  abbrev times_till : ℕ → ℕ
  times_till zero = 1
  times_till (suc left) = times_till left * parts

  abbrev scoring_by : ℕ → ExactStarts → MatchScore → Scoring
  scoring_by n starts score = scored_by (scale * n) starts score (ends_over n ends score)

  -- the starts of the scores at which fewer than so many points are left
  abbrev starts_till : ℕ → ExactStarts
  starts_till zero score = pos 0
  starts_till (suc left) score =
      cond (eqb (points_left score) left) (start_scored checkers turns score (scoring_by (times_till left) (starts_till left) score)) (pos parts *ℤ starts_till left score)

  -- those known before stay the same fractions
  stays : (left : ℕ) (score : MatchScore) → points_left score < left → pos parts *ℤ starts_till left score ≡ starts_till (suc left) score
  stays left score less = by_test (eqb (points_left score) left) refl where
    by_test : (b : Bool) → eqb (points_left score) left ≡ b → pos parts *ℤ starts_till left score ≡ starts_till (suc left) score
    by_test true is = absurd (let same : points_left score ≡ left = grind (arith, nat_tests) in omega (arith, same, less))
    by_test false is = rw is refl

  module _ (left : ℕ) (score : MatchScore) (valid : IsScore score) (till : points_left score ≤ left) where
    times-win : (winner : Side) (won : ℕ) → 1 ≤ won → pos parts *ℤ exact_win (scale * times_till left) (starts_till left) score winner won ≡ exact_win (scale * times_till (suc left)) (starts_till (suc left)) score winner won
    times-win winner won some = by_need (nat_le (needs score winner) won) refl where
      by_need : (b : Bool) → nat_le (needs score winner) won ≡ b → pos parts *ℤ exact_win (scale * times_till left) (starts_till left) score winner won ≡ exact_win (scale * times_till (suc left)) (starts_till (suc left)) score winner won
      by_need true is = rw is (ap pos (whole parts scale (times_till left))) where
        whole : (n s t : ℕ) → n * (s * t) ≡ s * (t * n)
        whole n s t = omega arith
      by_need false is =
          let less : won < needs score winner = grind (arith, nat_tests) in
          let fewer = fewer-left score winner won valid some less in
          rw is (by_side (stays_near winner (needs score winner - won) (needs score (other_side winner))) (stays left (after_win score winner won) (omega (arith, fewer, till)))) where
            by_side : (b : Bool) → pos parts *ℤ starts_till left (after_win score winner won) ≡ starts_till (suc left) (after_win score winner won)
                → pos parts *ℤ cond b (starts_till left (after_win score winner won)) (neg_ℤ (starts_till left (after_win score winner won))) ≡ cond b (starts_till (suc left) (after_win score winner won)) (neg_ℤ (starts_till (suc left) (after_win score winner won)))
            by_side true start = start
            by_side false start = times-negated parts (starts_till left (after_win score winner won)) (starts_till (suc left) (after_win score winner won)) start

    times-won : (k : ℕ) (won : Won) → pos parts *ℤ (scoring_by (times_till left) (starts_till left) score).win k won ≡ (scoring_by (times_till (suc left)) (starts_till (suc left)) score).win k won
    times-won k Single = times-win (mover_in score k) (1 * cube_in score k) (let some = cube-shown score k in omega (arith, some))
    times-won k Gammon = times-win (mover_in score k) (2 * cube_in score k) (let some = cube-shown score k in omega (arith, some))
    times-won k Backgammon = times-win (mover_in score k) (3 * cube_in score k) (let some = cube-shown score k in omega (arith, some))

    times-end : (n : ℕ) (x : ℤ) → pos parts *ℤ (pos n *ℤ x) ≡ pos (n * parts) *ℤ x
    times-end n x = regroup parts n x ∙ ap (λ (m : ℕ). pos m *ℤ x) (turned parts n) where
      turned : (a b : ℕ) → a * b ≡ b * a
      turned a b = omega arith

    times-mean : pos parts *ℤ start_scored checkers turns score (scoring_by (times_till left) (starts_till left) score) ≡ start_scored checkers turns score (scoring_by (times_till (suc left)) (starts_till (suc left)) score)
    times-mean = times-start parts checkers turns score (scoring_by (times_till left) (starts_till left) score) (scoring_by (times_till (suc left)) (starts_till (suc left)) score)
        times-won (λ k. times-win (mover_in score k) (cube_in score k) (cube-shown score k)) (λ p k. times-end (times_till left) (ends score p k))

  -- each of them is the mean of its game
  means-till : (left : ℕ) (score : MatchScore) → IsScore score → points_left score < left → pos parts *ℤ starts_till left score ≡ start_scored checkers turns score (scoring_by (times_till left) (starts_till left) score)
  means-till zero score valid less = absurd (omega arith)
  means-till (suc left) score valid less = by_test (eqb (points_left score) left) refl (means-till left score valid) where
    by_test : (b : Bool) → eqb (points_left score) left ≡ b → (points_left score < left → pos parts *ℤ starts_till left score ≡ start_scored checkers turns score (scoring_by (times_till left) (starts_till left) score)) → pos parts *ℤ starts_till (suc left) score ≡ start_scored checkers turns score (scoring_by (times_till (suc left)) (starts_till (suc left)) score)
    by_test true is before = ap (λ (x : ℤ). pos parts *ℤ x) first ∙ times-mean left score valid (omega (arith, less)) where
      first : starts_till (suc left) score ≡ start_scored checkers turns score (scoring_by (times_till left) (starts_till left) score)
      first = rw is refl
    by_test false is before =
        let earlier : points_left score < left = grind (arith, nat_tests) in
        ap (λ (x : ℤ). pos parts *ℤ x) (sym (stays left score earlier) ∙ before earlier) ∙ times-mean left score valid (omega (arith, less))

  times-some : (left : ℕ) → 0 < times_till left
  times-some zero = omega arith
  times-some (suc left) = mul-pos (times-some left) (parts-some turns)

  pub has-starts : 0 < scale → AreEndScores checkers scale ends → HasExactStarts checkers turns scale ends
  has-starts some within = (
    times_till 9,
    starts_till 9,
    record {
      scale = mul-pos some (times-some 9);
      ends = λ score valid p k state. within-times scale (times_till 9) (ends score p k) (within score valid p k state);
      starts = λ score valid. means-till 9 score valid (few-left score valid);
    },
  )

-- ---- and no others

next-is : (phase : Phase) (a b : ℕ) → 1 ≤ a → a ≤ 5 → 1 ≤ b → b ≤ 5 → (phase ≡ Normal → 3 ≤ a + b) → (phase ≡ Crawford → min a b ≡ 1) → (phase ≡ Post → min a b ≡ 1) → IsScore (next_score phase a b)
next-is Normal a b low high least most normal crawford post = by_test (a == 1 || b == 1) refl where
  three : 3 ≤ a + b
  three = normal refl

  by_test : (one : Bool) → (a == 1 || b == 1) ≡ one → IsScore (next_score Normal a b)
  by_test true is = rw is (record {
    needs = record { from = omega arith; in_order = omega arith; to = omega arith };
    fits = record { normal = λ e. cc; crawford = λ e. (grind (arith, nat_tests, three), omega (arith, three)); post = λ e. cc };
  })
  by_test false is = rw is (record {
    needs = record { from = omega arith; in_order = omega arith; to = omega arith };
    fits = record { normal = λ e. grind (arith, nat_tests, three); crawford = λ e. cc; post = λ e. cc };
  })
next-is Crawford a b low high least most normal crawford post = record {
  needs = record { from = omega arith; in_order = omega arith; to = omega arith };
  fits = record { normal = λ e. cc; crawford = λ e. cc; post = λ e. crawford refl };
}
next-is Post a b low high least most normal crawford post = record {
  needs = record { from = omega arith; in_order = omega arith; to = omega arith };
  fits = record { normal = λ e. cc; crawford = λ e. cc; post = λ e. post refl };
}

-- a win that doesn't end the match leads to a score
next-valid : (score : MatchScore) (winner : Side) (won : ℕ) → IsScore score → 1 ≤ won → won < needs score winner → IsScore (after_win score winner won)
next-valid score Near won valid some less =
    next-is score.phase (score.near - won) score.far (omega (arith, less)) (omega (arith, valid.needs.in_order, valid.needs.to)) (omega (arith, valid.needs.from, valid.needs.in_order)) valid.needs.to
    (λ e. let two = valid.fits.normal e in omega (arith, two, valid.needs.in_order, less))
    (λ e. let one = (valid.fits.crawford e).0 in absurd (omega (arith, one, some, less)))
    (λ e. let one = valid.fits.post e in absurd (omega (arith, one, some, less)))
next-valid score Far won valid some less =
    next-is score.phase (score.far - won) score.near (omega (arith, less)) (omega (arith, valid.needs.to)) valid.needs.from (omega (arith, valid.needs.in_order, valid.needs.to))
    (λ e. let two = valid.fits.normal e in omega (arith, two, less))
    (λ e. let one = (valid.fits.crawford e).0 in omega (arith, one, less))
    (λ e. let one = valid.fits.post e in omega (arith, one, less))

once : (x y : ℤ) → x ≡ y → pos 1 *ℤ x ≡ y
once x y h = omega (arith, ints, h)

of-once : (x y : ℤ) → pos 1 *ℤ x ≡ y → x ≡ y
of-once x y h = omega (arith, ints, h)

same-le : (x y : ℤ) → x ≡ y → x ≤ℤ y
same-le x y h = omega (arith, ints, h)

le-both : (x y : ℤ) → x ≤ℤ y → y ≤ℤ x → x ≡ y
le-both x y h k = omega (arith, ints, h, k)

cancelled : (n : ℕ) (x y : ℤ) → 0 < n → pos n *ℤ x ≡ pos n *ℤ y → x ≡ y
cancelled n x y some h = le-both x y (cancel n x y some (same-le _ _ h)) (cancel n y x some (same-le _ _ (sym h)))

module _ (checkers : ℕ) (scored : ScoredMatch) (others : ExactStarts) (is_scored : IsScoredMatch checkers scored) (others_are : IsScoredMatch checkers (record scored { starts = others })) where
  abbrev own : MatchScore → Scoring
  own score = scored_by scored.scale scored.starts score (scored.ends score)

  abbrev other : MatchScore → Scoring
  other score = scored_by scored.scale others score (scored.ends score)

  module _ (score : MatchScore) (valid : IsScore score) (known : (winner : Side) (won : ℕ) → 1 ≤ won → won < needs score winner → others (after_win score winner won) ≡ scored.starts (after_win score winner won)) where
    win-same : (winner : Side) (won : ℕ) → 1 ≤ won → exact_win scored.scale others score winner won ≡ exact_win scored.scale scored.starts score winner won
    win-same winner won some = by_need (nat_le (needs score winner) won) refl where
      by_need : (b : Bool) → nat_le (needs score winner) won ≡ b → exact_win scored.scale others score winner won ≡ exact_win scored.scale scored.starts score winner won
      by_need true is = rw is refl
      by_need false is =
          let less : won < needs score winner = grind (arith, nat_tests) in
          let same = known winner won some less in
          rw is (ap (λ (x : ℤ). cond (stays_near winner (needs score winner - won) (needs score (other_side winner))) x (neg_ℤ x)) same)

    won-same : (k : ℕ) (won : Won) → pos 1 *ℤ (other score).win k won ≡ (own score).win k won
    won-same k Single = once _ _ (win-same (mover_in score k) (1 * cube_in score k) (let some = cube-shown score k in omega (arith, some)))
    won-same k Gammon = once _ _ (win-same (mover_in score k) (2 * cube_in score k) (let some = cube-shown score k in omega (arith, some)))
    won-same k Backgammon = once _ _ (win-same (mover_in score k) (3 * cube_in score k) (let some = cube-shown score k in omega (arith, some)))

    start-same : others score ≡ scored.starts score
    start-same =
        cancelled (30 * 36 ^ scored.turns) (others score) (scored.starts score) (parts-some scored.turns)
        (others_are.starts score valid
        ∙ of-once (start_scored checkers scored.turns score (other score)) (start_scored checkers scored.turns score (own score))
        (times-start 1 checkers scored.turns score (other score) (own score) won-same (λ k. once _ _ (win-same (mover_in score k) (cube_in score k) (cube-shown score k))) (λ p k. once _ _ refl))
        ∙ sym (is_scored.starts score valid))

  same-till : (left : ℕ) (score : MatchScore) → IsScore score → points_left score < left → others score ≡ scored.starts score
  same-till zero score valid less = absurd (omega arith)
  same-till (suc left) score valid less =
      start-same score valid (λ winner won some need. same-till left (after_win score winner won) (next-valid score winner won valid some need) (let fewer = fewer-left score winner won valid some need in omega (arith, fewer, less)))

  pub no-others : (score : MatchScore) → IsScore score → others score ≡ scored.starts score
  no-others score valid = same-till 9 score valid (few-left score valid)
