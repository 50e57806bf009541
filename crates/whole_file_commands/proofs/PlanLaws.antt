-- What a match's plan is true of.
use Rattle.std.proofs.Common.{◌≡◌, ◌<◌, ◌≤◌, ◌+◌, ◌-◌, ◌*◌, ◌∙◌, ◌++◌, ℕ, zero, suc, ℤ, pos, neg_ℤ, ◌≤ℤ◌, Bool, true, false, cond, nat_le, Option, Some, None, IfSome, List, [], ◌∷◌, length, take, ap, refl, sym, subst, arith}
use Rattle.std.proofs.lemmas.Bool.Decides.{nat_tests}
use Rattle.std.proofs.lemmas.Int.{ints}
use Rattle.std.proofs.lemmas.List.{take_all, take_more}
use Rattle.std.proofs.Math.Nat.{le_of_mul-le-mul_left}
use borrow.Author.Differences.{up, down}
use Rattle.directed_fixed.specs.declared.bounds.End.TheVariants.{Lower, Upper}
use Rattle.directed_fixed.specs.Bounds.{Bounds, negated}
use Rattle.cube_actions.specs.declared.side.Side.{Side}
use Rattle.cube_actions.specs.Ladder.{in_order, ladder}
use Rattle.cube_actions.specs.Matches.{after_win, stays_near, value_of_win}
use Rattle.cube_actions.specs.Scores.{MatchScore, needs, other_side}
use Rattle.cube_actions.specs.Stakes.{exactly, nothing}
use Rattle.cube_actions.specs.Starts.{StartPairs, ladder_place, start_pair}
use Rattle.turn_rule.specs.Truth.{Encloses}
use Rattle.turn_rule.proofs.Fractions.{bound-neg}
use Rattle.interval_words.specs.WordLists.{WordList, words_in_list}
use Rattle.match_scores.specs.Openings.{start_over}
use Rattle.match_scores.specs.Ladders.{IsScoredMatch, IsTrueFrom, start_pair_at, score_at, starts_till, with_pair}
use Rattle.match_scores.specs.Payoffs.{ExactStarts, ScoredMatch, exact_win}
use Rattle.match_scores.proofs.OneScore.{LeadDown}
use Rattle.match_scores.proofs.Places.{place-first, score-found}
use Rattle.match_plan.specs.Plans.{value_of_loss}
use Rattle.match_plan.specs.Points.{EnclosesGammonPrices, EnclosesTakePoints, LiesInside, gammon_price, take_point}
use Rattle.match_plan.proofs.Enclosing.{gammon_price-encloses, take_point-encloses}
use Rattle.database_file.specs.FileBases.{FileBase}
use Rattle.whole_file_commands.specs.Plans.{AreInside, EndsLadder, HoldsAt, HoldsInTheEnd, HoldsInside, exact_loss, first_score, planned_starts}

-- ---- values inside their pairs

neg-encloses : (pair : Bounds) (x : ℤ) (over : ℕ) → Encloses pair x over → Encloses (negated pair) (neg_ℤ x) over
neg-encloses pair x over h = record { lower = bound-neg Lower pair.upper x over h.upper; upper = bound-neg Upper pair.lower x over h.lower }

whole-encloses : (over : ℕ) → Encloses (exactly 1) (pos over) over
whole-encloses over = record { lower = omega (arith, ints); upper = omega (arith, ints) }

lies-inside : (pair : Bounds) (x : ℤ) (over : ℕ) → Encloses pair x over → LiesInside over pair x
lies-inside pair x over h = record { from = h.lower; to = h.upper }

-- a pair that encloses something is in order
pair-order : (pair : Bounds) (x : ℤ) (over : ℕ) → 0 < over → Encloses pair x over → pair.lower ≤ℤ pair.upper
pair-order pair x over some h =
    let apart : over * (up pair.lower + down pair.upper) ≤ over * (up pair.upper + down pair.lower) = omega (arith, ints, h.lower, h.upper) in
    omega (arith, ints, le_of_mul-le-mul_left apart some)

module _ (plan : StartPairs) (score : MatchScore) (scale : ℕ) (starts : ExactStarts) (inside : AreInside plan score scale starts) where
  -- what winning so many points is worth is enclosed
  win-inside : (winner : Side) (won : ℕ) → 1 ≤ won → Encloses (value_of_win plan score winner won) (exact_win scale starts score winner won) scale
  win-inside winner won some = by_need (nat_le (needs score winner) won) refl where
    by_need : (b : Bool) → nat_le (needs score winner) won ≡ b → Encloses (value_of_win plan score winner won) (exact_win scale starts score winner won) scale
    by_need true is = rw is (whole-encloses scale)
    by_need false is =
        let less : won < needs score winner = grind (arith, nat_tests) in
        rw is (by_side (stays_near winner (needs score winner - won) (needs score (other_side winner))) (inside winner won some less)) where
          by_side : (b : Bool) → Encloses (start_pair plan (after_win score winner won)) (starts (after_win score winner won)) scale
              → Encloses (cond b (start_pair plan (after_win score winner won)) (negated (start_pair plan (after_win score winner won)))) (cond b (starts (after_win score winner won)) (neg_ℤ (starts (after_win score winner won)))) scale
          by_side true start = start
          by_side false start = neg-encloses _ (starts (after_win score winner won)) scale start

  -- and what losing them is worth
  loss-inside : (side : Side) (lost : ℕ) → 1 ≤ lost → Encloses (value_of_loss plan score side lost) (exact_loss scale starts score side lost) scale
  loss-inside side lost some = neg-encloses (value_of_win plan score (other_side side) lost) (exact_win scale starts score (other_side side) lost) scale (win-inside (other_side side) lost some)

some-then : {X : Type 0} (o : Option X) (P Q : X → Type 0) → IfSome o P → ((x : X) → P x → Q x) → IfSome o Q
some-then None P Q h each = tt
some-then (Some x) P Q h each = each x h

-- ---- all exact starts inside the pairs

pub holds-inside : (plan : StartPairs) → HoldsInside plan
holds-inside plan score side scale starts some inside =
    let lose = loss-inside plan score scale starts inside side 1 (omega arith) in
    let lose_two = loss-inside plan score scale starts inside side 2 (omega arith) in
    let win = win-inside plan score scale starts inside side 1 (omega arith) in
    let win_two = win-inside plan score scale starts inside side 2 (omega arith) in
    let loss = λ (n : ℕ). exact_loss scale starts score side n in
    let gain = λ (n : ℕ). exact_win scale starts score side n in
    let lost = λ (n : ℕ). value_of_loss plan score side n in
    let won = λ (n : ℕ). value_of_win plan score side n in
    record {
      take = some-then (take_point (lost 2) (lost 1) (won 2)) (EnclosesTakePoints (lost 2) (lost 1) (won 2)) _
          (take_point-encloses (lost 2) (lost 1) (won 2) (pair-order _ (loss 2) scale some lose_two) (pair-order _ (loss 1) scale some lose) (pair-order _ (gain 2) scale some win_two))
          (λ found encloses. encloses scale (loss 2) (loss 1) (gain 2) some (lies-inside _ (loss 2) scale lose_two) (lies-inside _ (loss 1) scale lose) (lies-inside _ (gain 2) scale win_two));
      price = some-then (gammon_price (lost 1) (won 1) (won 2)) (EnclosesGammonPrices (lost 1) (won 1) (won 2)) _
          (gammon_price-encloses (lost 1) (won 1) (won 2) (pair-order _ (loss 1) scale some lose) (pair-order _ (gain 1) scale some win) (pair-order _ (gain 2) scale some win_two))
          (λ found encloses. encloses scale (loss 1) (gain 1) (gain 2) some (lies-inside _ (loss 1) scale lose) (lies-inside _ (gain 1) scale win) (lies-inside _ (gain 2) scale win_two));
    }

-- ---- a match that was solved

module _ (down : LeadDown) (checkers enough : ℕ) (plan : StartPairs) (from : 1 ≤ plan.match_length) (to : plan.match_length ≤ 5) (whole : length plan.pairs ≡ length (ladder plan.match_length)) (words : ℕ → WordList) (is_true : IsTrueFrom enough checkers plan words) where
  module _ (scored : ScoredMatch) (is_scored : IsScoredMatch checkers scored) (more : enough ≤ scored.turns) (place : ℕ) (here : place < length (ladder plan.match_length)) where
    abbrev score : MatchScore
    score = score_at plan.match_length place

    listed : ladder_place plan.match_length score < length (ladder plan.match_length)
    listed = omega (arith, place-first plan.match_length place here, here)

    -- the exact starts of the scores that a win leads to lie inside their pairs
    starts-inside : AreInside plan score scored.scale scored.starts
    starts-inside winner won some less =
        let next = after_win score winner won in
        let at = ladder_place plan.match_length next in
        let before : at < ladder_place plan.match_length score = down plan.match_length score winner won from to listed some less in
        let there : at < length (ladder plan.match_length) = omega (arith, before, listed) in
        let enclosed = (is_true scored is_scored more at (omega (arith, there, whole))).1 in
        subst (λ (s : MatchScore). Encloses (start_pair_at plan at) (scored.starts s) scored.scale) (score-found plan.match_length next there) enclosed

    holds-there : (side : Side) → HoldsAt plan score side scored.scale scored.starts
    holds-there side = holds-inside plan score side scored.scale scored.starts is_scored.scale starts-inside

  holds-from : HoldsInTheEnd checkers plan
  holds-from = (enough, λ scored is_scored more place here side. holds-there scored is_scored more place here side)

-- ---- the last file of a match

-- the first score of a match stands last in its ladder
pub place-last : (match_length : ℕ) → 1 ≤ match_length → match_length ≤ 5 → ladder_place match_length (first_score match_length) + 1 ≡ length (ladder match_length)
unfolding ladder in_order
place-last zero from to = absurd (omega arith)
place-last (suc zero) from to = refl
place-last (suc (suc zero)) from to = refl
place-last (suc (suc (suc zero))) from to = refl
place-last (suc (suc (suc (suc zero)))) from to = refl
place-last (suc (suc (suc (suc (suc zero))))) from to = refl
place-last (suc (suc (suc (suc (suc (suc n)))))) from to = absurd (omega arith)

module _ (base : FileBase) (starts : StartPairs) (words : ℕ → WordList) (some_points : 1 ≤ base.head.starts.match_length) (few_points : base.head.starts.match_length ≤ 5) (ends : EndsLadder base starts words) where
  abbrev last : ℕ
  last = length starts.pairs - 1

  to-is : base.head.starts.match_length ≡ starts.match_length
  to-is = ap (λ (s : StartPairs). s.match_length) ends.before

  from : 1 ≤ starts.match_length
  from = subst (λ (n : ℕ). 1 ≤ n) to-is some_points

  to : starts.match_length ≤ 5
  to = subst (λ (n : ℕ). n ≤ 5) to-is few_points

  here : last < length starts.pairs
  here = omega (arith, ends.whole, place-last starts.match_length from to)

  score-is : first_score base.head.starts.match_length ≡ score_at starts.match_length last
  score-is =
      let first = first_score starts.match_length in
      let place : ladder_place starts.match_length first ≡ last = omega (arith, ends.whole, place-last starts.match_length from to) in
      ap first_score to-is ∙ sym (score-found starts.match_length first (omega (arith, place-last starts.match_length from to))) ∙ ap (score_at starts.match_length) place

  pair-is : start_over base.head.checkers (words_in_list base.words) (first_score base.head.starts.match_length) ≡ start_pair_at starts last
  pair-is =
      ap (λ (w : WordList). start_over base.head.checkers (words_in_list w) (first_score base.head.starts.match_length)) ends.last
      ∙ ap (start_over base.head.checkers (words_in_list (words last))) score-is
      ∙ sym (ends.solved.solved last here).start

  pairs-are : take last starts.pairs ++ start_pair_at starts last ∷ [] ≡ starts.pairs
  pairs-are = sym (take_more starts.pairs last nothing here) ∙ take_all (last + 1) starts.pairs (omega (arith, here))

  -- the planned starts are those of the match
  planned-are : planned_starts base ≡ starts
  planned-are =
      ap (λ (s : StartPairs). with_pair s (start_over base.head.checkers (words_in_list base.words) (first_score base.head.starts.match_length))) ends.before
      ∙ ap (with_pair (starts_till starts last)) pair-is
      ∙ ap (λ (pairs : List Bounds). record starts { pairs = pairs }) pairs-are

  pub planned-hold : LeadDown → HoldsInTheEnd base.head.checkers (planned_starts base)
  planned-hold down =
      subst (HoldsInTheEnd base.head.checkers) (sym planned-are)
      (holds-from down base.head.checkers ends.solved.true_from.0 starts from to ends.whole words ends.solved.true_from.1)
