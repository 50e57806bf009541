-- Where start pairs enclose the exact starts, the stakes of a score enclose the exact payoffs of its game.
use Rattle.std.proofs.Common.{◌≡◌, ◌<◌, ◌≤◌, ◌-◌, ◌*◌, ◌^◌, ◌∙◌, ℕ, zero, suc, ℤ, pos, neg_ℤ, ◌*ℤ◌, Bool, true, false, cond, nat_le, List, [], ◌∷◌, length, map, get_or, slice_index_or, Option, Some, None, IfSome, Contains, ◌⊎◌, inl, inr, ap, refl, subst, arith}
use Rattle.std.proofs.lemmas.Bool.{cases_lt}
use Rattle.std.proofs.lemmas.Bool.Decides.{nat_tests}
use Rattle.std.proofs.lemmas.Int.{ints}
use Rattle.std.proofs.lemmas.List.{get_or-map, length-map}
use Rattle.std.proofs.lemmas.List.Folds.{list_all_at}
use Rattle.std.specs.List.{list_all}
use Rattle.move_rules.specs.Listing.{Among}
use Rattle.move_rules.proofs.Members.{filter-cases, Among-Contains}
use Rattle.position_rank.specs.Placement.{Placement, swap}
use Rattle.move_rules.specs.declared.payoff.Won.{Won}
use Rattle.move_rules.specs.declared.payoff.Won.TheVariants.{Single, Gammon, Backgammon}
use Rattle.directed_fixed.specs.declared.bounds.End.TheVariants.{Lower, Upper}
use Rattle.directed_fixed.specs.Bounds.{Bounds, negated}
use Rattle.std.specs.Int.{int_max}
use Rattle.std.specs.Option.{option_map}
use Rattle.roll_table.specs.Rolls.{all_rolls}
use Rattle.move_rules.specs.Payoff.{points}
use Rattle.cube_actions.specs.declared.kind.Kind.{Kind}
use Rattle.cube_actions.specs.declared.kind.Double.{Double}
use Rattle.cube_actions.specs.declared.kind.Taken.{Taken}
use Rattle.cube_actions.specs.declared.side.Side.{Side}
use Rattle.cube_actions.specs.declared.side.Side.TheVariants.{Near}
use Rattle.cube_actions.specs.Scores.{MatchScore, IsScore, needs, other_side}
use Rattle.cube_actions.specs.Stakes.{Terms, exactly, no_kind, kind_at}
use Rattle.cube_actions.specs.Starts.{StartPairs, start_pair}
use Rattle.cube_actions.specs.MatchKinds.{match_kinds, every_kind, kind_may_double, can_come}
use Rattle.cube_actions.specs.Matches.{after_win, stays_near, value_of_win, match_kind, terms_of, answers_in}
use Rattle.turn_rule.specs.Games.{game_of}
use Rattle.turn_rule.specs.Turn.{bound_words, win, if_won, sum_over, least}
use Rattle.turn_rule.specs.Exact.{Scoring, Values, left_with, rolled, after_double, better_of, before_turn, exact}
use Rattle.turn_rule.specs.States.{IsStateOf, pair_of}
use Rattle.turn_rule.specs.Truth.{Encloses, IsScoring}
use Rattle.turn_rule.proofs.Fractions.{bound-neg}
use Rattle.match_scores.specs.Payoffs.{ScoredMatch, exact_win, mover_in, cube_in, match_scoring}
use Rattle.match_scores.specs.Ladders.{IsScoredMatch}

-- ---- bounds

neg-encloses : (pair : Bounds) (x : ℤ) (over : ℕ) → Encloses pair x over → Encloses (negated pair) (neg_ℤ x) over
neg-encloses pair x over h = record { lower = bound-neg Lower pair.upper x over h.upper; upper = bound-neg Upper pair.lower x over h.lower }

whole-encloses : (over : ℕ) → Encloses (exactly 1) (pos over) over
whole-encloses over = record { lower = omega (arith, ints); upper = omega (arith, ints) }

-- ---- the next game

module _ (scored : ScoredMatch) (score : MatchScore) (starts : StartPairs)
    (known : (winner : Side) (won : ℕ) → 1 ≤ won → won < needs score winner → Encloses (start_pair starts (after_win score winner won)) (scored.starts (after_win score winner won)) scored.scale) where
  -- what winning so many points is worth is enclosed
  pub win-encloses : (winner : Side) (won : ℕ) → 1 ≤ won → Encloses (value_of_win starts score winner won) (exact_win scored.scale scored.starts score winner won) scored.scale
  win-encloses winner won some = by_need (nat_le (needs score winner) won) refl where
    by_need : (b : Bool) → nat_le (needs score winner) won ≡ b → Encloses (value_of_win starts score winner won) (exact_win scored.scale scored.starts score winner won) scored.scale
    by_need true is = rw is (whole-encloses scored.scale)
    by_need false is =
        let less : won < needs score winner = grind (arith, nat_tests) in
        rw is (by_side (stays_near winner (needs score winner - won) (needs score (other_side winner))) (known winner won some less)) where
          by_side : (b : Bool) → Encloses (start_pair starts (after_win score winner won)) (scored.starts (after_win score winner won)) scored.scale
              → Encloses (cond b (start_pair starts (after_win score winner won)) (negated (start_pair starts (after_win score winner won)))) (cond b (scored.starts (after_win score winner won)) (neg_ℤ (scored.starts (after_win score winner won)))) scored.scale
          by_side true start = start
          by_side false start = neg-encloses _ (scored.starts (after_win score winner won)) scored.scale start

-- ---- the kinds of a score

either : (b : Bool) → (b ≡ true) ⊎ (b ≡ false)
either true = inl refl
either false = inr refl

-- what all elements pass, each of them passes
all-passed : {X : Type 0} (xs : List X) (p : X → Bool) → list_all p xs ≡ true → (x : X) → Among x xs → p x ≡ true
all-passed xs p all x m =
    let at : Contains xs x = Among-Contains x xs m in
    let here : p (get_or xs at.0 x) ≡ true = elim (either (p (get_or xs at.0 x))) [ inl h ↦ h | inr h ↦ (let e = list_all_at p xs at.0 x at.1 h in cc) ] in
    rw at.2 at here

among-at : {X : Type 0} (xs : List X) (k : ℕ) (d : X) → k < length xs → Among (get_or xs k d) xs
among-at [] k d here = absurd (omega arith)
among-at (x ∷ xs) zero d here = inl refl
among-at (x ∷ xs) (suc k) d here = inr (among-at xs k d (omega arith))

le-true : (n : ℕ) → nat_le 1 n ≡ true → 1 ≤ n
le-true n h = grind (arith, nat_tests)

-- the cube shows a point or more
pub cube-some : (score : MatchScore) (k : ℕ) → k < length (match_kinds score) → 1 ≤ cube_in score k
unfolding match_kinds
cube-some score k here =
    let kept = filter-cases (can_come score) _ every_kind (among-at (match_kinds score) k _ here) in
    let some = all-passed every_kind (λ kind. nat_le 1 kind.cube) refl _ kept.0 in
    le-true (cube_in score k) some

-- the kind of a number
pub kind-at : (score : MatchScore) (starts : StartPairs) (k : ℕ) → k < length (match_kinds score) → kind_at (terms_of score starts) k ≡ match_kind starts score (get_or (match_kinds score) k (record { mover = Near; cube = 1; owner = None }))
kind-at score starts k here = get_or-map (match_kind starts score) (match_kinds score) k (record { mover = Near; cube = 1; owner = None }) no_kind here

pub kinds-many : (score : MatchScore) (starts : StartPairs) → length (terms_of score starts).kinds ≡ length (match_kinds score)
kinds-many score starts = length-map (match_kinds score) (match_kind starts score)

-- ---- how the game is scored

module _ (checkers : ℕ) (scored : ScoredMatch) (is_scored : IsScoredMatch checkers scored) (score : MatchScore) (starts : StartPairs) (valid : IsScore score)
    (known : (winner : Side) (won : ℕ) → 1 ≤ won → won < needs score winner → Encloses (start_pair starts (after_win score winner won)) (scored.starts (after_win score winner won)) scored.scale) where
  abbrev scoring : Scoring
  scoring = match_scoring scored score

  won-encloses : (winner : Side) (won : ℕ) → 1 ≤ won → Encloses (value_of_win starts score winner won) (exact_win scoring.scale scored.starts score winner won) scoring.scale
  won-encloses = win-encloses scored score starts known

  wins-within : (k : ℕ) (won : Won) → k < length (match_kinds score) → Encloses (win (kind_at (terms_of score starts) k) won) (scoring.win k won) scoring.scale
  wins-within k won here = rw (kind-at score starts k here) (by_won won) where
    some : 1 ≤ cube_in score k
    some = cube-some score k here

    by_won : (won : Won) → Encloses (win (match_kind starts score (get_or (match_kinds score) k (record { mover = Near; cube = 1; owner = None }))) won) (scoring.win k won) scoring.scale
    by_won Single = won-encloses (mover_in score k) (1 * cube_in score k) (omega (arith, some))
    by_won Gammon = won-encloses (mover_in score k) (2 * cube_in score k) (omega (arith, some))
    by_won Backgammon = won-encloses (mover_in score k) (3 * cube_in score k) (omega (arith, some))

  passes-within : (k : ℕ) → k < length (match_kinds score) → IfSome (kind_at (terms_of score starts) k).double (λ double. Encloses double.pass (scoring.pass k) scoring.scale)
  passes-within k here = rw (kind-at score starts k here) (if-some (kind_may_double score (get_or (match_kinds score) k (record { mover = Near; cube = 1; owner = None }))) _ (won-encloses (mover_in score k) (cube_in score k) (cube-some score k here))) where
    if-some : (may : Bool) (double : Double) → Encloses double.pass (scoring.pass k) scoring.scale → IfSome (cond may (Some double) None) (λ double. Encloses double.pass (scoring.pass k) scoring.scale)
    if-some true double h = h
    if-some false double h = tt

  ends-within : (p : Placement) (k : ℕ) → IsStateOf checkers (length (match_kinds score)) p k → Encloses (pair_of (bound_words (terms_of score starts)) p k) (scored.ends score p k) scoring.scale
  ends-within p k state =
      let h = is_scored.ends score valid p k state in
      record { lower = omega (arith, ints, h.from); upper = omega (arith, ints, h.to) }

  -- the exact payoffs and the end scores lie within the stakes of the starts
  pub scored-within : IsScoring (game_of checkers (terms_of score starts)) scoring
  scored-within = record {
    scale = is_scored.scale;
    wins = λ k won here. wins-within k won (rw kinds-many at here);
    passes = λ k here. passes-within k (rw kinds-many at here);
    unfinished = λ p k state. ends-within p k (subst (λ (n : ℕ). IsStateOf checkers n p k) (kinds-many score starts) state);
  }

-- ---- the exact values don't ask what the scores after it are worth

pub left-same : (a b : Terms) → ((k : ℕ) → (kind_at a k).next ≡ (kind_at b k).next) → (scoring : Scoring) (turns : ℕ) (v w : Values) → ((p : Placement) (k : ℕ) → v p k ≡ w p k) → (k : ℕ) (q : Placement) → left_with a scoring turns v k q ≡ left_with b scoring turns w k q
left-same a b next scoring turns v w same k q = ap (λ (x : ℤ). if_won (points q) (λ won. pos (36 ^ turns) *ℤ scoring.win k won) (neg_ℤ x)) (same (swap q) (kind_at a k).next ∙ ap (w (swap q)) (next k))

pub rolled-same : (a b : Terms) → ((k : ℕ) → (kind_at a k).next ≡ (kind_at b k).next) → (scoring : Scoring) (turns : ℕ) (v w : Values) → ((p : Placement) (k : ℕ) → v p k ≡ w p k) → (p : Placement) (k : ℕ) → rolled a scoring turns v p k ≡ rolled b scoring turns w p k
rolled-same a b next scoring turns v w same p k = λ i. sum_over all_rolls (λ q. left-same a b next scoring turns v w same k q i) p

pub doubled-same : (a b : Terms) → ((k : ℕ) → (kind_at a k).next ≡ (kind_at b k).next) → (scoring : Scoring) (turns : ℕ) (v w : Values) → ((p : Placement) (k : ℕ) → v p k ≡ w p k) → (p : Placement) (k : ℕ) (c d : Double) → c.answers.items ≡ d.answers.items → after_double a scoring turns v p k c ≡ after_double b scoring turns w p k d
doubled-same a b next scoring turns v w same p k c d answers = λ i. least (pos (36 ^ suc turns) *ℤ scoring.pass k) (map (λ (taken : Taken). pos taken.factor *ℤ rolled-same a b next scoring turns v w same p taken.kind i) (answers i))

better-same : (a b : Terms) → ((k : ℕ) → (kind_at a k).next ≡ (kind_at b k).next) → (scoring : Scoring) (turns : ℕ) (v w : Values) → ((p : Placement) (k : ℕ) → v p k ≡ w p k) → (p : Placement) (k : ℕ) (c d : Option Double) → option_map (λ (double : Double). double.answers.items) c ≡ option_map (λ (double : Double). double.answers.items) d → (x y : ℤ) → x ≡ y → better_of a scoring turns v p k x c ≡ better_of b scoring turns w p k y d
better-same a b next scoring turns v w same p k None None answers x y h = h
better-same a b next scoring turns v w same p k None (Some d) answers x y h = cc
better-same a b next scoring turns v w same p k (Some c) None answers x y h = cc
better-same a b next scoring turns v w same p k (Some c) (Some d) answers x y h =
    let items : c.answers.items ≡ d.answers.items = cc in
    let doubles = doubled-same a b next scoring turns v w same p k c d items in
    λ i. int_max (h i) (doubles i)

before-same : (a b : Terms) → ((k : ℕ) → (kind_at a k).next ≡ (kind_at b k).next) → ((k : ℕ) → answers_in (kind_at a k) ≡ answers_in (kind_at b k)) → (scoring : Scoring) (turns : ℕ) (v w : Values) → ((p : Placement) (k : ℕ) → v p k ≡ w p k) → (p : Placement) (k : ℕ) → before_turn a scoring turns v p k ≡ before_turn b scoring turns w p k
before-same a b next answers scoring turns v w same p k =
    better-same a b next scoring turns v w same p k (kind_at a k).double (kind_at b k).double (answers k) _ _ (rolled-same a b next scoring turns v w same p k)

exact-same : (a b : Terms) → ((k : ℕ) → (kind_at a k).next ≡ (kind_at b k).next) → ((k : ℕ) → answers_in (kind_at a k) ≡ answers_in (kind_at b k)) → (scoring : Scoring) (turns : ℕ) (p : Placement) (k : ℕ) → exact a scoring turns p k ≡ exact b scoring turns p k
unfolding exact
exact-same a b next answers scoring zero p k = refl
exact-same a b next answers scoring (suc turns) p k =
    before-same a b next answers scoring turns (exact a scoring turns) (exact b scoring turns) (exact-same a b next answers scoring turns) p k

option-same : (may : Bool) (c d : Double) → c.answers.items ≡ d.answers.items → option_map (λ (double : Double). double.answers.items) (cond may (Some c) None) ≡ option_map (λ (double : Double). double.answers.items) (cond may (Some d) None)
option-same true c d h = λ i. Some (h i)
option-same false c d h = refl

module _ (score : MatchScore) (starts others : StartPairs) where
  past_last : (kinds : List Kind) (k : ℕ) → length kinds ≤ k → slice_index_or kinds k no_kind ≡ no_kind
  past_last [] k h = refl
  past_last (x ∷ xs) zero h = absurd (omega arith)
  past_last (x ∷ xs) (suc k) h = past_last xs k (omega arith)

  -- the next kind and the answers to a double are the same, whatever the scores after it are worth
  pub next-same : (k : ℕ) → (kind_at (terms_of score starts) k).next ≡ (kind_at (terms_of score others) k).next
  next-same k = elim (cases_lt k (length (match_kinds score))) [
    | inl here ↦ rw (kind-at score starts k here, kind-at score others k here) refl
    | inr past ↦ rw (past_last (terms_of score starts).kinds k (rw kinds-many past), past_last (terms_of score others).kinds k (rw kinds-many past)) refl
  ]

  pub answers-same : (k : ℕ) → answers_in (kind_at (terms_of score starts) k) ≡ answers_in (kind_at (terms_of score others) k)
  answers-same k = elim (cases_lt k (length (match_kinds score))) [
    | inl here ↦ rw (kind-at score starts k here, kind-at score others k here) (option-same (kind_may_double score (get_or (match_kinds score) k (record { mover = Near; cube = 1; owner = None }))) _ _ refl)
    | inr past ↦ rw (past_last (terms_of score starts).kinds k (rw kinds-many past), past_last (terms_of score others).kinds k (rw kinds-many past)) refl
  ]

  pub values-same : (scoring : Scoring) (turns : ℕ) (p : Placement) (k : ℕ) → exact (terms_of score starts) scoring turns p k ≡ exact (terms_of score others) scoring turns p k
  values-same = exact-same (terms_of score starts) (terms_of score others) next-same answers-same
