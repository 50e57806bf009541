-- One play is advised: the best of the legal sequences, and of equal ones the first.
use Rattle.std.proofs.Common.{◌≡◌, ◌<◌, ◌∙◌, ℕ, ℤ, ◌<ℤ◌, Bool, true, false, cond, eqb, ltb, ◌&&◌, ◌||◌, List, [], ◌∷◌, length, Option, Some, ◌⊎◌, inl, inr, refl, ap, sym, subst, arith}
use Rattle.std.specs.Prelude.{int_lt}
use Rattle.std.specs.List.{remove}
use Rattle.std.proofs.lemmas.Int.{ints}
use Rattle.std.proofs.lemmas.Bool.{cases_order, false≢true}
use Rattle.std.proofs.lemmas.Bool.Decides.{nat_tests}
use Rattle.position_rank.specs.Placement.{Placement}
use Rattle.roll_table.specs.Rolls.{Dice, dice_of}
use Rattle.move_rules.specs.declared.play.Move.{Move}
use Rattle.move_rules.specs.Ends.{Line, legal_lines}
use Rattle.move_rules.specs.Listing.{Among}
use Rattle.move_rules.specs.Order.{PlayComesBefore}
use Rattle.move_rules.specs.Sequences.{IsSequence, IsLegal, IsLegalEnd}
use Rattle.move_rules.proofs.EndsExact.{after_move-complete, legal_lines-complete, legal_lines-sound}
use Rattle.move_rules.proofs.SomeEnd.{some_legal_end}
use Rattle.directed_fixed.specs.Bounds.{Bounds}
use Rattle.cube_actions.specs.Stakes.{Terms, kind_at}
use Rattle.turn_rule.specs.Turn.{Words}
use Rattle.play_analyser.specs.Rankings.{IsBetter}
use Rattle.play_analyser.specs.Regrets.{play_pair}
use Rattle.best_reply.specs.Advised.{IsAdvised, advised, best_end, best_line, comes_before, is_ahead, is_better}

-- ---- which pair is better

ordered : (x y : ℤ) → (x <ℤ y) ⊎ ((x ≡ y) ⊎ (y <ℤ x))
ordered x y = grind (arith, ints)

less-trans : (x y z : ℤ) → x <ℤ y → y <ℤ z → x <ℤ z
less-trans x y z h k = omega (arith, ints)

never-less : (x : ℤ) → x <ℤ x → ⊥
never-less x h = omega (arith, ints)

same_pair : (a b : Bounds) → a.lower ≡ b.lower → a.upper ≡ b.upper → a ≡ b
same_pair a b low high =
    let with_lower : ℤ → Bounds = λ z. record { lower = z; upper = a.upper } in
    let with_upper : ℤ → Bounds = λ z. record { lower = b.lower; upper = z } in
    ap with_lower low ∙ ap with_upper high

compare : (a b : Bounds) → IsBetter a b ⊎ ((a ≡ b) ⊎ IsBetter b a)
compare a b = elim (ordered a.lower b.lower) [
  | inl less ↦ inr (inr (inl less))
  | inr more ↦ elim more [
    | inl same ↦ elim (ordered a.upper b.upper) [
      | inl less ↦ inr (inr (inr (sym same, less)))
      | inr most ↦ elim most [ inl equal ↦ inr (inl (same_pair a b same equal)) | inr greater ↦ inl (inr (same, greater)) ]
    ]
    | inr greater ↦ inl (inl greater)
  ]
]

pub better-trans : (a b c : Bounds) → IsBetter a b → IsBetter b c → IsBetter a c
better-trans a b c (inl h) (inl k) = inl (less-trans _ _ _ k h)
better-trans a b c (inl h) (inr k) = inl (subst (λ (x : ℤ). x <ℤ a.lower) k.0 h)
better-trans a b c (inr h) (inl k) = inl (subst (λ (x : ℤ). c.lower <ℤ x) (sym h.0) k)
better-trans a b c (inr h) (inr k) = inr (h.0 ∙ k.0, less-trans _ _ _ k.1 h.1)

pub never-better : (a : Bounds) → IsBetter a a → ⊥
never-better a (inl h) = never-less _ h
never-better a (inr h) = never-less _ h.1

-- better than one that isn't worse than another
pub better-then : (a b c : Bounds) → IsBetter a b → (IsBetter c b → ⊥) → IsBetter a c
better-then a b c h none = elim (compare b c) [
  | inl better ↦ better-trans a b c h better
  | inr rest ↦ elim rest [ inl same ↦ subst (IsBetter a) same h | inr worse ↦ absurd (none worse) ]
]

-- not worse than one that is better than another
better-from : (a b c : Bounds) → (IsBetter b a → ⊥) → IsBetter b c → IsBetter a c
better-from a b c none h = elim (compare a b) [
  | inl better ↦ better-trans a b c better h
  | inr rest ↦ elim rest [ inl same ↦ subst (λ (x : Bounds). IsBetter x c) (sym same) h | inr worse ↦ absurd (none worse) ]
]

by_test : (al au bl bu : ℤ) → cond (int_lt bl al) true (cond (int_lt al bl) false (int_lt bu au)) ≡ true → (bl <ℤ al) ⊎ ((al ≡ bl) × (bu <ℤ au))
by_test al au bl bu h = grind (arith, ints)

to_test : (al au bl bu : ℤ) → (bl <ℤ al) ⊎ ((al ≡ bl) × (bu <ℤ au)) → cond (int_lt bl al) true (cond (int_lt al bl) false (int_lt bu au)) ≡ true
to_test al au bl bu h = grind (arith, ints)

better-yes : (a b : Bounds) → is_better a b ≡ true → IsBetter a b
better-yes a b h = by_test a.lower a.upper b.lower b.upper h

yes-better : (a b : Bounds) → IsBetter a b → is_better a b ≡ true
yes-better a b h = to_test a.lower a.upper b.lower b.upper h

-- ---- which sequence comes first

pub before-trans : (a b c : List Move) → PlayComesBefore a b → PlayComesBefore b c → PlayComesBefore a c
before-trans [] b c h k = absurd h
before-trans (x ∷ a) [] c h k = absurd h
before-trans (x ∷ a) (y ∷ b) [] h k = absurd k
before-trans (x ∷ a) (y ∷ b) (z ∷ c) (inl h) (inl k) = inl (omega (arith, h, k))
before-trans (x ∷ a) (y ∷ b) (z ∷ c) (inl h) (inr (inl k)) = inl (omega (arith, h, k.0))
before-trans (x ∷ a) (y ∷ b) (z ∷ c) (inl h) (inr (inr k)) = inl (omega (arith, h, ap (λ (m : Move). m.die) k.0))
before-trans (x ∷ a) (y ∷ b) (z ∷ c) (inr (inl h)) (inl k) = inl (omega (arith, h.0, k))
before-trans (x ∷ a) (y ∷ b) (z ∷ c) (inr (inl h)) (inr (inl k)) = inr (inl (h.0 ∙ k.0, omega (arith, h.1, k.1)))
before-trans (x ∷ a) (y ∷ b) (z ∷ c) (inr (inl h)) (inr (inr k)) = inr (inl (h.0 ∙ ap (λ (m : Move). m.die) k.0, omega (arith, h.1, ap (λ (m : Move). m.from) k.0)))
before-trans (x ∷ a) (y ∷ b) (z ∷ c) (inr (inr h)) (inl k) = inl (omega (arith, k, ap (λ (m : Move). m.die) h.0))
before-trans (x ∷ a) (y ∷ b) (z ∷ c) (inr (inr h)) (inr (inl k)) = inr (inl (ap (λ (m : Move). m.die) h.0 ∙ k.0, omega (arith, k.1, ap (λ (m : Move). m.from) h.0)))
before-trans (x ∷ a) (y ∷ b) (z ∷ c) (inr (inr h)) (inr (inr k)) = inr (inr (h.0 ∙ k.0, before-trans a b c h.1 k.1))

never-before : (a : List Move) → PlayComesBefore a a → ⊥
never-before [] h = h
never-before (x ∷ a) (inl h) = omega (arith, h)
never-before (x ∷ a) (inr (inl h)) = omega (arith, h.1)
never-before (x ∷ a) (inr (inr h)) = never-before a h.1

same_move : (x y : Move) → x.from ≡ y.from → x.die ≡ y.die → x ≡ y
same_move x y from die =
    let with_from : ℕ → Move = λ n. record { from = n; die = x.die } in
    let with_die : ℕ → Move = λ n. record { from = y.from; die = n } in
    ap with_from from ∙ ap with_die die

-- of two sequences of as many moves one comes first, or they are the same
which-first : (a b : List Move) → length a ≡ length b → PlayComesBefore a b ⊎ ((a ≡ b) ⊎ PlayComesBefore b a)
which-first [] [] many = inr (inl refl)
which-first [] (y ∷ b) many = absurd (omega arith)
which-first (x ∷ a) [] many = absurd (omega arith)
which-first (x ∷ a) (y ∷ b) many = elim (cases_order x.die y.die) [
  | inl die ↦ elim (cases_order x.from y.from) [
    | inl from ↦ (
        let move = same_move x y from die in
        elim (which-first a b (omega (arith, many))) [
          | inl first ↦ inl (inr (inr (move, first)))
          | inr rest ↦ elim rest [
            | inl same ↦ inr (inl (ap (λ (m : Move). m ∷ a) move ∙ ap (λ (ms : List Move). y ∷ ms) same))
            | inr last ↦ inr (inr (inr (inr (sym move, last))))
          ]
        ])
    | inr apart ↦ elim apart [ inl less ↦ inr (inr (inr (inl (sym die, less)))) | inr more ↦ inl (inr (inl (die, more))) ]
  ]
  | inr apart ↦ elim apart [ inl less ↦ inr (inr (inl less)) | inr more ↦ inl (inl more) ]
]

test_parts : (xd xf yd yf : ℕ) (t : Bool) → (ltb yd xd || (eqb xd yd && (ltb yf xf || (eqb xf yf && t)))) ≡ true → (yd < xd) ⊎ (((xd ≡ yd) × (yf < xf)) ⊎ ((xf ≡ yf) × (xd ≡ yd) × (t ≡ true)))
test_parts xd xf yd yf t h = grind (arith, nat_tests)

parts_test : (xd xf yd yf : ℕ) (t : Bool) → (yd < xd) ⊎ (((xd ≡ yd) × (yf < xf)) ⊎ ((xf ≡ yf) × (xd ≡ yd) × (t ≡ true))) → (ltb yd xd || (eqb xd yd && (ltb yf xf || (eqb xf yf && t)))) ≡ true
parts_test xd xf yd yf t h = grind (arith, nat_tests)

before-yes : (a b : List Move) → comes_before a b ≡ true → PlayComesBefore a b
before-yes [] b h = absurd (false≢true h)
before-yes (x ∷ a) [] h = absurd (false≢true h)
before-yes (x ∷ a) (y ∷ b) h = elim (test_parts x.die x.from y.die y.from (comes_before a b) h) [
  | inl die ↦ inl die
  | inr rest ↦ elim rest [ inl from ↦ inr (inl from) | inr later ↦ inr (inr (same_move x y later.0 later.1, before-yes a b later.2)) ]
]

yes-before : (a b : List Move) → PlayComesBefore a b → comes_before a b ≡ true
yes-before [] b h = absurd h
yes-before (x ∷ a) [] h = absurd h
yes-before (x ∷ a) (y ∷ b) (inl h) = parts_test x.die x.from y.die y.from (comes_before a b) (inl h)
yes-before (x ∷ a) (y ∷ b) (inr (inl h)) = parts_test x.die x.from y.die y.from (comes_before a b) (inr (inl h))
yes-before (x ∷ a) (y ∷ b) (inr (inr h)) =
    parts_test x.die x.from y.die y.from (comes_before a b) (inr (inr (ap (λ (m : Move). m.from) h.0, ap (λ (m : Move). m.die) h.0, yes-before a b h.1)))

-- ---- which sequence is ahead

three_tests : (b c d : Bool) → cond b true (cond c false d) ≡ true → (b ≡ true) ⊎ ((c ≡ false) × (d ≡ true))
three_tests true c d h = inl refl
three_tests false true d h = absurd (false≢true h)
three_tests false false d h = inr (refl, h)

tests_three : (b c d : Bool) → (b ≡ true) ⊎ ((c ≡ false) × (d ≡ true)) → cond b true (cond c false d) ≡ true
tests_three true c d h = refl
tests_three false c d (inl h) = absurd (false≢true h)
tests_three false c d (inr h) = rw h.0 h.1

is_false : (b : Bool) → (b ≡ true → ⊥) → b ≡ false
is_false true h = absurd (h refl)
is_false false h = refl

module _ (left : Placement → Bounds) where
  -- it leaves more, or the other doesn't and comes later
  abbrev pub Ahead : Line → Line → Type 0
  Ahead one another = IsBetter (left one.1) (left another.1) ⊎ ((IsBetter (left another.1) (left one.1) → ⊥) × PlayComesBefore one.0 another.0)

  ahead-yes : (one another : Line) → is_ahead left one another ≡ true → Ahead one another
  ahead-yes one another h = elim (three_tests (is_better (left one.1) (left another.1)) (is_better (left another.1) (left one.1)) (comes_before one.0 another.0) h) [
    | inl better ↦ inl (better-yes _ _ better)
    | inr rest ↦ inr (λ worse. false≢true (sym rest.0 ∙ yes-better _ _ worse), before-yes _ _ rest.1)
  ]

  yes-ahead : (one another : Line) → Ahead one another → is_ahead left one another ≡ true
  yes-ahead one another (inl h) = tests_three (is_better (left one.1) (left another.1)) (is_better (left another.1) (left one.1)) (comes_before one.0 another.0) (inl (yes-better _ _ h))
  yes-ahead one another (inr h) =
      tests_three (is_better (left one.1) (left another.1)) (is_better (left another.1) (left one.1)) (comes_before one.0 another.0)
      (inr (is_false _ (λ e. h.0 (better-yes _ _ e)), yes-before _ _ h.1))

  ahead-trans : (a b c : Line) → Ahead a b → Ahead b c → Ahead a c
  ahead-trans a b c (inl h) (inl k) = inl (better-trans _ _ _ h k)
  ahead-trans a b c (inl h) (inr k) = inl (better-then _ _ _ h k.0)
  ahead-trans a b c (inr h) (inl k) = inl (better-from _ _ _ h.0 k)
  ahead-trans a b c (inr h) (inr k) = inr (λ worse. k.0 (better-then _ _ _ worse h.0), before-trans a.0 b.0 c.0 h.1 k.1)

  never-ahead : (a : Line) → Ahead a a → ⊥
  never-ahead a (inl h) = never-better _ h
  never-ahead a (inr h) = never-before a.0 h.1

  abbrev better_of : Line → Line → Line
  better_of best line = cond (is_ahead left line best) line best

  not-ahead : (best line y : Line) → (Ahead y best → ⊥) → Ahead y (better_of best line) → ⊥
  not-ahead best line y none = by (is_ahead left line best) refl where
    by : (b : Bool) → is_ahead left line best ≡ b → Ahead y (cond b line best) → ⊥
    by true e h = none (ahead-trans y line best h (ahead-yes line best e))
    by false e h = none h

  new-not_ahead : (best line : Line) → Ahead line (better_of best line) → ⊥
  new-not_ahead best line = by (is_ahead left line best) refl where
    by : (b : Bool) → is_ahead left line best ≡ b → Ahead line (cond b line best) → ⊥
    by true e h = never-ahead line h
    by false e h = false≢true (sym e ∙ yes-ahead line best h)

  -- nothing that isn't ahead of the best so far is ahead of the best in the end
  still-not : (best : Line) (lines : List Line) (y : Line) → (Ahead y best → ⊥) → Ahead y (best_line left best lines) → ⊥
  still-not best [] y none h = none h
  still-not best (line ∷ lines) y none h = still-not (better_of best line) lines y (not-ahead best line y none) h

  none-ahead : (best : Line) (lines : List Line) (y : Line) → Among y (best ∷ lines) → Ahead y (best_line left best lines) → ⊥
  none-ahead best lines y (inl is) h = still-not best lines y (λ a. never-ahead best (subst (λ (x : Line). Ahead x best) is a)) h
  none-ahead best [] y (inr m) h = absurd m
  none-ahead best (line ∷ lines) y (inr (inl is)) h =
      still-not (better_of best line) lines y (λ a. new-not_ahead best line (subst (λ (x : Line). Ahead x (better_of best line)) is a)) h
  none-ahead best (line ∷ lines) y (inr (inr m)) h = none-ahead (better_of best line) lines y (inr m) h

  one_of : (b : Bool) (best line : Line) (lines : List Line) (x : Line) → Among x (cond b line best ∷ lines) → Among x (best ∷ line ∷ lines)
  one_of true best line lines x h = inr h
  one_of false best line lines x (inl is) = inl is
  one_of false best line lines x (inr m) = inr (inr m)

  best-among : (best : Line) (lines : List Line) → Among (best_line left best lines) (best ∷ lines)
  best-among best [] = inl refl
  best-among best (line ∷ lines) = one_of (is_ahead left line best) best line lines _ (best-among (better_of best line) lines)

-- ---- a sequence leads to one end

some-same : (q r : Placement) → ◌≡◌ {A = Option Placement} (Some q) (Some r) → q ≡ r
some-same q r e = grind arith

pub one-end : (moves : List Move) (p : Placement) (dice others : List ℕ) (q r : Placement) → IsSequence p dice moves q → IsSequence p others moves r → q ≡ r
one-end [] p dice others q r h k = h ∙ sym k
one-end (move ∷ moves) p dice others q r (i, e, next, made, rest) (j, d, after, moved, remains) =
    let same : next ≡ after = some-same next after (sym (after_move-complete p move.die move.from next made) ∙ after_move-complete p move.die move.from after moved) in
    one-end moves after (remove dice i) (remove others j) q r (subst (λ (x : Placement). IsSequence x (remove dice i) moves q) same rest) remains

-- ---- the advised play

module _ (stakes : Terms) (u : Words) (p : Placement) (k : ℕ) (roll : Dice) where
  abbrev left_by : Placement → Bounds
  left_by = play_pair (kind_at stakes k) u

  -- the best of the legal sequences
  record IsBest (best : Line) : Type 0 where
    pub legal : IsLegal p roll best.0 best.1
    pub none : (line : Line) → IsLegal p roll line.0 line.1 → Ahead left_by line best → ⊥

  best-of : (all : List Line) → ((line : Line) → Among line all → IsLegal p roll line.0 line.1) → ((line : Line) → IsLegal p roll line.0 line.1 → Among line all) → (some : Line) → IsLegal p roll some.0 some.1
      → (best : Line) × IsBest best × (best_end left_by p all ≡ best.1)
  best-of [] sound complete some legal = absurd (complete some legal)
  best-of (line ∷ lines) sound complete some legal =
      let best = best_line left_by line lines in (
        best,
        record { legal = sound best (best-among left_by line lines); none = λ other is. none-ahead left_by line lines other (complete other is) },
        refl,
      )

  the-best : (best : Line) × IsBest best × (advised stakes u p k roll ≡ best.1)
  unfolding advised
  the-best =
      let some = some_legal_end p roll in
      best-of (legal_lines p roll) (legal_lines-sound p roll) (λ line. legal_lines-complete p roll line.0 line.1) (some.1.0, some.0) some.1.1

  best-advised : (best : Line) → IsBest best → IsAdvised stakes u p k roll best.1
  best-advised best is = record {
    moves = best.0;
    legal = is.legal;
    best = λ q legal better. is.none (legal.0, q) legal.1 (inl better);
    first = λ q others legal same earlier. is.none (others, q) legal (inr (λ worse. never-better (left_by q) (subst (λ (b : Bounds). IsBetter b (left_by q)) (sym same) worse), earlier));
  }

  pub is-advised : IsAdvised stakes u p k roll (advised stakes u p k roll)
  is-advised = subst (IsAdvised stakes u p k roll) (sym the-best.2) (best-advised the-best.0 the-best.1)

  pub legal-advised : IsLegalEnd p roll (advised stakes u p k roll)
  legal-advised = (is-advised.moves, is-advised.legal)

  alone-best : (best : Line) → IsBest best → (end : Placement) → IsAdvised stakes u p k roll end → end ≡ best.1
  alone-best best is end h = elim (compare (left_by end) (left_by best.1)) [
    | inl better ↦ absurd (is.none (h.moves, end) h.legal (inl better))
    | inr rest ↦ elim rest [
      | inl same ↦ (
          let as_long : length h.moves ≡ length best.0 = omega (arith, h.legal.longest best.0 best.1 is.legal.sequence, is.legal.longest h.moves end h.legal.sequence) in
          elim (which-first h.moves best.0 as_long) [
            | inl before ↦ absurd (is.none (h.moves, end) h.legal (inr (λ worse. never-better (left_by end) (subst (λ (b : Bounds). IsBetter b (left_by end)) (sym same) worse), before)))
            | inr others ↦ elim others [
              | inl moves ↦ one-end best.0 p (dice_of roll) (dice_of roll) end best.1 (subst (λ (ms : List Move). IsSequence p (dice_of roll) ms end) moves h.legal.sequence) is.legal.sequence
              | inr after ↦ absurd (h.first best.1 best.0 is.legal (sym same) after)
            ]
          ])
      | inr worse ↦ absurd (h.best best.1 (best.0, is.legal) worse)
    ]
  ]

  pub advised-alone : (end : Placement) → IsAdvised stakes u p k roll end → end ≡ advised stakes u p k roll
  advised-alone end h = alone-best the-best.0 the-best.1 end h ∙ sym the-best.2
