-- What rolling, doubling and a turn are worth over looked up words.
use Rattle.std.proofs.Common.{◌≡◌, ◌<◌, ◌≤◌, ◌+◌, ◌∙◌, ℕ, zero, suc, ℤ, pos, neg_ℤ, ◌*ℤ◌, ◌≤ℤ◌, List, [], ◌∷◌, length, map, take, get_or, ◌⊎◌, inl, inr, Option, Some, None, Ok, IsTrue, add-one, ap, sym, subst, refl, arith}
use Rattle.std.specs.Int.{int_max, int_min}
use Rattle.std.specs.List.{Contains}
use Rattle.std.proofs.lemmas.Int.{ints, clamps}
use Rattle.std.proofs.lemmas.List.{take_all}
use Rattle.position_rank.specs.Placement.{Placement}
use Rattle.roll_table.specs.Rolls.{all_rolls}
use Rattle.move_rules.specs.Listing.{Among}
use Rattle.move_rules.proofs.Members.{Contains-Among}
use Rattle.directed_fixed.specs.declared.bounds.End.{End}
use Rattle.directed_fixed.specs.declared.bounds.End.TheVariants.{Lower, Upper}
use Rattle.directed_fixed.specs.Bounds.{Bounds, IsWithin, IsWithinUnits, at}
use Rattle.directed_fixed.specs.Rounding.{outwards}
use Rattle.cube_actions.specs.declared.kind.Double.{Double}
use Rattle.cube_actions.specs.declared.kind.Taken.{Taken}
use Rattle.cube_actions.specs.Stakes.{Terms, kind_at, IsValid, IsRightDouble}
use Rattle.turn_rule.specs.Games.{game_of}
use Rattle.turn_rule.specs.Turn.{Words, worth, sum_over, roll_value, least, doubled, or_double, turn}
use Rattle.turn_rule.specs.States.{IsStateOf, IsState, AreWithinOf, AreWithin}
use Rattle.turn_rule.specs.Looks.{Source, Notes, Damage, States, AreStakesOf, AreUndamaged, MeetsRolling, MeetsOnAnswers, MayFollow, MayFollowTurn, IsBetweenWords, IsPairOf, Looked}
use Rattle.turn_rule.specs.Found.{IsFound, MayFollowAnswer, AreFoundSums}
use Rattle.turn_rule.proofs.Integers.{mul_mono, regroup, floor_36_below, floor_36_above, times-neg}
use Rattle.turn_rule.proofs.Tightness.{tight-max, tight-times, tight-outwards}
use Rattle.turn_rule.proofs.Tight.{each-end, tight-min, words-refl}
use Rattle.turn_rule.proofs.Within.{turn-within, roll-in_order}
use Rattle.turn_rule.proofs.MetFirst.{met-at}
use Rattle.turn_rule.proofs.Found.{look, FindsFrom, notes-refl, mapped-ok, then-ok, found-as, found-later, found-step, found-through, max-within, min-within}

-- ---- a 36th

mean-within : (end : End) (bound z : ℤ) → IsWithinUnits (pos 36 *ℤ bound) z → IsWithinUnits bound (outwards end z)
mean-within Lower bound z h = record { from = omega (arith, ints, h.from, floor_36_above z); to = omega (arith, ints, h.to, floor_36_below z) }
mean-within Upper bound z h = record { from = omega (arith, ints, h.from, floor_36_below (neg_ℤ z)); to = omega (arith, ints, h.to, floor_36_above (neg_ℤ z)) }

times-within : (factor : ℕ) (bound x : ℤ) → IsWithinUnits bound x → IsWithinUnits (pos factor *ℤ bound) (pos factor *ℤ x)
times-within factor bound x h = record { from = rw (← times-neg) (mul_mono factor (neg_ℤ bound) x h.from); to = mul_mono factor x bound h.to }

exchanged : (a b : ℕ) (x : ℤ) → pos a *ℤ (pos b *ℤ x) ≡ pos b *ℤ (pos a *ℤ x)
exchanged a b x = regroup a b x ∙ (ap (λ (n : ℕ). pos n *ℤ x) (omega arith) ∙ sym (regroup b a x))

factored-within : (end : End) (factor : ℕ) (bound x : ℤ) → IsWithinUnits (pos 36 *ℤ bound) x → IsWithinUnits (pos factor *ℤ bound) (outwards end (pos factor *ℤ x))
factored-within end factor bound x h = mean-within end (pos factor *ℤ bound) (pos factor *ℤ x) (subst (λ (b : ℤ). IsWithinUnits b (pos factor *ℤ x)) (exchanged factor 36 bound) (times-within factor (pos 36 *ℤ bound) x h))

-- what rolling is worth, from the sum
pub rolled : {m : Damage → Type 0} (m' : Damage → Type 0) (end : End) (s : Source) (stakes : Terms) (p : Placement) (k factor : ℕ) (u v : Notes) (a b : ℕ) (x y : ℤ) → y ≡ outwards end (pos factor *ℤ x)
    → FindsFrom end s u v a b m (MayFollow stakes p k) (pos 36 *ℤ s.bound) (λ n. sum_over all_rolls (worth end (kind_at stakes k) n) p) (Ok x)
    → FindsFrom end s u v a b m' (MayFollow stakes p k) (pos factor *ℤ s.bound) (λ n. roll_value end stakes n p k factor) (Ok y)
rolled m' end s stakes p k factor u v a b x y is looked =
    mapped-ok s u v a b _ _ _ _ x y looked
    (λ found.
    let within = factored-within end factor s.bound x found.within in
    let through = found-through end s (λ (z : ℤ). outwards end (pos factor *ℤ z)) (λ m n t. tight-outwards end _ _ (tight-times end factor m n t)) v (MayFollow stakes p k) (pos 36 *ℤ s.bound) (pos factor *ℤ s.bound) (λ n. sum_over all_rolls (worth end (kind_at stakes k) n) p) x within found in
    found-as end s v (MayFollow stakes p k) (MayFollow stakes p k) (pos factor *ℤ s.bound) (pos factor *ℤ s.bound) (λ n. roll_value end stakes n p k factor) (λ n. roll_value end stakes n p k factor) _ y (subst (IsWithinUnits (pos factor *ℤ s.bound)) (sym is) within) (λ q j h. h) (λ n. refl) (sym is) through)

-- ---- doubles

wider : (n : ℕ) (bound x : ℤ) → n ≤ 4 → pos 0 ≤ℤ bound → IsWithinUnits (pos n *ℤ bound) x → IsWithinUnits (pos 4 *ℤ bound) x
wider zero bound x h z w = record { from = omega (arith, ints, w.from); to = omega (arith, ints, w.to) }
wider (suc zero) bound x h z w = record { from = omega (arith, ints, w.from); to = omega (arith, ints, w.to) }
wider (suc (suc zero)) bound x h z w = record { from = omega (arith, ints, w.from); to = omega (arith, ints, w.to) }
wider (suc (suc (suc zero))) bound x h z w = record { from = omega (arith, ints, w.from); to = omega (arith, ints, w.to) }
wider (suc (suc (suc (suc zero)))) bound x h z w = w
wider (suc (suc (suc (suc (suc n))))) bound x h z w = absurd (omega arith)

pub end-within : (end : End) (bound : ℤ) (pair : Bounds) → IsWithin bound pair → IsWithinUnits bound (at end pair)
end-within Lower bound pair h = record { from = h.from; to = (let o = h.in_order in let t = h.to in omega (arith, ints)) }
end-within Upper bound pair h = record { from = (let o = h.in_order in let f = h.from in omega (arith, ints)); to = h.to }

pub within-positive : (bound : ℤ) (pair : Bounds) → IsWithin bound pair → pos 0 ≤ℤ bound
within-positive bound pair h = omega (arith, ints, h.from, h.in_order, h.to)

least-next : (f : Taken → ℤ) (v : ℤ) (xs : List Taken) (i : ℕ) (x : Taken) → i < length xs → x ≡ get_or xs i x → least v (map f (take (suc i) xs)) ≡ int_min (least v (map f (take i xs))) (f x)
least-next f v [] i x h e = absurd (omega arith)
least-next f v (first ∷ rest) zero x h e = ap (λ (y : Taken). int_min v (f y)) (sym e)
least-next f v (first ∷ rest) (suc i) x h e = least-next f (int_min v (f first)) rest i x (omega arith) e

among-more : (y : Taken) (xs : List Taken) (i : ℕ) (x : Taken) → i < length xs → x ≡ get_or xs i x → Among y (take (suc i) xs) → Among y (take i xs) ⊎ (y ≡ x)
among-more y [] i x h e m = absurd (omega arith)
among-more y (first ∷ rest) zero x h e (inl is) = inr (is ∙ sym e)
among-more y (first ∷ rest) zero x h e (inr m) = absurd m
among-more y (first ∷ rest) (suc i) x h e (inl is) = inl (inl is)
among-more y (first ∷ rest) (suc i) x h e (inr m) = elim (among-more y rest i x (omega arith) e m) [ inl before ↦ inl (inr before) | inr is ↦ inr is ]

pub min-most : (bound x y : ℤ) → x ≤ℤ bound → int_min x y ≤ℤ bound
min-most bound x y h = omega (arith, ints, clamps)

-- the least of the pass and some answers
abbrev pub least_of : End → Terms → Placement → Double → List Taken → Words → ℤ
least_of end stakes p double answers n = least (at end double.pass) (map (λ (taken : Taken). roll_value end stakes n p taken.kind taken.factor) answers)

module _ (end : End) (s : Source) (stakes : Terms) (p : Placement) (double : Double) where
  -- an answer after others
  pub next-answer : {m m' : Damage → Type 0} (m'' : Damage → Type 0) (u v w : Notes) (a b c : ℕ) (i : ℕ) (taken : Taken) (x y z : ℤ) → i < length double.answers.items → taken ≡ get_or double.answers.items i taken → taken.factor ≤ 4 → pos 0 ≤ℤ s.bound → z ≡ int_min x y
      → FindsFrom end s u v a b m (MayFollowAnswer stakes p (take i double.answers.items)) (pos 4 *ℤ s.bound) (least_of end stakes p double (take i double.answers.items)) (Ok x)
      → FindsFrom end s v w b c m' (MayFollow stakes p taken.kind) (pos taken.factor *ℤ s.bound) (λ n. roll_value end stakes n p taken.kind taken.factor) (Ok y)
      → FindsFrom end s u w a c m'' (MayFollowAnswer stakes p (take (i + 1) double.answers.items)) (pos 4 *ℤ s.bound) (least_of end stakes p double (take (i + 1) double.answers.items)) (Ok z)
  next-answer m'' u v w a b c i taken x y z high e factor positive is so_far looked =
      then-ok s u v w a b c _ _ _ _ _ _ x y z so_far looked
      (λ tighter before one.
      let answers = double.answers.items in
      let bound = pos 4 *ℤ s.bound in
      let states = MayFollowAnswer stakes p (take i answers) in
      let states' = MayFollowAnswer stakes p (take (i + 1) answers) in
      let within = min-within bound x y before.within (wider taken.factor s.bound y factor positive one.within) in
      let both = found-step end s int_min (tight-min end) w states (MayFollow stakes p taken.kind) states' bound (pos taken.factor *ℤ s.bound) bound (least_of end stakes p double (take i double.answers.items)) (λ n. roll_value end stakes n p taken.kind taken.factor) x y within
      (λ q j h. elim (among-more h.0 answers i taken high e (subst (λ (m : ℕ). Among h.0 (take m answers)) (add-one i) h.1)) [
        | inl m ↦ inl (h.0, m, h.2)
        | inr same ↦ inr (subst (λ (t : Taken). MayFollow stakes p t.kind q j) same h.2)
      ])
      (found-later end s v w states bound (least_of end stakes p double (take i double.answers.items)) x tighter before) one in
      found-as end s w states' states' bound bound (λ n. int_min (least_of end stakes p double (take i answers) n) (roll_value end stakes n p taken.kind taken.factor)) (least_of end stakes p double (take (i + 1) double.answers.items)) (int_min x y) z
      (subst (IsWithinUnits bound) (sym is) within) (λ q j h. h)
      (λ n. sym (least-next (λ (t : Taken). roll_value end stakes n p t.kind t.factor) (at end double.pass) answers i taken high e) ∙ ap (λ (m : ℕ). least_of end stakes p double (take m answers) n) (sym (add-one i)))
      (sym is) both)

  -- after the last answer
  pub all-answers : (m : Damage → Type 0) (u v : Notes) (a b i : ℕ) (x : ℤ) → length double.answers.items ≤ i
      → FindsFrom end s u v a b m (MayFollowAnswer stakes p (take i double.answers.items)) (pos 4 *ℤ s.bound) (least_of end stakes p double (take i double.answers.items)) (Ok x)
      → FindsFrom end s u v a b m (MayFollowAnswer stakes p double.answers.items) (pos 4 *ℤ s.bound) (λ n. doubled end stakes n p double) (Ok x)
  all-answers m u v a b i x past so_far = rw (take_all i double.answers.items past) at so_far

  -- an answer whose words can't be had
  pub stopped-answer : (i : ℕ) (taken : Taken) (damage : Damage) → i < length double.answers.items → taken ≡ get_or double.answers.items i taken → AreUndamaged s (MayFollowAnswer stakes p (take i double.answers.items)) → MeetsRolling stakes p taken.kind s damage → MeetsOnAnswers stakes p double.answers.items s damage
  stopped-answer i taken damage high e before met = met-at s _ _ damage double.answers.items i taken high e (λ other m q j h. before q j (other, m, h)) met

abbrev pub no_answer : Taken
no_answer = record { kind = 0; factor = 0 }

-- the answer at a place
pub an_answer : (xs : List Taken) (i : ℕ) → i < length xs → get_or xs i no_answer ≡ get_or xs i (get_or xs i no_answer)
an_answer [] i h = absurd (omega arith)
an_answer (x ∷ xs) zero h = refl
an_answer (x ∷ xs) (suc i) h = an_answer xs i (omega arith)

-- an answer's factor is small, and its kind is one of the stakes
pub answer-at : (stakes : Terms) (double : Double) (i : ℕ) → IsRightDouble stakes double → i < length double.answers.items → ((get_or double.answers.items i no_answer).kind < length stakes.kinds) × ((get_or double.answers.items i no_answer).factor ≤ 4)
answer-at stakes double i right high =
    let answer = right.answers i no_answer high in
    (answer.kind, elim answer.factor [ inl is ↦ omega (arith, is) | inr more ↦ elim more [ inl is ↦ omega (arith, is) | inr is ↦ omega (arith, is) ] ])

-- ---- from sums that were found

-- one end that was found, as a look-up that changes nothing
pub found-looked : (m : Damage → Type 0) (end : End) (s : Source) (u : Notes) (states : States) (bound : ℤ) (value : Words → ℤ) (x : ℤ) → IsFound end s u states bound value x → FindsFrom end s u u 0 0 m states bound value (Ok x)
found-looked m end s u states bound value x found = record { later = omega arith; notes = notes-refl s u; answer = found; stop = tt }

item-at : (xs : List ℤ) (i : ℕ) (x d : ℤ) → i < length xs → x ≡ get_or xs i x → x ≡ get_or xs i d
item-at [] i x d h e = absurd (omega arith)
item-at (y ∷ xs) zero x d h e = e
item-at (y ∷ xs) (suc i) x d h e = item-at xs i x d (omega arith) e

-- what rolling is worth, from the sum of its kind
pub rolled-sum : (m : Damage → Type 0) (end : End) (s : Source) (u : Notes) (stakes : Terms) (p : Placement) (sums : List ℤ) (k factor : ℕ) (x y : ℤ) → AreFoundSums end s u stakes p sums → length sums ≡ length stakes.kinds → k < length stakes.kinds
    → x ≡ get_or sums k x → y ≡ outwards end (pos factor *ℤ x)
    → FindsFrom end s u u 0 0 m (MayFollow stakes p k) (pos factor *ℤ s.bound) (λ n. roll_value end stakes n p k factor) (Ok y)
rolled-sum m end s u stakes p sums k factor x y found many here at is =
    rolled m end s stakes p k factor u u 0 0 x y is
    (found-looked m end s u (MayFollow stakes p k) (pos 36 *ℤ s.bound) (λ n. sum_over all_rolls (worth end (kind_at stakes k) n) p) x
    (subst (IsFound end s u (MayFollow stakes p k) (pos 36 *ℤ s.bound) (λ n. sum_over all_rolls (worth end (kind_at stakes k) n) p)) (sym (item-at sums k x (pos 0) (rw many here) at)) (found k here)))

-- ---- turns

or_none : (end : End) (stakes : Terms) (n : Words) (p : Placement) (k : ℕ) → (kind_at stakes k).double ≡ None → roll_value end stakes n p k 1 ≡ turn stakes n end p k
unfolding turn
or_none end stakes n p k none = ap (or_double end stakes n p (roll_value end stakes n p k 1)) (sym none)

or_some : (end : End) (stakes : Terms) (n : Words) (p : Placement) (k : ℕ) (double : Double) → (kind_at stakes k).double ≡ Some double → int_max (roll_value end stakes n p k 1) (doubled end stakes n p double) ≡ turn stakes n end p k
unfolding turn
or_some end stakes n p k double some = ap (or_double end stakes n p (roll_value end stakes n p k 1)) (sym some)

once : (bound x : ℤ) → IsWithinUnits (pos 1 *ℤ bound) x → IsWithinUnits bound x
once bound x h = record { from = omega (arith, ints, h.from); to = omega (arith, ints, h.to) }

max-once : (bound x y : ℤ) → IsWithinUnits bound x → y ≤ℤ bound → IsWithinUnits bound (int_max x y)
max-once bound x y h most = record { from = omega (arith, ints, clamps, h.from); to = omega (arith, ints, clamps, h.to) }

none_some : {X : Type 0} (o : Option X) (x : X) → o ≡ None → o ≡ Some x → ⊥
none_some o x none some = cc

same_some : {X : Type 0} (o : Option X) (x y : X) → o ≡ Some x → o ≡ Some y → x ≡ y
same_some o x y h k = cc

module _ (end : End) (s : Source) (stakes : Terms) (p : Placement) (k : ℕ) where
  pub turn-plain : {m : Damage → Type 0} (m' : Damage → Type 0) (u v : Notes) (a b : ℕ) (x : ℤ) → (kind_at stakes k).double ≡ None
      → FindsFrom end s u v a b m (MayFollow stakes p k) (pos 1 *ℤ s.bound) (λ n. roll_value end stakes n p k 1) (Ok x) → FindsFrom end s u v a b m' (MayFollowTurn stakes p k) s.bound (λ n. turn stakes n end p k) (Ok x)
  turn-plain m' u v a b x none looked =
      mapped-ok s u v a b _ _ _ _ x x looked
      (λ found. found-as end s v (MayFollow stakes p k) (MayFollowTurn stakes p k) (pos 1 *ℤ s.bound) s.bound (λ n. roll_value end stakes n p k 1) (λ n. turn stakes n end p k) x x
      (once s.bound x found.within) (λ q j h. elim h [ inl after ↦ after | inr double ↦ absurd (none_some _ _ none double.right) ])
      (λ n. or_none end stakes n p k none) refl found)

  pub turn-doubled : {m m' : Damage → Type 0} (m'' : Damage → Type 0) (u v w : Notes) (a b c : ℕ) (double : Double) (x y z : ℤ) → (kind_at stakes k).double ≡ Some double → z ≡ int_max x y → y ≤ℤ s.bound
      → FindsFrom end s u v a b m (MayFollow stakes p k) (pos 1 *ℤ s.bound) (λ n. roll_value end stakes n p k 1) (Ok x)
      → FindsFrom end s v w b c m' (MayFollowAnswer stakes p double.answers.items) (pos 4 *ℤ s.bound) (λ n. doubled end stakes n p double) (Ok y)
      → FindsFrom end s u w a c m'' (MayFollowTurn stakes p k) s.bound (λ n. turn stakes n end p k) (Ok z)
  turn-doubled m'' u v w a b c double x y z some is most plain looked =
      then-ok s u v w a b c _ _ _ _ _ _ x y z plain looked
      (λ tighter one other.
      let states = MayFollow stakes p k in
      let states' = MayFollowTurn stakes p k in
      let within = max-once s.bound x y (once s.bound x one.within) most in
      let both = found-step end s int_max (tight-max end) w states (MayFollowAnswer stakes p double.answers.items) states' (pos 1 *ℤ s.bound) (pos 4 *ℤ s.bound) s.bound (λ n. roll_value end stakes n p k 1) (λ n. doubled end stakes n p double) x y within
      (λ q j h. elim h [
        | inl after ↦ inl after
        | inr after ↦ inr (after.taken, Contains-Among after.taken _ (subst (λ (d : Double). Contains d.answers.items after.taken) (same_some _ _ _ after.right some) after.answer), after.after)
      ])
      (found-later end s v w states (pos 1 *ℤ s.bound) (λ n. roll_value end stakes n p k 1) x tighter one) other in
      found-as end s w states' states' s.bound s.bound (λ n. int_max (roll_value end stakes n p k 1) (doubled end stakes n p double)) (λ n. turn stakes n end p k) (int_max x y) z
      (subst (IsWithinUnits s.bound) (sym is) within) (λ q j h. h) (λ n. or_some end stakes n p k double some) (sym is) both)

-- ---- both ends

in_order-min : (x y : ℤ) → x ≤ℤ y → int_min x y ≡ x
in_order-min x y h = omega (arith, ints, clamps)

in_order-max : (x y : ℤ) → x ≤ℤ y → int_max x y ≡ y
in_order-max x y h = omega (arith, ints, clamps)

min-max : (x y : ℤ) → int_min x y ≤ℤ int_max x y
min-max x y = omega (arith, ints, clamps)

between : (x a b y : ℤ) → x ≤ℤ a → a ≤ℤ b → b ≤ℤ y → x ≤ℤ y
between x a b y h k l = omega (arith, ints)

-- the lower end and then the upper end
pub paired : {m m' : Damage → Type 0} (m'' : Damage → Type 0) (s : Source) (states : States) (bound : ℤ) (value : End → Words → ℤ) (u v w : Notes) (a b c : ℕ) (x y : ℤ) (pair : Bounds) → pair.lower ≡ int_min x y → pair.upper ≡ int_max x y → (IsTrue w.told → value Lower w.words ≤ℤ value Upper w.words)
    → FindsFrom Lower s u v a b m states bound (value Lower) (Ok x) → FindsFrom Upper s v w b c m' states bound (value Upper) (Ok y) → Looked (look s u w a c) m'' (IsPairOf s w states bound value) (Ok pair)
paired m'' s states bound value u v w a b c x y pair low high order lower upper =
    then-ok s u v w a b c _ _ _ _ _ _ x y pair lower upper
    (λ tighter one other.
    let before = found-later Lower s v w states bound (value Lower) x tighter one in
    let ordered : IsTrue w.told → x ≤ℤ y = λ told. between x (value Lower w.words) (value Upper w.words) y (before.notes told w.words (words-refl s.checkers s.kinds w.words)) (order told) (other.notes told w.words (words-refl s.checkers s.kinds w.words)) in
    let lower_is : IsTrue w.told → x ≡ pair.lower = λ told. sym (low ∙ in_order-min x y (ordered told)) in
    let upper_is : IsTrue w.told → y ≡ pair.upper = λ told. sym (high ∙ in_order-max x y (ordered told)) in
    record {
      within = rw (low, high) (record {
        from = (min-within bound x y one.within other.within).from;
        in_order = min-max x y;
        to = (max-within bound x y one.within other.within).to;
      });
      ends = λ told. each-end (λ end. IsBetweenWords end s.floor w.words (value end) (at end pair))
          (subst (IsBetweenWords Lower s.floor w.words (value Lower)) (lower_is told) (record { no_looser = before.floor told; no_tighter = before.notes told w.words (words-refl s.checkers s.kinds w.words) }))
          (subst (IsBetweenWords Upper s.floor w.words (value Upper)) (upper_is told) (record { no_looser = other.floor told; no_tighter = other.notes told w.words (words-refl s.checkers s.kinds w.words) }));
      right = other.right;
    })

module _ (s : Source) (stakes : Terms) (valid : IsValid stakes) (fits : AreStakesOf s stakes) (w : Words) (within : AreWithinOf s.checkers s.kinds s.bound w) (p : Placement) (k : ℕ) (state : IsStateOf s.checkers s.kinds p k) where
  words-fit : AreWithin (game_of s.checkers stakes) w
  words-fit = subst (λ (b : ℤ). AreWithinOf s.checkers (length stakes.kinds) b w) fits.bound (subst (λ (n : ℕ). AreWithinOf s.checkers n s.bound w) fits.kinds within)

  state-fits : IsState (game_of s.checkers stakes) p k
  state-fits = subst (λ (n : ℕ). IsStateOf s.checkers n p k) fits.kinds state

  pub turn-order : turn stakes w Lower p k ≤ℤ turn stakes w Upper p k
  turn-order = (turn-within (game_of s.checkers stakes) valid w words-fit p k state-fits).in_order

  pub roll-order : (factor : ℕ) → roll_value Lower stakes w p k factor ≤ℤ roll_value Upper stakes w p k factor
  roll-order factor = roll-in_order (game_of s.checkers stakes) valid w words-fit p k factor state-fits
