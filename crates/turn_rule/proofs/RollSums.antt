-- Sums over rolls of what the best plays are worth over looked up words.
use Rattle.std.proofs.Common.{◌≡◌, ◌<◌, ◌≤◌, ◌+◌, ◌^◌, ◌∙◌, ℕ, zero, suc, ℤ, pos, neg_ℤ, ◌+ℤ◌, ◌*ℤ◌, ◌≤ℤ◌, List, [], ◌∷◌, length, map, take, get_or, All, ◌⊎◌, inl, inr, Ok, add-one, ap, sym, subst, refl, arith}
use Rattle.std.proofs.lemmas.Int.{ints}
use Rattle.std.proofs.lemmas.List.{take_all, length-map}
use Rattle.position_rank.specs.Placement.{Placement, swap}
use Rattle.roll_table.specs.Rolls.{Dice, IsRoll, weighted_roll, all_rolls}
use Rattle.std.specs.List.{range_with_len}
use Rattle.move_rules.specs.Listing.{Among}
use Rattle.move_rules.specs.Ends.{legal_ends}
use Rattle.move_rules.proofs.Members.{Among-Contains, Contains-Among, Among-flat_map, Among-map, Among-range}
use Rattle.move_rules.proofs.EndsExact.{legal_ends-sound, legal_ends-complete}
use Rattle.move_rules.specs.declared.payoff.Won.{Won}
use Rattle.directed_fixed.specs.declared.bounds.End.{End}
use Rattle.directed_fixed.specs.Bounds.{IsWithin, IsWithinUnits}
use Rattle.cube_actions.specs.declared.kind.Kind.{Kind}
use Rattle.cube_actions.specs.Stakes.{Terms, kind_at, no_kind, IsValid}
use Rattle.turn_rule.specs.Games.{game_of}
use Rattle.turn_rule.specs.Turn.{win, worth, greatest, sum_over}
use Rattle.turn_rule.specs.States.{IsStateOf, IsState}
use Rattle.turn_rule.specs.Looks.{Source, Notes, Damage, AreStakesOf, AreUndamaged, MayFollow, MeetsOnEnds, MeetsRolling}
use Rattle.turn_rule.specs.Found.{LeavesState, MayFollowEnds, MayFollowAmong}
use Rattle.turn_rule.specs.declared.ends.OneRoll.{OneRoll}
use Rattle.turn_rule.specs.Rolled.{weighted, HasEnds, AreRolled}
use Rattle.turn_rule.proofs.Integers.{mul_mono, times-neg}
use Rattle.turn_rule.proofs.Tightness.{tight-times}
use Rattle.turn_rule.proofs.Tight.{tight-add}
use Rattle.turn_rule.proofs.Greatest.{greatest-same, total, total-all_rolls, length-all_rolls, roll_at, at_roll, roll-right}
use Rattle.turn_rule.proofs.Within.{next_state, win-within, bound-positive}
use Rattle.turn_rule.proofs.MetFirst.{met-at}
use Rattle.turn_rule.proofs.Found.{FindsFrom, mapped-ok, then-ok, found-as, found-later, found-step}

-- ---- the rolls

-- each roll is among them, with its weight
all_rolls-complete : (roll : Dice) → IsRoll roll → (w : ℕ) × Among (roll, w) all_rolls
unfolding all_rolls
all_rolls-complete roll right = (
  (weighted_roll roll.high roll.low).1,
  Among-flat_map (λ (high : ℕ). map (weighted_roll high) (range_with_len 1 high)) roll.high (weighted_roll roll.high roll.low) (range_with_len 1 6)
      (Among-range 1 6 roll.high (omega (arith, right.from, right.in_order)) (omega (arith, right.to)))
      (Among-map (weighted_roll roll.high) roll.low (range_with_len 1 roll.high) (Among-range 1 roll.high roll.low right.from (omega (arith, right.in_order)))),
)

among-more : (x : Dice × ℕ) (rolls : List (Dice × ℕ)) (i : ℕ) (roll : Dice × ℕ) → i < length rolls → roll ≡ get_or rolls i roll → Among x (take (suc i) rolls) → Among x (take i rolls) ⊎ (x ≡ roll)
among-more x [] i roll h e m = absurd (omega arith)
among-more x (first ∷ rest) zero roll h e (inl is) = inr (is ∙ sym e)
among-more x (first ∷ rest) zero roll h e (inr m) = absurd m
among-more x (first ∷ rest) (suc i) roll h e (inl is) = inl (inl is)
among-more x (first ∷ rest) (suc i) roll h e (inr m) = elim (among-more x rest i roll (omega arith) e m) [ inl before ↦ inl (inr before) | inr is ↦ inr is ]

first_of : (a : ℤ) → a +ℤ pos 0 ≡ pos 0 +ℤ a
first_of a = omega (arith, ints)

regroup : (a b c d : ℤ) → d ≡ b +ℤ c → a +ℤ d ≡ (a +ℤ b) +ℤ c
regroup a b c d h = omega (arith, ints)

-- one roll more
sum-next : (f : Placement → ℤ) (p : Placement) (rolls : List (Dice × ℕ)) (i : ℕ) (roll : Dice × ℕ) → i < length rolls → roll ≡ get_or rolls i roll → sum_over (take (suc i) rolls) f p ≡ sum_over (take i rolls) f p +ℤ pos roll.1 *ℤ greatest f (legal_ends p roll.0)
sum-next f p [] i roll h e = absurd (omega arith)
sum-next f p (first ∷ rest) zero roll h e = ap (λ (r : Dice × ℕ). pos r.1 *ℤ greatest f (legal_ends p r.0) +ℤ pos 0) (sym e) ∙ first_of (pos roll.1 *ℤ greatest f (legal_ends p roll.0))
sum-next f p (first ∷ rest) (suc i) roll h e = regroup _ _ _ _ (sum-next f p rest i roll (omega arith) e)

total-next : (rolls : List (Dice × ℕ)) (i : ℕ) (roll : Dice × ℕ) → i < length rolls → roll ≡ get_or rolls i roll → total (take (suc i) rolls) ≡ total (take i rolls) + roll.1
total-next [] i roll h e = absurd (omega arith)
total-next (first ∷ rest) zero roll h e = let w = ap (λ (r : Dice × ℕ). r.1) e in omega (arith, w)
total-next (first ∷ rest) (suc i) roll h e = let later = total-next rest i roll (omega arith) e in omega (arith, later)

total-some : (rolls : List (Dice × ℕ)) (i : ℕ) → total (take i rolls) ≤ total rolls
total-some [] zero = omega arith
total-some [] (suc i) = omega arith
total-some (first ∷ rest) zero = omega arith
total-some (first ∷ rest) (suc i) = let later = total-some rest i in omega (arith, later)

-- ---- bounds of the sums

spread : (w n : ℕ) (b : ℤ) → pos (w + n) *ℤ b ≡ pos w *ℤ b +ℤ pos n *ℤ b
spread w n b = omega (arith, ints)

bounds-add : (a b c x y z : ℤ) → c ≡ a +ℤ b → IsWithinUnits a x → neg_ℤ b ≤ℤ y → y ≤ℤ b → z ≡ x +ℤ y → IsWithinUnits c z
bounds-add a b c x y z is h low high added = record { from = omega (arith, ints, h.from); to = omega (arith, ints, h.to) }

sum-within : (t w : ℕ) (bound x y z : ℤ) → IsWithinUnits (pos t *ℤ bound) x → IsWithinUnits bound y → z ≡ x +ℤ pos w *ℤ y → IsWithinUnits (pos (t + w) *ℤ bound) z
sum-within t w bound x y z h k is =
    let low = mul_mono w (neg_ℤ bound) y k.from in
    bounds-add (pos t *ℤ bound) (pos w *ℤ bound) (pos (t + w) *ℤ bound) x (pos w *ℤ y) z (spread t w bound) h (rw times-neg at low) (mul_mono w y bound k.to) is

-- a sum of at most 36 values of 2 ^ 36 units
pub sum-small : (t : ℕ) (bound x : ℤ) → t ≤ 36 → pos 0 ≤ℤ bound → bound ≤ℤ pos (2 ^ 36) → IsWithinUnits (pos t *ℤ bound) x → IsWithinUnits (pos (2 ^ 42)) x
sum-small t bound x few positive small h =
    let high = mul_mono t bound (pos (2 ^ 36)) small in
    record { from = omega (arith, ints, h.from, high); to = omega (arith, ints, h.to, high) }

pub few-rolls : (i : ℕ) → total (take i all_rolls) ≤ 36
few-rolls i = omega (arith, total-some all_rolls i, total-all_rolls)

-- ---- the rolls of a position

kept-weight : (kept : List OneRoll) (i : ℕ) (one : OneRoll) → i < length kept → one ≡ get_or kept i one → weighted one ≡ get_or (map weighted kept) i (weighted one)
kept-weight [] i one h e = absurd (omega arith)
kept-weight (k ∷ kept) zero one h e = ap weighted e
kept-weight (k ∷ kept) (suc i) one h e = kept-weight kept i one (omega arith) e

kept-many : (p : Placement) (kept : List OneRoll) → AreRolled p kept → length kept ≡ 21
kept-many p kept rolled = sym (length-map kept weighted) ∙ (ap length rolled.rolls ∙ length-all_rolls)

pub rolled-end : (p : Placement) (kept : List OneRoll) (i : ℕ) → AreRolled p kept → length kept ≤ i → 21 ≤ i
rolled-end p kept i rolled h = omega (arith, h, kept-many p kept rolled)

pub record IsKept (p : Placement) (i : ℕ) (one : OneRoll) : Type 0 where
  pub here : i < length all_rolls
  pub weight : weighted one ≡ get_or all_rolls i (weighted one)
  pub right : IsRoll one.roll
  pub times : one.times ≤ 2
  pub ends : HasEnds p one

pub kept-at : (p : Placement) (kept : List OneRoll) (i : ℕ) (one : OneRoll) → AreRolled p kept → i < length kept → one ≡ get_or kept i one → IsKept p i one
kept-at p kept i one rolled h e =
    let many = kept-many p kept rolled in
    let here : i < length all_rolls = omega (arith, h, many, length-all_rolls) in
    let weight : weighted one ≡ get_or all_rolls i (weighted one) = subst (λ (xs : List (Dice × ℕ)). weighted one ≡ get_or xs i (weighted one)) rolled.rolls (kept-weight kept i one h e) in
    let roll = roll_at all_rolls i (weighted one) refl (omega (arith, here, length-all_rolls)) weight in
    record {
      here = here;
      weight = weight;
      right = roll-right (weighted one) (at_roll all_rolls i (weighted one) here weight);
      times = roll.2;
      ends = subst (HasEnds p) (sym e) (rolled.ends i one h);
    }

to_legal : (p : Placement) (one : OneRoll) → HasEnds p one → (q : Placement) → Among q one.ends.items → Among q (legal_ends p one.roll)
to_legal p one has q m = Contains-Among q _ (legal_ends-complete p one.roll q ((has.ends.legal q).0 (Among-Contains q _ m)))

of_legal : (p : Placement) (one : OneRoll) → HasEnds p one → (q : Placement) → Among q (legal_ends p one.roll) → Among q one.ends.items
of_legal p one has q m = Contains-Among q _ ((has.ends.legal q).1 (legal_ends-sound p one.roll q (Among-Contains q _ m)))

all_members : {X : Type 0} (P : X → Type 0) (xs : List X) → ((x : X) → Among x xs → P x) → All P xs
all_members P [] h i d below = absurd (omega arith)
all_members P (x ∷ xs) h zero d below = h x (inl refl)
all_members P (x ∷ xs) h (suc i) d below = all_members P xs (λ y m. h y (inr m)) i d (omega arith)

-- after each of the plays the other side has a state of the source, or the game has ended
pub leave-states : (s : Source) (stakes : Terms) → IsValid stakes → AreStakesOf s stakes → (p : Placement) (k : ℕ) → IsStateOf s.checkers s.kinds p k → (i : ℕ) (one : OneRoll) → IsKept p i one → All (LeavesState s (kind_at stakes k).next) one.ends.items
leave-states s stakes valid fits p k state i one kept =
    let state' : IsState (game_of s.checkers stakes) p k = subst (λ (n : ℕ). IsStateOf s.checkers n p k) fits.kinds state in
    all_members (LeavesState s (kind_at stakes k).next) one.ends.items
    (λ q m on. subst (λ (n : ℕ). IsStateOf s.checkers n (swap q) (kind_at stakes k).next) (sym fits.kinds)
    (next_state (game_of s.checkers stakes) valid p k state' one.roll q kept.right (to_legal p one kept.ends q m) on))

pub wins-within : (s : Source) (stakes : Terms) → IsValid stakes → AreStakesOf s stakes → (k : ℕ) → k < length stakes.kinds → (won : Won) → IsWithin s.bound (win (kind_at stakes k) won)
wins-within s stakes valid fits k here won =
    subst (λ (b : ℤ). IsWithin b (win (kind_at stakes k) won)) (sym fits.bound)
    (win-within stakes.bound (kind_at stakes k) (bound-positive stakes valid) (valid.kinds k no_kind here).wins won)

module _ (end : End) (s : Source) (kind : Kind) (p : Placement) where
  -- a roll after others
  pub next-roll : {m m' : Damage → Type 0} (m'' : Damage → Type 0) (u v w : Notes) (a b c : ℕ) (i : ℕ) (one : OneRoll) (x y z : ℤ) → IsKept p i one → z ≡ x +ℤ pos one.times *ℤ y
      → FindsFrom end s u v a b m (MayFollowAmong kind.next p (take i all_rolls)) (pos (total (take i all_rolls)) *ℤ s.bound) (λ n. sum_over (take i all_rolls) (worth end kind n) p) (Ok x)
      → FindsFrom end s v w b c m' (MayFollowEnds kind.next one.ends.items) s.bound (λ n. greatest (worth end kind n) one.ends.items) (Ok y)
      → FindsFrom end s u w a c m'' (MayFollowAmong kind.next p (take (i + 1) all_rolls)) (pos (total (take (i + 1) all_rolls)) *ℤ s.bound) (λ n. sum_over (take (i + 1) all_rolls) (worth end kind n) p) (Ok z)
  next-roll m'' u v w a b c i one x y z kept is so_far looked =
      then-ok s u v w a b c _ _ _ _ _ _ x y z so_far looked
      (λ tighter before best.
      let bound = pos (total (take i all_rolls)) *ℤ s.bound in
      let bound' = pos (total (take i all_rolls) + one.times) *ℤ s.bound in
      let states = MayFollowAmong kind.next p (take i all_rolls) in
      let states' = MayFollowAmong kind.next p (take (i + 1) all_rolls) in
      let one_more = total-next all_rolls i (weighted one) kept.here kept.weight in
      let within : IsWithinUnits bound' (x +ℤ pos one.times *ℤ y) = sum-within (total (take i all_rolls)) one.times s.bound x y (x +ℤ pos one.times *ℤ y) before.within best.within refl in
      let sum = found-later end s v w states bound (λ n. sum_over (take i all_rolls) (worth end kind n) p) x tighter before in
      let both = found-step end s (λ (k l : ℤ). k +ℤ pos one.times *ℤ l) (λ k l m n h j. tight-add end _ _ _ _ h (tight-times end one.times _ _ j)) w states (MayFollowEnds kind.next one.ends.items) states' bound s.bound bound'
      (λ n. sum_over (take i all_rolls) (worth end kind n) p) (λ n. greatest (worth end kind n) one.ends.items) x y within
      (λ q j h. elim (among-more h.0 all_rolls i (weighted one) kept.here kept.weight (subst (λ (n : ℕ). Among h.0 (take n all_rolls)) (add-one i) h.1)) [
        | inl m ↦ inl (h.0, m, h.2, h.3, h.4)
        | inr same ↦ inr (h.2, of_legal p one kept.ends h.2 (subst (λ (roll : Dice × ℕ). Among h.2 (legal_ends p roll.0)) same h.3), h.4)
      ]) sum best in
      found-as end s w states' states' bound' (pos (total (take (i + 1) all_rolls)) *ℤ s.bound) (λ n. sum_over (take i all_rolls) (worth end kind n) p +ℤ pos one.times *ℤ greatest (worth end kind n) one.ends.items) (λ n. sum_over (take (i + 1) all_rolls) (worth end kind n) p) (x +ℤ pos one.times *ℤ y) z
      (rw (is, add-one i, one_more) within) (λ q j h. h)
      (λ n. ap (λ (g : ℤ). sum_over (take i all_rolls) (worth end kind n) p +ℤ pos one.times *ℤ g) (greatest-same (worth end kind n) one.ends.items (legal_ends p one.roll) (to_legal p one kept.ends) (of_legal p one kept.ends))
      ∙ (sym (sum-next (worth end kind n) p all_rolls i (weighted one) kept.here kept.weight) ∙ ap (λ (m : ℕ). sum_over (take m all_rolls) (worth end kind n) p) (sym (add-one i))))
      (sym is) both)

module _ (end : End) (s : Source) (stakes : Terms) (p : Placement) (k : ℕ) where
  -- after the last roll
  pub all-rolls : {m : Damage → Type 0} (m' : Damage → Type 0) (u v : Notes) (a b i : ℕ) (x : ℤ) → 21 ≤ i
      → FindsFrom end s u v a b m (MayFollowAmong (kind_at stakes k).next p (take i all_rolls)) (pos (total (take i all_rolls)) *ℤ s.bound) (λ n. sum_over (take i all_rolls) (worth end (kind_at stakes k) n) p) (Ok x)
      → FindsFrom end s u v a b m' (MayFollow stakes p k) (pos 36 *ℤ s.bound) (λ n. sum_over all_rolls (worth end (kind_at stakes k) n) p) (Ok x)
  all-rolls m' u v a b i x past so_far =
      let all : take i all_rolls ≡ all_rolls = take_all i all_rolls (omega (arith, past, length-all_rolls)) in
      mapped-ok s u v a b _ _ _ _ x x (rw (all, total-all_rolls) at so_far)
      (λ found. found-as end s v (MayFollowAmong (kind_at stakes k).next p all_rolls) (MayFollow stakes p k) (pos 36 *ℤ s.bound) (pos 36 *ℤ s.bound) (λ n. sum_over all_rolls (worth end (kind_at stakes k) n) p) (λ n. sum_over all_rolls (worth end (kind_at stakes k) n) p) x x
      found.within
      (λ q j h. let roll = all_rolls-complete h.roll h.right in ((h.roll, roll.0), roll.1, h.end, Contains-Among h.end _ (legal_ends-complete p h.roll h.end h.legal), h.left))
      (λ n. refl) refl found)

  -- a play of a roll, whose words can't be had
  pub stopped-roll : (i : ℕ) (one : OneRoll) (damage : Damage) → IsKept p i one → AreUndamaged s (MayFollowAmong (kind_at stakes k).next p (take i all_rolls)) → MeetsOnEnds (kind_at stakes k).next one.ends.items s damage → MeetsRolling stakes p k s damage
  stopped-roll i one damage kept before met = met-at s _ _ damage all_rolls i (weighted one) kept.here kept.weight
      (λ roll m q j h. before q j (roll, m, h.end, Contains-Among h.end _ (legal_ends-complete p roll.0 h.end h.legal), h.left))
      (record { ends = one.ends.items; in_order = kept.ends.ends; meets = met })
