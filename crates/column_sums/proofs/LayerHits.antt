-- Layers in which single checkers are on the bar, point by point.
use Rattle.std.proofs.Common.{◌≡◌, ◌≢◌, ◌≤◌, ◌<◌, ◌+◌, ◌-◌, ◌∙◌, inl, inr, ℕ, zero, suc, get_or, set, length-set, get_or-set_same, get_or-set_other, List, [], ◌∷◌, length, sum, take, refl, ap, sym, subst, arith}
use Rattle.std.proofs.lemmas.Bool.{cases_lt}
use Rattle.std.proofs.lemmas.List.{set_comm, set-set}
use Rattle.std.proofs.lemmas.List.Sums.{sum_by_more, sum_by-take-le}
use Rattle.std.proofs.Math.Nat.{pow-suc, pow-le-pow_right}
use Rattle.std.proofs.lemmas.Nat.{pow_pos}
use Rattle.position_rank.specs.Placement.{moved}
use Rattle.column_sums.specs.Leaps.{layout_at}
use Rattle.column_sums.proofs.Distinct.{distinct-one}
use Rattle.column_sums.specs.AfterHits.{AreDistinct, AreHits, AreHitOn, AreMore, IsLayer}

pub moved-length : (a : List ℕ) (from to : ℕ) → length (moved a from to) ≡ length a
moved-length a from to = length-set (set a from (get_or a from 0 - 1)) to _ ∙ length-set a from _

pub moved-other : (a : List ℕ) (from to q : ℕ) → q ≢ from → q ≢ to → get_or (moved a from to) q 0 ≡ get_or a q 0
moved-other a from to q f t = get_or-set_other (set a from (get_or a from 0 - 1)) to q _ 0 t ∙ get_or-set_other a from q _ 0 f

pub moved-from : (a : List ℕ) (from to : ℕ) → from ≢ to → from < length a → get_or (moved a from to) from 0 ≡ get_or a from 0 - 1
moved-from a from to t h = get_or-set_other (set a from (get_or a from 0 - 1)) to from _ 0 t ∙ get_or-set_same a from _ 0 h

-- a checker from each of two points to the bar
twice : (a : List ℕ) (p q : ℕ) → length a ≡ 26 → p ≢ q → p ≢ 25 → q ≢ 25
    → moved (moved a p 25) q 25 ≡ set (set (set a p (get_or a p 0 - 1)) q (get_or a q 0 - 1)) 25 (get_or a 25 0 + 1 + 1)
twice a p q long apart p-low q-low =
    let x = get_or a p 0 - 1 in
    let first = set a p x in
    let v = get_or a 25 0 + 1 in
    let bar : get_or first 25 0 ≡ get_or a 25 0 = get_or-set_other a p 25 x 0 (λ e. p-low (sym e)) in
    let one : moved a p 25 ≡ set first 25 v = ap (λ (n : ℕ). set first 25 (n + 1)) bar in
    let q-is : get_or (set first 25 v) q 0 ≡ get_or a q 0 = get_or-set_other first 25 q v 0 q-low ∙ get_or-set_other a p q x 0 (λ e. apart (sym e)) in
    let y = get_or a q 0 - 1 in
    let long' : 25 < length first = omega (arith, length-set a p x, long) in
    let both = set (set first 25 v) q y in
    let bar' : get_or both 25 0 ≡ v = get_or-set_other (set first 25 v) q 25 y 0 (λ e. q-low (sym e)) ∙ get_or-set_same first 25 v 0 long' in
    let swapped : both ≡ set (set first q y) 25 v = set_comm first 25 q v y (λ e. q-low (sym e)) in
    ap (λ (m : List ℕ). moved m q 25) one
    ∙ (ap (λ (n : ℕ). set (set (set first 25 v) q (n - 1)) 25 (get_or (set (set first 25 v) q (n - 1)) 25 0 + 1)) q-is
    ∙ (ap (λ (n : ℕ). set both 25 (n + 1)) bar'
    ∙ (ap (λ (m : List ℕ). set m 25 (v + 1)) swapped ∙ set-set (set first q y) 25 v (v + 1))))

pub moved-comm : (a : List ℕ) (p q : ℕ) → length a ≡ 26 → p ≢ q → p ≢ 25 → q ≢ 25 → moved (moved a p 25) q 25 ≡ moved (moved a q 25) p 25
moved-comm a p q long apart p-low q-low =
    twice a p q long apart p-low q-low
    ∙ (ap (λ (m : List ℕ). set m 25 (get_or a 25 0 + 1 + 1)) (set_comm a p q _ _ apart)
    ∙ sym (twice a q p long (λ e. apart (sym e)) q-low p-low))

-- ---- one point more

module _ (other : List ℕ) (old new : List (List ℕ)) (p : ℕ) (before : AreHits other old p) (low : 1 ≤ p) (high : p ≤ 24) where
  pub single : get_or other p 0 ≡ 1 → (layer : ℕ) → layer < length old → get_or (layout_at old layer) p 0 ≡ 1
  single one layer h = before.alike.same layer p h (omega arith) high ∙ one

  module _ (on : AreHitOn p (length old) old new) where
    -- as before, or with a checker more on the bar
    cases : (P : List ℕ → Type 0) → ((layer : ℕ) → layer < length old → P (layout_at old layer)) → ((layer : ℕ) → layer < length old → P (moved (layout_at old layer) p 25))
        → (layer : ℕ) → layer < length new → P (layout_at new layer)
    cases P was hit layer h = elim (cases_lt layer (length old)) [
      | inl here ↦ subst P (sym (on.more.same layer here)) (was layer here)
      | inr more ↦ (let o = on.only layer more h in subst P (sym o.2) (hit o.0 o.1))
    ]

    lifted : (a : List ℕ) → IsLayer old a → IsLayer new a
    lifted a (layer, h, is) = (layer, omega (arith, h, on.more.longer), on.more.same layer h ∙ is)

    lifted-hit : (a : List ℕ) → IsLayer old a → IsLayer new (moved a p 25)
    lifted-hit a (layer, h, is) = subst (λ (m : List ℕ). IsLayer new (moved m p 25)) is (on.there layer h)

    IsHitBelow : ℕ → List ℕ → Type 0
    IsHitBelow point a = get_or a point 0 ≡ 1 → IsLayer new (moved a point 25)

    earlier : (point : ℕ) → 1 ≤ point → point < p → (layer : ℕ) → layer < length new → IsHitBelow point (layout_at new layer)
    unfolding IsHitBelow
    earlier point a b = cases (IsHitBelow point)
        (λ layer h one. lifted (moved (layout_at old layer) point 25) (before.hits layer point h a b one))
        (λ layer h one.
        let long = before.alike.places layer h in
        let apart : point ≢ p = omega (arith, b) in
        let same = moved-other (layout_at old layer) p 25 point apart (omega (arith, b, high)) in
        let hit = before.hits layer point h a b (sym same ∙ one) in
        subst (IsLayer new) (moved-comm (layout_at old layer) point p long apart (omega (arith, b, high)) (omega (arith, high))) (lifted-hit (moved (layout_at old layer) point 25) hit))

    here : get_or other p 0 ≡ 1 → (layer : ℕ) → layer < length new → IsHitBelow p (layout_at new layer)
    unfolding IsHitBelow
    here blot = cases (IsHitBelow p)
        (λ layer h one. on.there layer h)
        (λ layer h one.
        let long = before.alike.places layer h in
        let gone = moved-from (layout_at old layer) p 25 (omega (arith, high)) (omega (arith, long, high)) in
        absurd (omega (arith, gone, one, single blot layer h)))

    pub hits-more : length other ≡ 26 → get_or other p 0 ≡ 1 → AreHits other new (p + 1)
    unfolding IsHitBelow
    hits-more long blot = record {
      some = omega (arith, before.some, on.more.longer);
      first = on.more.same 0 before.some ∙ before.first;
      few = (
          let more : sum (take (p + 1) other) ≡ sum (take p other) + get_or other p 0 = sum_by_more (λ (x : ℕ). x) other p 0 (omega (arith, long, high)) in
          let is : sum (take (p + 1) other) ≡ suc (sum (take p other)) = omega (arith, more, blot) in
          rw is (omega (arith, before.few, on.few, pow-suc 2 (sum (take p other)))));
      distinct = on.distinct;
      alike = record {
        places = cases (λ (a : List ℕ). length a ≡ 26) before.alike.places (λ layer h. moved-length (layout_at old layer) p 25 ∙ before.alike.places layer h);
        same = λ layer point h a b. cases (λ (m : List ℕ). get_or m point 0 ≡ get_or other point 0)
            (λ l k. before.alike.same l point k (omega (arith, a)) b)
            (λ l k. moved-other (layout_at old l) p 25 point (omega (arith, a)) (omega (arith, b)) ∙ before.alike.same l point k (omega (arith, a)) b) layer h;
      };
      hits = λ layer point h a b one. elim (cases_lt point p) [
        | inl below ↦ earlier point a below layer h one
        | inr at ↦ (
            let same : p ≡ point = omega (arith, at, b) in
            subst (λ (q : ℕ). get_or (layout_at new layer) q 0 ≡ 1 → IsLayer new (moved (layout_at new layer) q 25)) same (here blot layer h) one)
      ];
    }

  -- where no single checker stands on the point
  pub hits-same : length other ≡ 26 → get_or other p 0 ≢ 1 → AreHits other old (p + 1)
  hits-same long none = record {
    some = before.some;
    first = before.first;
    few = (
        let more : sum (take (p + 1) other) ≡ sum (take p other) + get_or other p 0 = sum_by_more (λ (x : ℕ). x) other p 0 (omega (arith, long, high)) in
        let grown : sum (take p other) ≤ sum (take (p + 1) other) = omega (arith, more) in
        omega (arith, before.few, pow-le-pow_right {n = 2} (omega arith) grown));
    distinct = before.distinct;
    alike = record { places = before.alike.places; same = λ layer point h a b. before.alike.same layer point h (omega (arith, a)) b };
    hits = λ layer point h a b one. elim (cases_lt point p) [
      | inl below ↦ before.hits layer point h a below one
      | inr at ↦ (
          let same : point ≡ p = omega (arith, at, b) in
          absurd (none (sym (before.alike.same layer p h (omega arith) high) ∙ (ap (λ (q : ℕ). get_or (layout_at old layer) q 0) (sym same) ∙ one))))
    ];
  }

pub hits-start : (other : List ℕ) → length other ≡ 26 → AreHits other (other ∷ []) 1
hits-start other long = record {
  some = omega arith;
  first = refl;
  few = omega (arith, pow_pos (sum (take 1 other)));
  distinct = distinct-one other;
  alike = record {
    places = λ layer h. by_first (λ (a : List ℕ). length a ≡ 26) long layer h;
    same = λ layer point h a b. by_first (λ (a : List ℕ). get_or a point 0 ≡ get_or other point 0) refl layer h;
  };
  hits = λ layer point h a b one. absurd (omega (arith, a, b));
} where
  by_first : (P : List ℕ → Type 0) → P other → (layer : ℕ) → layer < length (other ∷ []) → P (layout_at (other ∷ []) layer)
  by_first P is zero h = is
  by_first P is (suc layer) h = absurd (omega (arith, h))

-- before a point with a single checker there are at most four
pub room-more : (other : List ℕ) (old : List (List ℕ)) (p : ℕ) → AreHits other old p → length other ≡ 26 → sum other ≤ 3 → p ≤ 24 → get_or other p 0 ≡ 1 → length old ≤ 4
room-more other old p before long three high one =
    let more : sum (take (p + 1) other) ≡ sum (take p other) + get_or other p 0 = sum_by_more (λ (x : ℕ). x) other p 0 (omega (arith, long, high)) in
    let within : sum (take (p + 1) other) ≤ sum other = sum_by-take-le (λ (x : ℕ). x) other (p + 1) in
    let two : sum (take p other) ≤ 2 = omega (arith, more, within, three, one) in
    omega (arith, before.few, pow-le-pow_right {n = 2} (omega arith) two)

-- and never more than eight
pub room-all : (other : List ℕ) (old : List (List ℕ)) (p : ℕ) → AreHits other old p → sum other ≤ 3 → length old ≤ 8
room-all other old p before three =
    let within : sum (take p other) ≤ sum other = sum_by-take-le (λ (x : ℕ). x) other p in
    let few : sum (take p other) ≤ 3 = omega (arith, within, three) in
    omega (arith, before.few, pow-le-pow_right {n = 2} (omega arith) few)

-- ---- one layer after another

pub hit-more : (point count : ℕ) (old now new : List (List ℕ)) (x : List ℕ) → AreHitOn point count old now → AreMore now new → length new ≤ length now + 1 → AreDistinct new → IsLayer new x
    → ((layer : ℕ) → length now ≤ layer → layer < length new → layout_at new layer ≡ x) → count < length old → x ≡ moved (layout_at old count) point 25 → AreHitOn point (count + 1) old new
hit-more point count old now new x on more few distinct there only here is = record {
  more = record { longer = omega (arith, on.more.longer, more.longer); same = λ layer h. more.same layer (omega (arith, h, on.more.longer)) ∙ on.more.same layer h };
  few = omega (arith, few, on.few);
  distinct = distinct;
  there = λ layer h. elim (cases_lt layer count) [
    | inl below ↦ (let t = on.there layer below in (t.0, omega (arith, t.1, more.longer), more.same t.0 t.1 ∙ t.2))
    | inr at ↦ (
        let same : count ≡ layer = omega (arith, at, h) in
        subst (λ (n : ℕ). IsLayer new (moved (layout_at old n) point 25)) same (subst (IsLayer new) is there))
  ];
  only = λ layer a b. elim (cases_lt layer (length now)) [
    | inl below ↦ (let o = on.only layer a below in (o.0, o.1, more.same layer below ∙ o.2))
    | inr added ↦ (count, here, only layer added b ∙ is)
  ];
}

pub any-layer : (xs : List (List ℕ)) (i : ℕ) (d : List ℕ) → i < length xs → get_or xs i d ≡ layout_at xs i
any-layer [] i d h = absurd (omega arith)
any-layer (x ∷ xs) zero d h = refl
any-layer (x ∷ xs) (suc i) d h = any-layer xs i d (omega (arith, h))
