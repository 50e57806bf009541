-- What is kept for both ends, looked at at one.
use Rattle.std.proofs.Common.{◌≡◌, ◌≤◌, ◌<◌, ◌∙◌, ◌^◌, ℕ, zero, suc, pos, ◌+ℤ◌, ◌*ℤ◌, get_or, set, List, [], ◌∷◌, length, map, replicate, Some, None, refl, ap, sym, subst, arith}
use Rattle.directed_fixed.specs.declared.bounds.End.{End}
use Rattle.directed_fixed.specs.declared.bounds.End.TheVariants.{Lower, Upper}
use Rattle.directed_fixed.specs.Bounds.{IsWithinUnits}
use Rattle.column_sums.specs.declared.best.Bests.{Bests}
use Rattle.column_sums.specs.declared.best.Worths.{Worths}
use Rattle.column_sums.specs.Tables.{AreRow, AreTable}
use Rattle.column_sums.specs.Sums.{AreSmall, sum_at}
use Rattle.column_sums.specs.Worths.{AreSmallWorths, best_at, worth_at, worths_at}

module _ {A B : Type 0} (f : A → B) where
  pub length-map : (xs : List A) → length (map f xs) ≡ length xs
  length-map [] = refl
  length-map (x ∷ xs) = ap suc (length-map xs)

  pub map-set : (xs : List A) (i : ℕ) (x : A) → map f (set xs i x) ≡ set (map f xs) i (f x)
  map-set [] i x = refl
  map-set (y ∷ xs) zero x = refl
  map-set (y ∷ xs) (suc i) x = ap (λ (ys : List B). f y ∷ ys) (map-set xs i x)

  pub get-map : (xs : List A) (i : ℕ) (d : A) (e : B) → i < length xs → get_or (map f xs) i e ≡ f (get_or xs i d)
  get-map [] i d e h = absurd (omega (arith, h))
  get-map (x ∷ xs) zero d e h = refl
  get-map (x ∷ xs) (suc i) d e h = get-map xs i d e (omega (arith, h))

  pub map-replicate : (n : ℕ) (x : A) → map f (replicate n x) ≡ replicate n (f x)
  map-replicate zero x = refl
  map-replicate (suc n) x = ap (λ (ys : List B). f x ∷ ys) (map-replicate n x)

pub best-some : (bests : Bests) (worths : Worths) → bests.lower ≡ Some worths.lower → bests.upper ≡ Some worths.upper → (end : End) → best_at end bests ≡ Some (worth_at end worths)
best-some bests worths lower upper Lower = lower
best-some bests worths lower upper Upper = upper

pub best-none : (bests : Bests) → bests.lower ≡ None → bests.upper ≡ None → (end : End) → best_at end bests ≡ None
best-none bests lower upper Lower = lower
best-none bests lower upper Upper = upper

pub small-at : (worths : Worths) → AreSmallWorths worths → (end : End) → IsWithinUnits (pos (2 ^ 36)) (worth_at end worths)
small-at worths small Lower = small.lower
small-at worths small Upper = small.upper

-- a row can be used as a table
pub row-table : (cells : List Bests) → AreRow cells → AreTable cells
row-table cells row = record { many = row.many; each = λ end. record { many = (row.each end).many; missing = (row.each end).missing } }

pub zeros-at : (worths : Worths) → worths ≡ record { lower = pos 0; upper = pos 0 } → (end : End) → worth_at end worths ≡ pos 0
zeros-at worths is Lower = ap (λ (w : Worths). w.lower) is
zeros-at worths is Upper = ap (λ (w : Worths). w.upper) is

pub added-at : (x sum best : Worths) (times : ℕ) → x.lower ≡ sum.lower +ℤ pos times *ℤ best.lower → x.upper ≡ sum.upper +ℤ pos times *ℤ best.upper → (end : End) → worth_at end x ≡ worth_at end sum +ℤ pos times *ℤ worth_at end best
added-at x sum best times lower upper Lower = lower
added-at x sum best times lower upper Upper = upper

-- a sum that was read is the one that stood there
pub read-sum : (start sums : List Worths) (at : ℕ) (read : Worths) → at < length sums → read ≡ get_or sums at read → ((end : End) (k : ℕ) → at ≤ k → sum_at (worths_at end sums) k ≡ sum_at (worths_at end start) k)
    → (end : End) → worth_at end read ≡ sum_at (worths_at end start) at
read-sum start sums at read here is rest end = ap (worth_at end) is ∙ (sym (get-map (worth_at end) sums at read (pos 0) here) ∙ rest end at (omega arith))

pub read-small : (start sums : List Worths) (at movers : ℕ) (read : Worths) → at < length sums → read ≡ get_or sums at read → ((end : End) (k : ℕ) → at ≤ k → sum_at (worths_at end sums) k ≡ sum_at (worths_at end start) k)
    → ((end : End) → AreSmall (worths_at end start) movers) → at < movers → (end : End) → IsWithinUnits (pos (2 ^ 42)) (worth_at end read)
read-small start sums at movers read here is rest small below end = subst (IsWithinUnits (pos (2 ^ 42))) (sym (read-sum start sums at read here is rest end)) (small end at below)

-- what holds at the lower end and at the upper one holds at each
pub both : (P : End → Type 0) → P Lower → P Upper → (end : End) → P end
both P lower upper Lower = lower
both P lower upper Upper = upper
