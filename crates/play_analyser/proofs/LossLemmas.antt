-- The loss of a choice among a list of others, one after another.
use Rattle.std.proofs.Common.{◌≡◌, ◌<◌, ◌≤◌, ◌+◌, ◌++◌, ◌∙◌, ℕ, ℤ, pos, ◌-ℤ◌, List, [], ◌∷◌, length, map, take, get_or, ap, sym, arith}
use Rattle.std.specs.Int.{int_max}
use Rattle.std.proofs.lemmas.Int.{ints, clamps}
use Rattle.std.proofs.lemmas.List.{take_more, take_all}
use Rattle.directed_fixed.specs.Bounds.{Bounds}
use Rattle.play_analyser.specs.Losses.{ahead, loss}

max-comm : (a b : ℤ) → int_max a b ≡ int_max b a
max-comm a b = omega (arith, ints, clamps)

max-assoc : (a b c : ℤ) → int_max a (int_max b c) ≡ int_max (int_max a b) c
max-assoc a b c = omega (arith, ints, clamps)

-- a pair by its two ends
pub both_ends : (pair : Bounds) (low high : ℤ) → pair.lower ≡ low → pair.upper ≡ high → pair ≡ record { lower = low; upper = high }
both_ends pair low high h k =
    let with_lower : ℤ → Bounds = λ z. record { lower = z; upper = pair.upper } in
    let with_upper : ℤ → Bounds = λ z. record { lower = low; upper = z } in
    ap with_lower h ∙ ap with_upper k

module _ (f : Bounds → ℤ) (mine : ℤ) where
  ahead-append : (pairs : List Bounds) (pair : Bounds) → ahead (map f (pairs ++ pair ∷ [])) mine ≡ int_max (ahead (map f pairs) mine) (f pair -ℤ mine)
  ahead-append [] pair = max-comm (f pair -ℤ mine) (pos 0)
  ahead-append (first ∷ pairs) pair = ap (int_max (f first -ℤ mine)) (ahead-append pairs pair) ∙ max-assoc (f first -ℤ mine) (ahead (map f pairs) mine) (f pair -ℤ mine)

  ahead-next : (pairs : List Bounds) (i : ℕ) (pair : Bounds) → i < length pairs → pair ≡ get_or pairs i pair → ahead (map f (take (i + 1) pairs)) mine ≡ int_max (ahead (map f (take i pairs)) mine) (f pair -ℤ mine)
  ahead-next pairs i pair here is =
      ap (λ (xs : List Bounds). ahead (map f xs) mine) (take_more pairs i pair here ∙ ap (λ (x : Bounds). take i pairs ++ x ∷ []) (sym is)) ∙ ahead-append (take i pairs) pair

-- one other more
pub loss-next : (chosen : Bounds) (others : List Bounds) (i : ℕ) (other so_far now : Bounds) → i < length others → other ≡ get_or others i other → so_far ≡ loss (record { chosen = chosen; others = take i others })
    → now.lower ≡ int_max so_far.lower (other.lower -ℤ chosen.upper) → now.upper ≡ int_max so_far.upper (other.upper -ℤ chosen.lower) → now ≡ loss (record { chosen = chosen; others = take (i + 1) others })
loss-next chosen others i other so_far now here is before low high =
    both_ends now _ _
    (low ∙ (ap (λ (b : Bounds). int_max b.lower (other.lower -ℤ chosen.upper)) before ∙ sym (ahead-next (λ (b : Bounds). b.lower) chosen.upper others i other here is)))
    (high ∙ (ap (λ (b : Bounds). int_max b.upper (other.upper -ℤ chosen.lower)) before ∙ sym (ahead-next (λ (b : Bounds). b.upper) chosen.lower others i other here is)))

pub loss-all : (chosen : Bounds) (others : List Bounds) (i : ℕ) (now : Bounds) → length others ≤ i → now ≡ loss (record { chosen = chosen; others = take i others }) → now ≡ loss (record { chosen = chosen; others = others })
loss-all chosen others i now past is = is ∙ ap (λ (xs : List Bounds). loss (record { chosen = chosen; others = xs })) (take_all i others past)
