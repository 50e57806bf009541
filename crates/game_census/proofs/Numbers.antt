-- What a filter keeps of the numbers below another one, and of that one.
use Rattle.std.proofs.Common.{◌≡◌, ◌∙◌, ◌+◌, ◌++◌, ℕ, Bool, true, false, List, [], ◌∷◌, cond, sym, ap, arith}
use mathlib.Core.List.{map-id}
use Rattle.std.specs.List.{filter, range_with_len}
use Rattle.std.proofs.lemmas.List.{append-nil}
use Rattle.std.proofs.lemmas.List.FromFn.{filter_of_map_range_with_len_more}

next : (p : ℕ → Bool) (n : ℕ) → filter p (range_with_len 0 (n + 1)) ≡ filter p (range_with_len 0 n) ++ cond (p n) (n ∷ []) []
next p n =
    ap (filter p) (sym (map-id (range_with_len 0 (n + 1))))
    ∙ filter_of_map_range_with_len_more p (λ (x : ℕ). x) 0 n n (omega arith)
    ∙ ap (λ (l : List ℕ). filter p l ++ cond (p n) (n ∷ []) []) (map-id (range_with_len 0 n))

pub filter-keeps : (p : ℕ → Bool) (n : ℕ) → p n ≡ true → filter p (range_with_len 0 (n + 1)) ≡ filter p (range_with_len 0 n) ++ n ∷ []
filter-keeps p n may = next p n ∙ ap (λ (b : Bool). filter p (range_with_len 0 n) ++ cond b (n ∷ []) []) may

pub filter-leaves : (p : ℕ → Bool) (n : ℕ) → p n ≡ false → filter p (range_with_len 0 (n + 1)) ≡ filter p (range_with_len 0 n)
filter-leaves p n may = next p n ∙ ap (λ (b : Bool). filter p (range_with_len 0 n) ++ cond b (n ∷ []) []) may ∙ append-nil (filter p (range_with_len 0 n))
