-- The first place in a list at which a test passes.
use Rattle.std.proofs.Common.{◌≡◌, ◌≤◌, ℕ, Bool, true, false, not, cond, ltb, Some, None, List, length, inl, inr, refl, arith}
use Rattle.std.proofs.lemmas.Bool.{cases_lt}
use Rattle.std.proofs.lemmas.Bool.Decides.{nat_tests}
use Rattle.std.proofs.lemmas.List.Sums.{prefix_len-le-length}
use Rattle.std.specs.List.{position_or_len}
use Rattle.std.specs.Option.{unwrap_or}

position_or_len-le : {X : Type 0} (p : X → Bool) (xs : List X) → position_or_len p xs ≤ length xs
position_or_len-le p xs = prefix_len-le-length (λ x. not (p x)) xs

found_or : (k n : ℕ) → k ≤ n → unwrap_or (cond (ltb k n) (Some k) None) n ≡ k
found_or k n h = elim (cases_lt k n) [ inl l ↦ (let e : ltb k n ≡ true = grind (arith, nat_tests) in rw e refl) | inr g ↦ (let e : ltb k n ≡ false = grind (arith, nat_tests) in rw e (omega arith)) ]

pub place_found : {X : Type 0} (p : X → Bool) (xs : List X) → unwrap_or (cond (ltb (position_or_len p xs) (length xs)) (Some (position_or_len p xs)) None) (length xs) ≡ position_or_len p xs
place_found p xs = found_or _ _ (position_or_len-le p xs)
