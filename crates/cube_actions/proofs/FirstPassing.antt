-- The first place in a list at which a test passes.
use Rattle.std.proofs.Common.{◌≡◌, ◌≤◌, ◌<◌, ℕ, Bool, true, false, not, cond, ltb, Some, None, List, length, get_or, ◌⊎◌, inl, inr, refl, arith}
use Rattle.std.proofs.lemmas.Bool.{cases_lt}
use Rattle.std.proofs.lemmas.Bool.Decides.{nat_tests}
use Rattle.std.proofs.lemmas.List.Sums.{prefix_len-le-length}
use Rattle.std.proofs.lemmas.List.Folds.{list_all_at}
use Rattle.std.proofs.lemmas.List.Quantifiers.{position-Some}
use Rattle.std.specs.List.{position_or_len, list_all}
use Rattle.std.specs.Option.{unwrap_or}

pub position_or_len-le : {X : Type 0} (p : X → Bool) (xs : List X) → position_or_len p xs ≤ length xs
position_or_len-le p xs = prefix_len-le-length (λ x. not (p x)) xs

pub either : (b : Bool) → (b ≡ true) ⊎ (b ≡ false)
either true = inl refl
either false = inr refl

found_or : (k n : ℕ) → k ≤ n → unwrap_or (cond (ltb k n) (Some k) None) n ≡ k
found_or k n h = elim (cases_lt k n) [ inl l ↦ (let e : ltb k n ≡ true = grind (arith, nat_tests) in rw e refl) | inr g ↦ (let e : ltb k n ≡ false = grind (arith, nat_tests) in rw e (omega arith)) ]

pub place_found : {X : Type 0} (p : X → Bool) (xs : List X) → unwrap_or (cond (ltb (position_or_len p xs) (length xs)) (Some (position_or_len p xs)) None) (length xs) ≡ position_or_len p xs
place_found p xs = found_or _ _ (position_or_len-le p xs)

-- what all elements pass, the element at an index passes
pub passed_at : {X : Type 0} (p : X → Bool) (xs : List X) (i : ℕ) (d : X) → list_all p xs ≡ true → i < length xs → p (get_or xs i d) ≡ true
passed_at p xs i d all within = elim (either (p (get_or xs i d))) [ inl h ↦ h | inr h ↦ (let e = list_all_at p xs i d within h in cc) ]

pub found_at : {X : Type 0} (p : X → Bool) (xs : List X) (d : X) → position_or_len p xs < length xs → p (get_or xs (position_or_len p xs) d) ≡ true
found_at p xs d within =
    let e : ltb (position_or_len p xs) (length xs) ≡ true = grind (arith, nat_tests) in
    (position-Some p xs (position_or_len p xs) d (rw e refl)).1
