-- Sums over views, one of which changes.
use Rattle.std.proofs.Common.{◌≡◌, ◌≢◌, ℕ, zero, suc, ◌+◌, ◌<◌, ◌≤◌, Bool, true, cond, Contains, ◌&&◌, eqb, List, [], ◌∷◌, length, get_or, set, count_by, sum_by, refl, sym, ap, arith}
use Rattle.std.proofs.lemmas.Bool.{lt-ltb, le-ltb, and_from, eq-eqb}
use Rattle.std.proofs.lemmas.List.Sums.{sum_by-cons, sum_by-append}
use lib.ListN.{get_elem?}
use mathlib.Core.Option.{some, some-injective, some-ne-none}
use Rattle.block_claims.specs.declared.views.Claim.{Claim}
use Rattle.block_claims.specs.declared.views.ClaimView.{ClaimView}
use Rattle.block_claims.specs.Views.{often, fresh}
use Rattle.block_claims.specs.Claiming.{after_claim, with_taken}

abbrev pub one : Bool → ℕ
one b = cond b 1 0

pub here : {X : Type 0} (xs : List X) (i : ℕ) (x : X) → get_elem? xs i ≡ some x → i < length xs
here [] i x e = absurd (some-ne-none x (sym e))
here (y ∷ xs) zero x e = omega arith
here (y ∷ xs) (suc i) x e = omega (arith, here xs i x e)

-- an element is replaced by another
pub sum-replaced : {X : Type 0} (f : X → ℕ) (xs : List X) (i : ℕ) (x y : X) → get_elem? xs i ≡ some x → sum_by f (set xs i y) + f x ≡ sum_by f xs + f y
sum-replaced f [] i x y e = absurd (some-ne-none x (sym e))
sum-replaced f (z ∷ xs) zero x y e = omega (arith, sum_by-cons f y xs, sum_by-cons f z xs, ap f (some-injective z x e))
sum-replaced f (z ∷ xs) (suc i) x y e = omega (arith, sum_by-cons f z (set xs i y), sum_by-cons f z xs, sum-replaced f xs i x y e)

-- one part of a sum
pub sum-part : {X : Type 0} (f : X → ℕ) (xs : List X) (i : ℕ) (x : X) → get_elem? xs i ≡ some x → f x ≤ sum_by f xs
sum-part f [] i x e = absurd (some-ne-none x (sym e))
sum-part f (z ∷ xs) zero x e = omega (arith, sum_by-cons f z xs, ap f (some-injective z x e))
sum-part f (z ∷ xs) (suc i) x e = omega (arith, sum_by-cons f z xs, sum-part f xs i x e)

-- two parts of a sum
pub sum-parts : {X : Type 0} (f : X → ℕ) (xs : List X) (i j : ℕ) (x y : X) → get_elem? xs i ≡ some x → get_elem? xs j ≡ some y → i ≢ j → f x + f y ≤ sum_by f xs
sum-parts f [] i j x y e d apart = absurd (some-ne-none x (sym e))
sum-parts f (z ∷ xs) zero zero x y e d apart = absurd (apart refl)
sum-parts f (z ∷ xs) zero (suc j) x y e d apart = omega (arith, sum_by-cons f z xs, ap f (some-injective z x e), sum-part f xs j y d)
sum-parts f (z ∷ xs) (suc i) zero x y e d apart = omega (arith, sum_by-cons f z xs, ap f (some-injective z y d), sum-part f xs i x e)
sum-parts f (z ∷ xs) (suc i) (suc j) x y e d apart = omega (arith, sum_by-cons f z xs, sum-parts f xs i j x y e d (λ same. apart (ap suc same)))

-- a claim is of this block and round
abbrev pub is : ℕ → ℕ → ℕ → ℕ → Bool
is block round b r = eqb block b && eqb round r

pub often-claimed : (block round found b r : ℕ) (view : ClaimView) → found < round → often b r (after_claim block round found view) ≡ one (is block round b r) + often b r view
often-claimed block round found b r view below = rw (lt-ltb found round below) (sum_by-cons (λ (claim : Claim). cond (eqb claim.block b && eqb claim.round r) 1 0) (record { block = block; round = round }) view.claims)

pub often-missed : (block round found b r : ℕ) (view : ClaimView) → round ≤ found → often b r (after_claim block round found view) ≡ often b r view
often-missed block round found b r view above = rw (le-ltb found round above) refl

pub often-joined : (b r : ℕ) (view other : ClaimView) → often b r (with_taken view other) ≡ often b r view + often b r other
often-joined b r view other = sum_by-append (λ (claim : Claim). cond (eqb claim.block b && eqb claim.round r) 1 0) view.claims other.claims

pub often-fresh : (b r : ℕ) → often b r fresh ≡ 0
often-fresh b r = refl

-- each block and round is itself
pub self : (x y : ℕ) → (eqb x x && eqb y y) ≡ true
self x y = and_from (eqb x x) (eqb y y) (eq-eqb x x refl) (eq-eqb y y refl)

contained : (claims : List Claim) (claim : Claim) (k : ℕ) → k < length claims → get_or claims k claim ≡ claim → 1 ≤ count_by (λ (c : Claim). eqb c.block claim.block && eqb c.round claim.round) claims
contained [] claim k h e = absurd (omega (arith, h))
contained (c ∷ cs) claim zero h e =
    omega (arith, sum_by-cons (λ (c : Claim). cond (eqb c.block claim.block && eqb c.round claim.round) 1 0) c cs, ap (λ (x : Claim). one (eqb x.block claim.block && eqb x.round claim.round)) e, ap one (self claim.block claim.round))
contained (c ∷ cs) claim (suc k) h e =
    omega (arith, sum_by-cons (λ (c : Claim). cond (eqb c.block claim.block && eqb c.round claim.round) 1 0) c cs, contained cs claim k (omega (arith, h)) e)

-- a claim that stands in a view counts there
pub often-some : (view : ClaimView) (claim : Claim) → Contains view.claims claim → 1 ≤ often claim.block claim.round view
often-some view claim there = contained view.claims claim there.0 there.1 there.2
