-- Where pairs enclose what could be chosen, their loss encloses the regret.
use Rattle.std.proofs.Common.{ℕ, ℤ, pos, neg_ℤ, ◌≤ℤ◌, ◌+ℤ◌, ◌*ℤ◌, ◌^◌, List, [], ◌∷◌, map, refl, inl, inr, arith}
use Rattle.std.specs.Bool.{⊤}
use Rattle.std.proofs.lemmas.Int.{ints}
use Rattle.move_rules.specs.Listing.{Among}
use Rattle.directed_fixed.specs.declared.bounds.End.{End}
use Rattle.directed_fixed.specs.declared.bounds.End.TheVariants.{Lower, Upper}
use Rattle.directed_fixed.specs.Bounds.{Bounds, other}
use Rattle.turn_rule.specs.Truth.{IsBoundOf, Encloses}
use Rattle.turn_rule.proofs.Integers.{add_mono, distribute}
use Rattle.turn_rule.proofs.Fractions.{bound-max, bound-neg}
use Rattle.play_analyser.specs.Losses.{Options, ahead, regret, loss, lower_ends, upper_ends}

plus-scaled : (c d : ℕ) (a b x y : ℤ) → (pos c *ℤ a) ≤ℤ (pos d *ℤ x) → (pos c *ℤ b) ≤ℤ (pos d *ℤ y) → (pos c *ℤ (a +ℤ b)) ≤ℤ (pos d *ℤ (x +ℤ y))
plus-scaled c d a b x y h k = rw (distribute c a b, distribute d x y) (add_mono _ _ _ _ h k)

bound-plus : (end : End) (a b x y : ℤ) (over : ℕ) → IsBoundOf end a x over → IsBoundOf end b y over → IsBoundOf end (a +ℤ b) (x +ℤ y) over
bound-plus Lower a b x y over h k = plus-scaled over (2 ^ 32) a b x y h k
bound-plus Upper a b x y over h k = plus-scaled (2 ^ 32) over x y a b h k

bound-zero : (end : End) (over : ℕ) → IsBoundOf end (pos 0) (pos 0) over
bound-zero Lower over = omega (arith, ints)
bound-zero Upper over = omega (arith, ints)

-- this end of some pairs
abbrev ends : End → List Bounds → List ℤ
ends Lower pairs = lower_ends pairs
ends Upper pairs = upper_ends pairs

-- pairs enclose numbers, one each, all over the same
abbrev pub AllEnclose : ℕ → List Bounds → List ℤ → Type 0
AllEnclose over [] [] = ⊤
AllEnclose over [] (x ∷ xs) = ⊥
AllEnclose over (pair ∷ pairs) [] = ⊥
AllEnclose over (pair ∷ pairs) (x ∷ xs) = Encloses pair x over × AllEnclose over pairs xs

-- one end of what the others are ahead by
bound-ahead : (end : End) (over : ℕ) (pairs : List Bounds) (xs : List ℤ) (a x : ℤ) → AllEnclose over pairs xs → IsBoundOf (other end) a x over → IsBoundOf end (ahead (ends end pairs) a) (ahead xs x) over
bound-ahead Lower over [] [] a x all mine = bound-zero Lower over
bound-ahead Upper over [] [] a x all mine = bound-zero Upper over
bound-ahead end over [] (y ∷ ys) a x all mine = absurd all
bound-ahead end over (pair ∷ pairs) [] a x all mine = absurd all
bound-ahead Lower over (pair ∷ pairs) (y ∷ ys) a x all mine =
    bound-max Lower (pair.lower +ℤ neg_ℤ a) (ahead (ends Lower pairs) a) (y +ℤ neg_ℤ x) (ahead ys x) over (bound-plus Lower pair.lower (neg_ℤ a) y (neg_ℤ x) over all.0.lower (bound-neg Lower a x over mine))
    (bound-ahead Lower over pairs ys a x all.1 mine)
bound-ahead Upper over (pair ∷ pairs) (y ∷ ys) a x all mine =
    bound-max Upper (pair.upper +ℤ neg_ℤ a) (ahead (ends Upper pairs) a) (y +ℤ neg_ℤ x) (ahead ys x) over (bound-plus Upper pair.upper (neg_ℤ a) y (neg_ℤ x) over all.0.upper (bound-neg Upper a x over mine))
    (bound-ahead Upper over pairs ys a x all.1 mine)

-- pairs enclose what could be chosen
pub record OptionsEnclose (over : ℕ) (pairs : Options Bounds) (worths : Options ℤ) : Type 0 where
  pub chosen : Encloses pairs.chosen worths.chosen over
  pub others : AllEnclose over pairs.others worths.others

pub loss-encloses : (over : ℕ) (pairs : Options Bounds) (worths : Options ℤ) → OptionsEnclose over pairs worths → Encloses (loss pairs) (regret worths) over
loss-encloses over pairs worths h = record {
  lower = bound-ahead Lower over pairs.others worths.others pairs.chosen.upper worths.chosen h.others h.chosen.upper;
  upper = bound-ahead Upper over pairs.others worths.others pairs.chosen.lower worths.chosen h.others h.chosen.lower;
}

-- what is so of each of a list is so of what it is mapped to
pub map-encloses : {X : Type 0} (over : ℕ) (f : X → Bounds) (g : X → ℤ) (xs : List X) → ((x : X) → Among x xs → Encloses (f x) (g x) over) → AllEnclose over (map f xs) (map g xs)
map-encloses over f g [] h = tt
map-encloses over f g (x ∷ xs) h = (h x (inl refl), map-encloses over f g xs (λ y m. h y (inr m)))
