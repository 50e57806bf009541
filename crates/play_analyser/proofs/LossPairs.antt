-- The loss of a choice over looked up pairs.
use Rattle.std.proofs.Common.{◌≡◌, ℕ, ℤ, pos, neg_ℤ, ◌+ℤ◌, ◌-ℤ◌, ◌*ℤ◌, ◌≤ℤ◌, ◌<◌, List, [], ◌∷◌, length, map, take, get_or, None, IsTrue, inl, inr, refl, subst, sym, arith}
use Rattle.std.specs.Int.{int_max}
use Rattle.std.proofs.lemmas.Int.{ints, clamps}
use Rattle.position_rank.specs.Placement.{Placement}
use Rattle.move_rules.specs.Listing.{Among}
use Rattle.directed_fixed.specs.declared.bounds.End.{End}
use Rattle.directed_fixed.specs.declared.bounds.End.TheVariants.{Lower, Upper}
use Rattle.directed_fixed.specs.Bounds.{Bounds, IsWithin, AreNoLooserPairs, at, negated}
use Rattle.turn_rule.specs.Turn.{Words}
use Rattle.turn_rule.specs.Looks.{Source, Notes, Damage, Sought, States, IsBetweenWords, IsPairOf, IsPairFor}
use Rattle.turn_rule.proofs.MetFirst.{met-at}
use Rattle.turn_rule.proofs.Tight.{each-end}
use Rattle.play_analyser.specs.Losses.{Options, ahead, loss, lower_ends, upper_ends}
use Rattle.play_analyser.specs.Sought.{ArePairsFor, MeetsSome}
use Rattle.play_analyser.proofs.Tighter.{AllTighter, OptionsTighter, loss-tighter, negated-tighter}

-- ---- how large a loss is

pub record OptionsWithin (bound : ℤ) (options : Options Bounds) : Type 0 where
  pub chosen : IsWithin bound options.chosen
  pub others : (pair : Bounds) → Among pair options.others → IsWithin bound pair

most_of : (v m rest bound : ℤ) → v ≤ℤ bound → neg_ℤ bound ≤ℤ m → rest ≤ℤ (bound +ℤ bound) → int_max (v -ℤ m) rest ≤ℤ (bound +ℤ bound)
most_of v m rest bound h k l = omega (arith, ints, clamps)

later-positive : (v rest : ℤ) → pos 0 ≤ℤ rest → pos 0 ≤ℤ int_max v rest
later-positive v rest h = omega (arith, ints, clamps)

both-order : (a b m n x y : ℤ) → a ≤ℤ b → n ≤ℤ m → x ≤ℤ y → int_max (a -ℤ m) x ≤ℤ int_max (b -ℤ n) y
both-order a b m n x y h k l = omega (arith, ints, clamps)

ahead-positive : (values : List ℤ) (mine : ℤ) → pos 0 ≤ℤ ahead values mine
ahead-positive [] mine = omega (arith, ints)
ahead-positive (value ∷ values) mine = later-positive (value -ℤ mine) (ahead values mine) (ahead-positive values mine)

ahead-most : (bound mine : ℤ) → pos 0 ≤ℤ bound → neg_ℤ bound ≤ℤ mine → (pairs : List Bounds) → ((pair : Bounds) → Among pair pairs → IsWithin bound pair) → ahead (upper_ends pairs) mine ≤ℤ (bound +ℤ bound)
ahead-most bound mine z h [] within = omega (arith, ints)
ahead-most bound mine z h (pair ∷ pairs) within = most_of pair.upper mine (ahead (upper_ends pairs) mine) bound (within pair (inl refl)).to h (ahead-most bound mine z h pairs (λ q m. within q (inr m)))

ahead-order : (m n : ℤ) → n ≤ℤ m → (pairs : List Bounds) → ((pair : Bounds) → Among pair pairs → pair.lower ≤ℤ pair.upper) → ahead (lower_ends pairs) m ≤ℤ ahead (upper_ends pairs) n
ahead-order m n h [] order = omega (arith, ints)
ahead-order m n h (pair ∷ pairs) order = both-order pair.lower pair.upper m n (ahead (lower_ends pairs) m) (ahead (upper_ends pairs) n) (order pair (inl refl)) h (ahead-order m n h pairs (λ q k. order q (inr k)))

pub loss-positive : (options : Options Bounds) → pos 0 ≤ℤ (loss options).lower
loss-positive options = ahead-positive (lower_ends options.others) options.chosen.upper

twice : (bound x : ℤ) → x ≤ℤ ((pos 4 *ℤ bound) +ℤ (pos 4 *ℤ bound)) → x ≤ℤ (pos 8 *ℤ bound)
twice bound x h = omega (arith, ints)

from_zero : (bound x : ℤ) → pos 0 ≤ℤ bound → pos 0 ≤ℤ x → neg_ℤ (pos 8 *ℤ bound) ≤ℤ x
from_zero bound x h k = omega (arith, ints)

four : (bound : ℤ) → pos 0 ≤ℤ bound → pos 0 ≤ℤ (pos 4 *ℤ bound)
four bound h = omega (arith, ints)

pub loss-within : (bound : ℤ) → pos 0 ≤ℤ bound → (options : Options Bounds) → OptionsWithin (pos 4 *ℤ bound) options → IsWithin (pos 8 *ℤ bound) (loss options)
loss-within bound z options within = record {
  from = from_zero bound _ z (loss-positive options);
  in_order = ahead-order options.chosen.upper options.chosen.lower within.chosen.in_order options.others (λ pair m. (within.others pair m).in_order);
  to = twice bound _ (ahead-most (pos 4 *ℤ bound) options.chosen.lower (four bound z) within.chosen.from options.others within.others);
}

-- ---- a loss over pairs at hand

pub loss-pair : (s : Source) (w : Notes) (states : States) (over : Words → Options Bounds) (value : Words → Bounds) → ((u : Words) → loss (over u) ≡ value u) → pos 0 ≤ℤ s.bound → (options : Options Bounds) → OptionsWithin (pos 4 *ℤ s.bound) options
    → (IsTrue w.told → OptionsTighter options (over s.floor)) → (IsTrue w.told → OptionsTighter (over w.words) options) → (IsTrue w.told → (p : Placement) (k : ℕ) → states p k → s.damage p k ≡ None)
    → IsPairOf s w states (pos 8 *ℤ s.bound) (λ (end : End) (u : Words). at end (value u)) (loss options)
loss-pair s w states over value same z options within floor notes right =
    let upon : IsTrue w.told → AreNoLooserPairs (loss options) (value s.floor) = λ told. subst (AreNoLooserPairs (loss options)) (same s.floor) (loss-tighter options (over s.floor) (floor told)) in
    let under : IsTrue w.told → AreNoLooserPairs (value w.words) (loss options) = λ told. subst (λ (b : Bounds). AreNoLooserPairs b (loss options)) (same w.words) (loss-tighter (over w.words) options (notes told)) in
    record {
      within = loss-within s.bound z options within;
      ends = λ told. each-end (λ end. IsBetweenWords end s.floor w.words (λ u. at end (value u)) (at end (loss options)))
          (record { no_looser = (upon told).lower; no_tighter = (under told).lower })
          (record { no_looser = (upon told).upper; no_tighter = (under told).upper });
      right = right;
    }

-- ---- pairs at hand

-- what is sought, at both ends
abbrev pub pair_over : Sought → Words → Bounds
pair_over sought u = record { lower = sought.value Lower u; upper = sought.value Upper u }

pub pair-floor : (s : Source) (sought : Sought) (w : Notes) (pair : Bounds) → IsPairFor sought s w pair → IsTrue w.told → AreNoLooserPairs pair (pair_over sought s.floor)
pair-floor s sought w pair is told = record { lower = (is.ends told Lower).no_looser; upper = (is.ends told Upper).no_looser }

pub pair-notes : (s : Source) (sought : Sought) (w : Notes) (pair : Bounds) → IsPairFor sought s w pair → IsTrue w.told → AreNoLooserPairs (pair_over sought w.words) pair
pair-notes s sought w pair is told = record { lower = (is.ends told Lower).no_tighter; upper = (is.ends told Upper).no_tighter }

pub pair-within : (s : Source) (sought : Sought) (w : Notes) (pair : Bounds) (bound : ℤ) → sought.limit s.bound ≤ℤ bound → IsPairFor sought s w pair → IsWithin bound pair
pair-within s sought w pair bound h is = let low = is.within.from in let high = is.within.to in record { from = omega (arith, ints); in_order = is.within.in_order; to = omega (arith, ints) }

module _ {X : Type 0} (s : Source) (sought : X → Sought) (w : Notes) where
  pub pairs-floor : IsTrue w.told → (xs : List X) (pairs : List Bounds) → ArePairsFor sought xs s w pairs → AllTighter pairs (map (λ (x : X). pair_over (sought x) s.floor) xs)
  pairs-floor told [] [] are = tt
  pairs-floor told [] (pair ∷ pairs) are = absurd are
  pairs-floor told (x ∷ xs) [] are = absurd are
  pairs-floor told (x ∷ xs) (pair ∷ pairs) are = (pair-floor s (sought x) w pair are.0 told, pairs-floor told xs pairs are.1)

  pub pairs-notes : IsTrue w.told → (xs : List X) (pairs : List Bounds) → ArePairsFor sought xs s w pairs → AllTighter (map (λ (x : X). pair_over (sought x) w.words) xs) pairs
  pairs-notes told [] [] are = tt
  pairs-notes told [] (pair ∷ pairs) are = absurd are
  pairs-notes told (x ∷ xs) [] are = absurd are
  pairs-notes told (x ∷ xs) (pair ∷ pairs) are = (pair-notes s (sought x) w pair are.0 told, pairs-notes told xs pairs are.1)

  pub pairs-within : (bound : ℤ) (xs : List X) → ((x : X) → Among x xs → (sought x).limit s.bound ≤ℤ bound) → (pairs : List Bounds) → ArePairsFor sought xs s w pairs → (pair : Bounds) → Among pair pairs → IsWithin bound pair
  pairs-within bound [] limit [] are pair m = absurd m
  pairs-within bound [] limit (first ∷ pairs) are pair m = absurd are
  pairs-within bound (x ∷ xs) limit [] are pair m = absurd are
  pairs-within bound (x ∷ xs) limit (first ∷ pairs) are pair (inl is) = subst (IsWithin bound) (sym is) (pair-within s (sought x) w first bound (limit x (inl refl)) are.0)
  pairs-within bound (x ∷ xs) limit (first ∷ pairs) are pair (inr m) = pairs-within bound xs (λ y n. limit y (inr n)) pairs are.1 pair m

  pub pairs-right : IsTrue w.told → (xs : List X) (pairs : List Bounds) → ArePairsFor sought xs s w pairs → (x : X) → Among x xs → (p : Placement) (k : ℕ) → (sought x).states p k → s.damage p k ≡ None
  pairs-right told [] pairs are x m p k may = absurd m
  pairs-right told (y ∷ xs) [] are x m p k may = absurd are
  pairs-right told (y ∷ xs) (pair ∷ pairs) are x (inl is) p k may = are.0.right told p k (subst (λ (z : X). (sought z).states p k) is may)
  pairs-right told (y ∷ xs) (pair ∷ pairs) are x (inr m) p k may = pairs-right told xs pairs are.1 x m p k may

  -- where one of them can't be had
  pub stopped-pair : IsTrue w.told → (xs : List X) (i : ℕ) (x : X) (damage : Damage) (pairs : List Bounds) → i < length xs → x ≡ get_or xs i x → ArePairsFor sought (take i xs) s w pairs → (sought x).meets s damage → MeetsSome sought xs s damage
  stopped-pair told xs i x damage pairs here at_i are met = met-at s _ _ damage xs i x here at_i (λ y m. pairs-right told (take i xs) pairs are y m) met

-- ---- for the other side

pub all-negated-tighter : (cs ds : List Bounds) → AllTighter cs ds → AllTighter (map negated cs) (map negated ds)
all-negated-tighter [] [] all = tt
all-negated-tighter [] (d ∷ ds) all = absurd all
all-negated-tighter (c ∷ cs) [] all = absurd all
all-negated-tighter (c ∷ cs) (d ∷ ds) all = (negated-tighter c d all.0, all-negated-tighter cs ds all.1)

pub negated-within : (bound : ℤ) (pair : Bounds) → IsWithin bound pair → IsWithin bound (negated pair)
negated-within bound pair h = let low = h.from in let middle = h.in_order in let high = h.to in record { from = omega (arith, ints); in_order = omega (arith, ints); to = omega (arith, ints) }
