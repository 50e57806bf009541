-- The greatest value that is found die by die is the greatest value of the legal ends.
use Rattle.std.proofs.Common.{◌≡◌, ◌<◌, ◌++◌, ◌∙◌, ℕ, ℤ, Bool, true, false, cond, eqb, List, [], ◌∷◌, Option, Some, None, map, refl, ap, subst, sym, arith}
use Rattle.std.proofs.lemmas.List.{append-nil}
use Rattle.std.proofs.lemmas.Bool.Decides.{nat_tests}
use Rattle.std.specs.List.{flat_map}
use Rattle.position_rank.specs.Placement.{Placement}
use Rattle.roll_table.specs.Rolls.{Dice, IsRoll}
use Rattle.move_rules.specs.declared.play.Move.{Move}
use Rattle.move_rules.specs.Sequences.{IsLegalEnd}
use Rattle.move_rules.specs.Ends.{Line, after_move, places, legal_ends}
use Rattle.move_rules.specs.Listing.{full, full_from, or_else, double_lines, pair_lines}
use Rattle.move_rules.proofs.Members.{Among-map, map-cases, Contains-Among, Among-Contains}
use Rattle.move_rules.proofs.EndsExact.{legal_ends-sound, legal_ends-complete}
use Rattle.move_rules.proofs.RollLines.{IsListing, double-listing, pair-listing}
use Rattle.turn_rule.specs.Turn.{greatest}
use Rattle.turn_rule.proofs.Greatest.{greatest-same}
use Rattle.column_sums.specs.Cascade.{or_max, or_value, then_value, over_places, best_over, best_double, best_pair, best_of_roll}
use Rattle.column_sums.proofs.Mosts.{most_of, most_of-append, most_of-or_else, most-is}

-- from one place
from-one : (f : Placement → ℤ) (dice : List ℕ) (moves : List Move) (p : Placement) (die from : ℕ) (o : Option Placement) → after_move p die from ≡ o
    → ((now : List Move) (q : Placement) → most_of f (full dice now q) ≡ best_over f dice q) → most_of f (full_from (full dice) moves p die from) ≡ then_value (best_over f dice) o
unfolding full_from
from-one f dice moves p die from None e each = rw e refl
from-one f dice moves p die from (Some q) e each = rw e (ap (λ (lines : List Line). most_of f lines) (append-nil (full dice (moves ++ record { from = from; die = die } ∷ []) q)) ∙ each (moves ++ record { from = from; die = die } ∷ []) q)

from-all : (f : Placement → ℤ) (dice : List ℕ) (moves : List Move) (p : Placement) (die : ℕ)
    → ((now : List Move) (q : Placement) → most_of f (full dice now q) ≡ best_over f dice q) → (all : List ℕ) → most_of f (flat_map (full_from (full dice) moves p die) all) ≡ over_places (best_over f dice) p die all
from-all f dice moves p die each [] = refl
from-all f dice moves p die each (from ∷ rest) =
    most_of-append f (full_from (full dice) moves p die from) (flat_map (full_from (full dice) moves p die) rest)
    ∙ (ap (λ (x : Option ℤ). or_max x (most_of f (flat_map (full_from (full dice) moves p die) rest))) (from-one f dice moves p die from (after_move p die from) refl each)
    ∙ ap (λ (x : Option ℤ). or_max (then_value (best_over f dice) (after_move p die from)) x) (from-all f dice moves p die each rest))

-- the greatest value of the ends of all lines that use these dice
pub full-most : (f : Placement → ℤ) (dice : List ℕ) (moves : List Move) (p : Placement) → most_of f (full dice moves p) ≡ best_over f dice p
unfolding full best_over
full-most f [] moves p = refl
full-most f (die ∷ dice) moves p = from-all f dice moves p die (λ now q. full-most f dice now q) places

nothing : (f : Placement → ℤ) (p : Placement) → most_of f (full [] [] p) ≡ Some (f p)
unfolding full
nothing f p = refl

-- these lines, or others
or-lines : (f : Placement → ℤ) (dice : List ℕ) (p : Placement) (others : List Line) (x : ℤ) → most_of f others ≡ Some x → most_of f (or_else (full dice [] p) others) ≡ Some (or_value (best_over f dice p) x)
or-lines f dice p others x e = most_of-or_else f (full dice [] p) others x e ∙ ap (λ (y : Option ℤ). Some (or_value y x)) (full-most f dice [] p)

double-most : (f : Placement → ℤ) (p : Placement) (die : ℕ) → most_of f (double_lines p die) ≡ Some (best_double f die p)
unfolding double_lines best_double
double-most f p die =
    or-lines f (die ∷ die ∷ die ∷ die ∷ []) p _ _ (or-lines f (die ∷ die ∷ die ∷ []) p _ _ (or-lines f (die ∷ die ∷ []) p _ _ (or-lines f (die ∷ []) p _ _ (nothing f p))))

pair-most : (f : Placement → ℤ) (p : Placement) (high low : ℕ) → most_of f (pair_lines p high low) ≡ Some (best_pair f high low p)
unfolding pair_lines best_pair
pair-most f p high low =
    most_of-or_else f (full (high ∷ low ∷ []) [] p ++ full (low ∷ high ∷ []) [] p) _ _ (or-lines f (high ∷ []) p _ _ (or-lines f (low ∷ []) p _ _ (nothing f p)))
    ∙ ap (λ (y : Option ℤ). Some (or_value y (or_value (best_over f (high ∷ []) p) (or_value (best_over f (low ∷ []) p) (f p)))))
    (most_of-append f (full (high ∷ low ∷ []) [] p) (full (low ∷ high ∷ []) [] p)
    ∙ (ap (λ (y : Option ℤ). or_max y (most_of f (full (low ∷ high ∷ []) [] p))) (full-most f (high ∷ low ∷ []) [] p)
    ∙ ap (λ (y : Option ℤ). or_max (best_over f (high ∷ low ∷ []) p) y) (full-most f (low ∷ high ∷ []) [] p)))

-- a listing of the legal sequences has the legal ends
listing-greatest : (f : Placement → ℤ) (p : Placement) (roll : Dice) (lines : List Line) → IsListing p roll lines → greatest f (legal_ends p roll) ≡ greatest f (map (λ (line : Line). line.1) lines)
listing-greatest f p roll lines listing = greatest-same f (legal_ends p roll) (map (λ (line : Line). line.1) lines)
    (λ q h. let r = legal_ends-sound p roll q (Among-Contains q (legal_ends p roll) h) in Among-map (λ (line : Line). line.1) (r.0, q) lines (listing.complete r.0 q r.1))
    (λ q h. let r = map-cases (λ (line : Line). line.1) q lines h in
    Contains-Among q (legal_ends p roll) (legal_ends-complete p roll q (subst (λ (x : Placement). IsLegalEnd p roll x) (sym r.2) (r.0.0, listing.sound r.0 r.1))))

double-case : (f : Placement → ℤ) (p : Placement) (roll : Dice) → roll.high ≡ roll.low → greatest f (legal_ends p roll) ≡ best_double f roll.high p
double-case f p roll same =
    listing-greatest f p roll (double_lines p roll.high) (double-listing p roll same)
    ∙ most-is f (map (λ (line : Line). line.1) (double_lines p roll.high)) (best_double f roll.high p) (double-most f p roll.high)

pair-case : (f : Placement → ℤ) (p : Placement) (roll : Dice) → roll.low < roll.high → greatest f (legal_ends p roll) ≡ best_pair f roll.high roll.low p
pair-case f p roll less =
    listing-greatest f p roll (pair_lines p roll.high roll.low) (pair-listing p roll less)
    ∙ most-is f (map (λ (line : Line). line.1) (pair_lines p roll.high roll.low)) (best_pair f roll.high roll.low p) (pair-most f p roll.high roll.low)

pub roll-greatest : (f : Placement → ℤ) (p : Placement) (roll : Dice) → IsRoll roll → greatest f (legal_ends p roll) ≡ best_of_roll f p roll
unfolding best_of_roll
roll-greatest f p roll right = choose (eqb roll.high roll.low) refl where
  choose : (b : Bool) → eqb roll.high roll.low ≡ b → greatest f (legal_ends p roll) ≡ cond b (best_double f roll.high p) (best_pair f roll.high roll.low p)
  choose true e = double-case f p roll (grind (arith, nat_tests))
  choose false e = let apart : (roll.high ≡ roll.low → ⊥) = grind (arith, nat_tests) in pair-case f p roll (omega (arith, right.in_order, apart))
