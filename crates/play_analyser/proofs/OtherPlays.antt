-- The positions of a list without one of them.
use Rattle.std.proofs.Common.{◌≡◌, ◌≢◌, ◌↔◌, Contains, ◌∙◌, ℕ, List, [], ◌∷◌, Bool, true, false, ◌&&◌, nat_eq, if◌then◌else◌, inl, inr, ap, sym, subst, refl}
use Rattle.std.specs.Cmp.Lexicographic.{pointwise, same_text, other_text}
use Rattle.position_rank.specs.Placement.{Placement}
use Rattle.roll_table.specs.Rolls.{Dice}
use Rattle.move_rules.specs.Listing.{Among}
use Rattle.move_rules.specs.Sequences.{IsLegalEnd}
use Rattle.move_rules.proofs.Members.{Among-Contains, Contains-Among}
use Rattle.play_analyser.specs.Choices.{same_position, all_but}

-- positions that test as the same are the same
pub same-is : (p q : Placement) → same_position p q ≡ true → p ≡ q
same-is p q h = by_mover (pointwise nat_eq p.mover q.mover) (pointwise nat_eq p.other q.other) refl refl h where
  with_sides : p.mover ≡ q.mover → p.other ≡ q.other → p ≡ q
  with_sides mover other = ap (λ (side : List ℕ). record { mover = side; other = p.other }) mover ∙ ap (λ (side : List ℕ). record { mover = q.mover; other = side }) other

  by_mover : (a b : Bool) → pointwise nat_eq p.mover q.mover ≡ a → pointwise nat_eq p.other q.other ≡ b → (a && b) ≡ true → p ≡ q
  by_mover true true one other both = with_sides (same_text p.mover q.mover (sym one)) (same_text p.other q.other (sym other))
  by_mover true false one other both = absurd cc
  by_mover false b one other both = absurd cc

both : (b : Bool) → b ≡ true → b ≡ false → ⊥
both b h k = cc

-- the same position tests as the same
same-self : (p q : Placement) → p ≡ q → same_position p q ≡ true
same-self p q is = by_test (same_position p q) refl where
  by_test : (b : Bool) → same_position p q ≡ b → same_position p q ≡ true
  by_test true e = e
  by_test false e = absurd (apart (pointwise nat_eq p.mover q.mover) (pointwise nat_eq p.other q.other) refl refl e) where
    apart : (a b : Bool) → pointwise nat_eq p.mover q.mover ≡ a → pointwise nat_eq p.other q.other ≡ b → (a && b) ≡ false → ⊥
    apart false b one other both = other_text p.mover q.mover (sym one) (ap (λ (x : Placement). x.mover) is)
    apart true false one other both = other_text p.other q.other (sym other) (ap (λ (x : Placement). x.other) is)
    apart true true one other both = cc

pub other-is : (p q : Placement) → same_position p q ≡ false → p ≢ q
other-is p q is same = both (same_position p q) (same-self p q same) is

module _ (end : Placement) where
  -- what is left is another one of the list
  pub left-in : (ends : List Placement) (q : Placement) → Among q (all_but end ends) → Among q ends × (q ≢ end)
  left-in [] q m = absurd m
  left-in (r ∷ ends) q m = by_same (same_position r end) refl (left-in ends q) m where
    by_same : (same : Bool) → same_position r end ≡ same → (Among q (all_but end ends) → Among q ends × (q ≢ end)) → Among q (if same then all_but end ends else r ∷ all_but end ends) → Among q (r ∷ ends) × (q ≢ end)
    by_same true is rest later = (inr (rest later).0, (rest later).1)
    by_same false is rest (inl first) = (inl first, λ same. both (same_position r end) (same-self r end (sym first ∙ same)) is)
    by_same false is rest (inr later) = (inr (rest later).0, (rest later).1)

  -- each other one of the list is left
  pub in-left : (ends : List Placement) (q : Placement) → Among q ends → q ≢ end → Among q (all_but end ends)
  in-left [] q m apart = m
  in-left (r ∷ ends) q m apart = by_same (same_position r end) refl (λ n. in-left ends q n apart) m where
    by_same : (same : Bool) → same_position r end ≡ same → (Among q ends → Among q (all_but end ends)) → Among q (r ∷ ends) → Among q (if same then all_but end ends else r ∷ all_but end ends)
    by_same true is rest (inl first) = absurd (apart (first ∙ same-is r end is))
    by_same true is rest (inr later) = rest later
    by_same false is rest (inl first) = inl first
    by_same false is rest (inr later) = inr (rest later)

-- a list of the legal ends without one of them
pub others-exactly : (end p : Placement) (roll : Dice) (ends others : List Placement) → ((q : Placement) → Contains ends q ↔ IsLegalEnd p roll q) → others ≡ all_but end ends → (q : Placement) → Contains others q ↔ (IsLegalEnd p roll q × (q ≢ end))
others-exactly end p roll ends others legal is q = (
  λ m. (let left = left-in end ends q (subst (λ (xs : List Placement). Among q xs) is (Contains-Among q others m)) in ((legal q).0 (Among-Contains q ends left.0), left.1)),
  λ h. Among-Contains q others (subst (λ (xs : List Placement). Among q xs) (sym is) (in-left end ends q (Contains-Among q ends ((legal q).1 h.0)) h.1)),
)
