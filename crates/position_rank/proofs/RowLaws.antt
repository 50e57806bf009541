-- Laws of the positions of one layout of the mover.
use Rattle.std.proofs.Common.{◌≡◌, ℕ, zero, suc, ◌+◌, ◌*◌, ◌<◌, ◌≤◌, true, false, List, [], ◌∷◌, ◌++◌, length, get_or, sum, ap, sym, subst, ◌∙◌, inl, inr, arith}
use Rattle.std.proofs.Math.Seq.{get_or-append_seam}
use Rattle.std.proofs.lemmas.List.{length-append, get_or_append_left}
use Rattle.std.proofs.lemmas.Nat.{div-mul-add, mod-mul-add}
use Rattle.std.proofs.lemmas.Bool.{cases_lt, false_from_ne_true}
use Rattle.position_rank.specs.Placement.{Placement, IsLayout, IsLive}
use Rattle.position_rank.proofs.PlaceCounts.{one}
use Rattle.position_rank.specs.Points.{AreOtherPoints, AreFirstPoints}
use Rattle.position_rank.specs.Ranks.{layouts, rank_of}
use Rattle.position_rank.specs.LiveRanks.{is_live, layout_at, placement_at, live_below}
use Rattle.position_rank.proofs.RankLaws.{layouts-one, layouts-two, layouts-three}
use Rattle.position_rank.proofs.LiveLaws.{layout_at-rank, live_below-more, live-from, from-live}

-- the layout with a rank is the one that stands there
pub ranked-layout : (checkers rank : ℕ) (counts : List ℕ) → IsLayout counts → sum counts ≡ checkers → rank_of counts ≡ rank → layout_at checkers rank ≡ counts
ranked-layout checkers rank counts is many ranked =
    subst (λ (n : ℕ). layout_at checkers n ≡ counts) ranked (subst (λ (n : ℕ). layout_at n (rank_of counts) ≡ counts) many (layout_at-rank counts is))

-- the points of one layout more
pub first-more : (checkers points : ℕ) (all counts : List ℕ) → AreFirstPoints checkers all → length all < layouts checkers → IsLayout counts → sum counts ≡ checkers → rank_of counts ≡ length all → AreOtherPoints points counts → AreFirstPoints checkers (all ++ points ∷ [])
first-more checkers points all counts first room is many ranked shown = record {
  few = omega (arith, length-append all (points ∷ []));
  each = λ rank below. elim (cases_lt rank (length all)) [
    | inl before ↦ subst (λ (n : ℕ). AreOtherPoints n (layout_at checkers rank)) (sym (get_or_append_left all (points ∷ []) 0 rank before)) (first.each rank before)
    | inr from ↦ (
        let last : rank ≡ length all = omega (arith, below, length-append all (points ∷ [])) in
        let here : get_or (all ++ points ∷ []) rank 0 ≡ points = rw last (get_or-append_seam all points [] 0) in
        let at : layout_at checkers rank ≡ counts = ranked-layout checkers rank counts is many (ranked ∙ sym last) in
        rw (here, at) shown)
  ];
}

-- the positions of the mover's layout of one rank
module _ (checkers row : ℕ) where
  pub row-placement : (other : ℕ) → other < layouts checkers → placement_at checkers (row * layouts checkers + other) ≡ record { mover = layout_at checkers row; other = layout_at checkers other }
  row-placement other inside = λ i. record {
    mover = layout_at checkers (div-mul-add row (layouts checkers) other inside i);
    other = layout_at checkers (mod-mul-add row (layouts checkers) other inside i);
  }

  module _ (other : ℕ) (inside : other < layouts checkers) where
    pub row-live : IsLive (record { mover = layout_at checkers row; other = layout_at checkers other }) → live_below checkers (row * layouts checkers + other + 1) ≡ live_below checkers (row * layouts checkers + other) + 1
    row-live live =
        let passes : is_live (placement_at checkers (row * layouts checkers + other)) ≡ true = subst (λ (p : Placement). is_live p ≡ true) (sym (row-placement other inside)) (from-live _ live) in
        omega (arith, live_below-more checkers (row * layouts checkers + other), ap one passes)

    pub row-dead : (IsLive (record { mover = layout_at checkers row; other = layout_at checkers other }) → ⊥) → live_below checkers (row * layouts checkers + other + 1) ≡ live_below checkers (row * layouts checkers + other)
    row-dead dead =
        let fails : is_live (placement_at checkers (row * layouts checkers + other)) ≡ false = subst (λ (p : Placement). is_live p ≡ false) (sym (row-placement other inside)) (false_from_ne_true _ (λ e. dead (live-from _ e))) in
        omega (arith, live_below-more checkers (row * layouts checkers + other), ap one fails)

-- there are some layouts, but few
pub layouts-in : (checkers : ℕ) → 1 ≤ checkers → checkers ≤ 3 → (0 < layouts checkers) × (layouts checkers ≤ 3276)
layouts-in zero low high = absurd (omega arith)
layouts-in (suc zero) low high = (omega (arith, layouts-one), omega (arith, layouts-one))
layouts-in (suc (suc zero)) low high = (omega (arith, layouts-two), omega (arith, layouts-two))
layouts-in (suc (suc (suc zero))) low high = (omega (arith, layouts-three), omega (arith, layouts-three))
layouts-in (suc (suc (suc (suc n)))) low high = absurd (omega arith)
