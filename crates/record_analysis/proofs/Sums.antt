-- Sums of losses, one after another.
use Rattle.std.proofs.Common.{◌≡◌, ◌<◌, ◌+◌, ◌++◌, ◌∙◌, ℕ, suc, ℤ, ◌+ℤ◌, ◌≤ℤ◌, List, [], ◌∷◌, length, take, get_or, filter_map, Option, None, Some, Bool, true, false, IsSomeAnd, if◌then◌else◌, ap, sym, subst, refl, arith, length-append}
use Rattle.std.proofs.lemmas.Int.{ints}
use Rattle.std.proofs.lemmas.List.{take_more, map-append, append-nil}
use Rattle.std.proofs.lemmas.List.Elements.{filter_map-append}
use Rattle.directed_fixed.specs.Bounds.{Bounds, AreNoLooserPairs}
use Rattle.game_record.specs.declared.decision.Decision.{Decision}
use Rattle.game_record.specs.declared.player.Player.{Player}
use Rattle.game_record.specs.Turns.{same_player}
use Rattle.play_analyser.specs.Losses.{lower_ends, upper_ends}
use Rattle.record_analysis.specs.declared.analysis.Judged.{Judged}
use Rattle.record_analysis.specs.declared.total.Total.{Total}
use Rattle.record_analysis.specs.Totals.{IsNoLooserTotal, loss_by, losses_by, sum_of, total_of}
use Rattle.record_analysis.specs.Truth.{IsNoLooserAnalysis}

sum_of-push : (values : List ℤ) (value : ℤ) → sum_of (values ++ value ∷ []) ≡ sum_of values +ℤ value
sum_of-push [] value = omega (arith, ints)
sum_of-push (first ∷ values) value = let rest = sum_of-push values value in omega (arith, ints)

-- the total with one loss more
pub record IsMore (pair : Bounds) (old new : Total) : Type 0 where
  pub decisions : new.decisions ≡ old.decisions + 1
  pub lower : new.lower ≡ old.lower +ℤ pair.lower
  pub upper : new.upper ≡ old.upper +ℤ pair.upper

total-push : (pairs : List Bounds) (pair : Bounds) → IsMore pair (total_of pairs) (total_of (pairs ++ pair ∷ []))
total-push pairs pair = record {
  decisions = length-append pairs (pair ∷ []);
  lower = ap sum_of (map-append (λ (b : Bounds). b.lower) pairs (pair ∷ [])) ∙ sum_of-push (lower_ends pairs) pair.lower;
  upper = ap sum_of (map-append (λ (b : Bounds). b.upper) pairs (pair ∷ [])) ∙ sum_of-push (upper_ends pairs) pair.upper;
}

same-total : (one other : Total) → one.decisions ≡ other.decisions → one.lower ≡ other.lower → one.upper ≡ other.upper → one ≡ other
same-total one other h k l =
    let f : ℕ → Total = λ n. record { decisions = n; lower = one.lower; upper = one.upper } in
    let g : ℤ → Total = λ z. record { decisions = other.decisions; lower = z; upper = one.upper } in
    let m : ℤ → Total = λ z. record { decisions = other.decisions; lower = other.lower; upper = z } in
    ap f h ∙ (ap g k ∙ ap m l)

module _ (player : Player) (list : List Judged) (i : ℕ) (judged : Judged) (here : i < length list) (is : judged ≡ get_or list i judged) where
  more : losses_by player (take (i + 1) list) ≡ losses_by player (take i list) ++ losses_by player (judged ∷ [])
  more = ap (losses_by player) (take_more list i judged here ∙ ap (λ (x : Judged). take i list ++ x ∷ []) (sym is)) ∙ filter_map-append (loss_by player) (take i list) (judged ∷ [])

  -- a loss more
  pub total-more : (now next : Total) (pair : Bounds) → loss_by player judged ≡ Some pair → now ≡ total_of (losses_by player (take i list)) → IsMore pair now next → next ≡ total_of (losses_by player (take (i + 1) list))
  total-more now next pair some so_far one =
      same-total next (total_of (losses_by player (take (i + 1) list)))
      (one.decisions ∙ (ap (λ (t : Total). t.decisions + 1) so_far ∙ (sym pushed.decisions ∙ ap (λ (ps : List Bounds). (total_of ps).decisions) (sym all))))
      (one.lower ∙ (ap (λ (t : Total). t.lower +ℤ pair.lower) so_far ∙ (sym pushed.lower ∙ ap (λ (ps : List Bounds). (total_of ps).lower) (sym all))))
      (one.upper ∙ (ap (λ (t : Total). t.upper +ℤ pair.upper) so_far ∙ (sym pushed.upper ∙ ap (λ (ps : List Bounds). (total_of ps).upper) (sym all))))
    where
      pushed : IsMore pair (total_of (losses_by player (take i list))) (total_of (losses_by player (take i list) ++ pair ∷ []))
      pushed = total-push (losses_by player (take i list)) pair

      all : losses_by player (take (i + 1) list) ≡ losses_by player (take i list) ++ pair ∷ []
      all = more ∙ ap (λ (ps : List Bounds). losses_by player (take i list) ++ ps) (of_one (loss_by player judged) some) where
        of_one : (o : Option Bounds) → o ≡ Some pair → filter_map (λ (_ : Judged). o) (judged ∷ []) ≡ pair ∷ []
        of_one o e = ap (λ (x : Option Bounds). filter_map (λ (_ : Judged). x) (judged ∷ [])) e

  -- no loss more
  pub total-same : (now : Total) → loss_by player judged ≡ None → now ≡ total_of (losses_by player (take i list)) → now ≡ total_of (losses_by player (take (i + 1) list))
  total-same now none so_far = so_far ∙ ap total_of (sym all) where
    of_none : (o : Option Bounds) → o ≡ None → filter_map (λ (_ : Judged). o) (judged ∷ []) ≡ []
    of_none o e = ap (λ (x : Option Bounds). filter_map (λ (_ : Judged). x) (judged ∷ [])) e

    all : losses_by player (take (i + 1) list) ≡ losses_by player (take i list)
    all = more ∙ (ap (λ (ps : List Bounds). losses_by player (take i list) ++ ps) (of_none (loss_by player judged) none) ∙ append-nil (losses_by player (take i list)))

-- ---- tighter losses

-- none in both, or one in both
abbrev AreTighter : Option Bounds → Option Bounds → Type 0
AreTighter None None = Unit {0}
AreTighter None (Some d) = ⊥
AreTighter (Some c) None = ⊥
AreTighter (Some c) (Some d) = AreNoLooserPairs c d

-- the loss, if there is one
abbrev one_of : Option Bounds → List Bounds
one_of loss = filter_map (λ (o : Option Bounds). o) (loss ∷ [])

sum-le : (a b c d : ℤ) → a ≤ℤ b → c ≤ℤ d → (a +ℤ c) ≤ℤ (b +ℤ d)
sum-le a b c d h k = omega (arith, ints)

step-tighter : (c d : Option Bounds) (cs ds : List Bounds) → AreTighter c d → IsNoLooserTotal (total_of cs) (total_of ds)
    → IsNoLooserTotal (total_of (one_of c ++ cs)) (total_of (one_of d ++ ds))
step-tighter None None cs ds tight rest = rest
step-tighter None (Some d) cs ds tight rest = absurd tight
step-tighter (Some c) None cs ds tight rest = absurd tight
step-tighter (Some c) (Some d) cs ds tight rest = record {
  decisions = ap (λ (n : ℕ). suc n) rest.decisions;
  lower = sum-le d.lower c.lower _ _ tight.lower rest.lower;
  upper = sum-le c.upper d.upper _ _ tight.upper rest.upper;
}

by-test : (test : Bool) (c d : Option Bounds) → IsSomeAnd c (λ pair. IsSomeAnd d (AreNoLooserPairs pair)) → AreTighter (if test then c else None) (if test then d else None)
by-test false c d tight = tt
by-test true None d tight = absurd tight
by-test true (Some c) None tight = absurd tight
by-test true (Some c) (Some d) tight = tight

pub totals-tighter : (list others : List Judged) (player : Player) → IsNoLooserAnalysis list others → IsNoLooserTotal (total_of (losses_by player list)) (total_of (losses_by player others))
totals-tighter [] [] player tight = record { decisions = refl; lower = omega (arith, ints); upper = omega (arith, ints) }
totals-tighter [] (other ∷ others) player tight = absurd tight
totals-tighter (one ∷ list) [] player tight = absurd tight
totals-tighter (one ∷ list) (other ∷ others) player tight =
    subst (λ (cs : List Bounds). IsNoLooserTotal (total_of cs) (total_of (losses_by player (other ∷ others)))) (sym (filter_map-append (loss_by player) (one ∷ []) list))
    (subst (λ (ds : List Bounds). IsNoLooserTotal (total_of (one_of (loss_by player one) ++ losses_by player list)) (total_of ds)) (sym (filter_map-append (loss_by player) (other ∷ []) others))
    (step-tighter (loss_by player one) (loss_by player other) (losses_by player list) (losses_by player others)
    (subst (λ (d : Decision). AreTighter (loss_by player one) (if same_player d.player player then other.loss else None)) tight.0.decision
    (by-test (same_player one.decision.player player) one.loss other.loss tight.0.loss))
    (totals-tighter list others player tight.1)))
