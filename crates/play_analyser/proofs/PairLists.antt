-- Pairs of plays and of answers that are looked up one after another.
use Rattle.std.proofs.Common.{◌≡◌, ◌<◌, ◌+◌, ◌++◌, ◌∙◌, ℕ, zero, suc, neg_ℤ, ◌≤ℤ◌, List, [], ◌∷◌, length, take, get_or, inl, inr, Option, Some, None, Ok, ap, sym, subst, refl}
use Rattle.std.proofs.lemmas.List.{take_more}
use Rattle.arrayvec.specs.ArrayVec.{ArrayVec}
use Rattle.position_rank.specs.Placement.{Placement, swap}
use Rattle.move_rules.specs.Listing.{Among}
use Rattle.move_rules.specs.declared.payoff.Won.{Won}
use Rattle.move_rules.specs.Payoff.{points}
use Rattle.directed_fixed.specs.declared.bounds.End.{End}
use Rattle.directed_fixed.specs.declared.bounds.End.TheVariants.{Lower, Upper}
use Rattle.directed_fixed.specs.Bounds.{Bounds, IsNoLooser, IsWithin, other, at}
use Rattle.cube_actions.specs.declared.kind.Kind.{Kind}
use Rattle.turn_rule.specs.Turn.{Words, win, if_won, worth}
use Rattle.turn_rule.specs.States.{AreNoLooserOf}
use Rattle.turn_rule.specs.Looks.{Source, Notes, Damage, Sought, AreLater, Looked, IsPairFor, AreSourceWords}
use Rattle.turn_rule.specs.Found.{LeavesState, of_play}
use Rattle.turn_rule.proofs.Integers.{neg_le}
use Rattle.turn_rule.proofs.Tight.{tight-refl, tight-trans}
use Rattle.turn_rule.proofs.Tightness.{tight-neg}
use Rattle.turn_rule.proofs.Found.{look, then-ok}
use Rattle.play_analyser.specs.Sought.{ArePairsFor}

-- over tighter words of a source, what is sought is as tight
abbrev pub Tightens : Source → Sought → Type 0
Tightens s sought = (end : End) (u v : Words) → AreNoLooserOf s.checkers s.kinds u v → IsNoLooser end (sought.value end u) (sought.value end v)

-- ---- one play

pub play-order : (s : Source) (kind : Kind) (q : Placement) (w : Words) → AreSourceWords s w → LeavesState s kind.next q → ((won : Won) → IsWithin s.bound (win kind won)) → worth Lower kind w q ≤ℤ worth Upper kind w q
play-order s kind q w within state wins = by_points (points q) refl where
  by_points : (o : Option Won) → points q ≡ o → if_won o (λ won. at Lower (win kind won)) (neg_ℤ (w Upper (swap q) kind.next)) ≤ℤ if_won o (λ won. at Upper (win kind won)) (neg_ℤ (w Lower (swap q) kind.next))
  by_points None on = neg_le _ _ (within _ _ (state on)).in_order
  by_points (Some won) over = (wins won).in_order

pub play-tightens : (s : Source) (kind : Kind) (q : Placement) → LeavesState s kind.next q → Tightens s (of_play kind q)
play-tightens s kind q state end u v tight = by_points (points q) refl where
  by_points : (o : Option Won) → points q ≡ o → IsNoLooser end (if_won o (λ won. at end (win kind won)) (neg_ℤ (u (other end) (swap q) kind.next))) (if_won o (λ won. at end (win kind won)) (neg_ℤ (v (other end) (swap q) kind.next)))
  by_points None on = tight-neg end _ _ (tight (other end) (swap q) kind.next (state on))
  by_points (Some won) over = tight-refl end _

-- ---- some of them

pub among-take : {X : Type 0} (xs : List X) (i : ℕ) (x : X) → Among x (take i xs) → Among x xs
among-take [] zero x m = m
among-take [] (suc i) x m = m
among-take (first ∷ rest) zero x m = absurd m
among-take (first ∷ rest) (suc i) x (inl is) = inl is
among-take (first ∷ rest) (suc i) x (inr m) = inr (among-take rest i x m)

pub pair-later : (s : Source) (sought : Sought) → Tightens s sought → (u v : Notes) → AreLater s u v → (pair : Bounds) → IsPairFor sought s u pair → IsPairFor sought s v pair
pair-later s sought tightens u v tighter pair is = record {
  within = is.within;
  ends = λ told end. record {
    no_looser = (is.ends (tighter.told told) end).no_looser;
    no_tighter = tight-trans end _ _ _ (tightens end v.words u.words (tighter.words told)) (is.ends (tighter.told told) end).no_tighter;
  };
  right = λ told. is.right (tighter.told told);
}

module _ {X : Type 0} (s : Source) (sought : X → Sought) where
  pub pairs-later : (xs : List X) → ((x : X) → Among x xs → Tightens s (sought x)) → (u v : Notes) → AreLater s u v → (pairs : List Bounds) → ArePairsFor sought xs s u pairs → ArePairsFor sought xs s v pairs
  pairs-later [] tightens u v tighter [] are = tt
  pairs-later [] tightens u v tighter (pair ∷ pairs) are = absurd are
  pairs-later (x ∷ xs) tightens u v tighter [] are = absurd are
  pairs-later (x ∷ xs) tightens u v tighter (pair ∷ pairs) are =
      (pair-later s (sought x) (tightens x (inl refl)) u v tighter pair are.0, pairs-later xs (λ y m. tightens y (inr m)) u v tighter pairs are.1)

  pairs-append : (xs : List X) (x : X) (u : Notes) (pairs : List Bounds) (pair : Bounds) → ArePairsFor sought xs s u pairs → IsPairFor (sought x) s u pair → ArePairsFor sought (xs ++ x ∷ []) s u (pairs ++ pair ∷ [])
  pairs-append [] x u [] pair are is = (is, tt)
  pairs-append [] x u (first ∷ pairs) pair are is = absurd are
  pairs-append (y ∷ xs) x u [] pair are is = absurd are
  pairs-append (y ∷ xs) x u (first ∷ pairs) pair are is = (are.0, pairs-append xs x u pairs pair are.1 is)

  pub pairs-length : (xs : List X) (u : Notes) (pairs : List Bounds) → ArePairsFor sought xs s u pairs → length pairs ≡ length xs
  pairs-length [] u [] are = refl
  pairs-length [] u (pair ∷ pairs) are = absurd are
  pairs-length (x ∷ xs) u [] are = absurd are
  pairs-length (x ∷ xs) u (pair ∷ pairs) are = ap suc (pairs-length xs u pairs are.1)

  -- one more, after those before it
  pub next-pair : {m m' m'' : Damage → Type 0} (xs : List X) (u v w : Notes) (a b c i : ℕ) (x : X) (found now : ArrayVec Bounds) (pair : Bounds) → i < length xs → x ≡ get_or xs i x → ((y : X) → Among y xs → Tightens s (sought y)) → now.items ≡ found.items ++ pair ∷ []
      → Looked (look s u v a b) m (λ (f : ArrayVec Bounds). ArePairsFor sought (take i xs) s v f.items) (Ok found)
      → Looked (look s v w b c) m' (IsPairFor (sought x) s w) (Ok pair)
      → Looked (look s u w a c) m'' (λ (f : ArrayVec Bounds). ArePairsFor sought (take (i + 1) xs) s w f.items) (Ok now)
  next-pair xs u v w a b c i x found now pair here at_i tightens is so_far looked =
      then-ok s u v w a b c _ _ _ _ _ _ found pair now so_far looked
      (λ tighter before one.
      subst (λ (ys : List X). ArePairsFor sought ys s w now.items) (sym (take_more xs i x here ∙ ap (λ (y : X). take i xs ++ y ∷ []) (sym at_i)))
      (subst (λ (pairs : List Bounds). ArePairsFor sought (take i xs ++ x ∷ []) s w pairs) (sym is)
      (pairs-append (take i xs) x w found.items pair (pairs-later (take i xs) (λ y m. tightens y (among-take xs i y m)) v w tighter found.items before) one)))
