-- What plays are worth over looked up words.
use Rattle.std.proofs.Common.{◌≡◌, ◌<◌, ◌+◌, ◌++◌, ◌∙◌, ℕ, zero, suc, ℤ, neg_ℤ, List, [], ◌∷◌, length, take, get_or, ◌⊎◌, inl, inr, Option, None, Ok, add-one, refl, ap, sym, subst, arith}
use Rattle.std.specs.Int.{int_max}
use Rattle.std.proofs.lemmas.List.{take_more}
use Rattle.position_rank.specs.Placement.{Placement, swap}
use Rattle.move_rules.specs.Listing.{Among}
use Rattle.move_rules.specs.declared.payoff.Won.{Won}
use Rattle.move_rules.specs.Payoff.{points}
use Rattle.directed_fixed.specs.declared.bounds.End.{End}
use Rattle.directed_fixed.specs.Bounds.{at, other, IsWithinUnits}
use Rattle.cube_actions.specs.declared.kind.Kind.{Kind}
use Rattle.turn_rule.specs.Turn.{win, if_won, worth, greatest}
use Rattle.turn_rule.specs.Looks.{Source, Notes, Damage, AreUndamaged, HasDamage, IsLeft, MeetsOnEnds}
use Rattle.turn_rule.specs.Found.{IsSame, MayFollowEnds}
use Rattle.turn_rule.proofs.Tightness.{tight-max}
use Rattle.turn_rule.proofs.Greatest.{greatest-append}
use Rattle.turn_rule.proofs.MetFirst.{met-at}
use Rattle.turn_rule.proofs.Found.{FindsFrom, mapped-ok, then-ok, found-as, found-neg, found-later, found-step, max-within}

-- the play goes on, and the other side's word at the other end is looked up
pub left-worth : {m : Damage → Type 0} (m' : Damage → Type 0) (end : End) (s : Source) (u v : Notes) (a b : ℕ) (q : Placement) (kind : Kind) (x y : ℤ) → points q ≡ None → y ≡ neg_ℤ x
    → FindsFrom (other end) s u v a b m (IsSame (swap q) kind.next) s.bound (λ w. w (other end) (swap q) kind.next) (Ok x) → FindsFrom end s u v a b m' (IsLeft kind.next q) s.bound (λ w. worth end kind w q) (Ok y)
left-worth m' end s u v a b q kind x y on is looked =
    mapped-ok s u v a b _ _ _ _ x y looked
    (λ found.
    let theirs = found-neg end s v (IsSame (swap q) kind.next) s.bound (λ w. w (other end) (swap q) kind.next) x found in
    found-as end s v (IsSame (swap q) kind.next) (IsLeft kind.next q) s.bound s.bound (λ w. neg_ℤ (w (other end) (swap q) kind.next)) (λ w. worth end kind w q) (neg_ℤ x) y
    (subst (IsWithinUnits s.bound) (sym is) theirs.within) (λ p k left. (left.sides, left.kind))
    (λ w. ap (λ (o : Option Won). if_won o (λ won. at end (win kind won)) (neg_ℤ (w (other end) (swap q) kind.next))) (sym on))
    (sym is) theirs)

among-more : (q : Placement) (qs : List Placement) (i : ℕ) (r : Placement) → i < length qs → r ≡ get_or qs i r → Among q (take (suc i) qs) → Among q (take i qs) ⊎ (q ≡ r)
among-more q [] i r h e m = absurd (omega arith)
among-more q (first ∷ rest) zero r h e (inl is) = inr (is ∙ sym e)
among-more q (first ∷ rest) zero r h e (inr m) = absurd m
among-more q (first ∷ rest) (suc i) r h e (inl is) = inl (inl is)
among-more q (first ∷ rest) (suc i) r h e (inr m) = elim (among-more q rest i r (omega arith) e m) [ inl before ↦ inl (inr before) | inr is ↦ inr is ]

-- one play more
greatest-next : (f : Placement → ℤ) (qs : List Placement) (i : ℕ) (r : Placement) → 0 < i → i < length qs → r ≡ get_or qs i r → greatest f (take (i + 1) qs) ≡ int_max (greatest f (take i qs)) (f r)
greatest-next f qs zero r low high e = absurd (omega arith)
greatest-next f [] (suc i) r low high e = absurd (omega arith)
greatest-next f (first ∷ rest) (suc i) r low high e =
    ap (greatest f) (take_more (first ∷ rest) (suc i) r high ∙ ap (λ (x : Placement). take (suc i) (first ∷ rest) ++ x ∷ []) (sym e)) ∙ greatest-append f first r (take i rest)

taken : (qs : List Placement) (q : Placement) → 0 < length qs → q ≡ get_or qs 0 q → take 1 qs ≡ q ∷ []
taken [] q h e = absurd (omega arith)
taken (first ∷ rest) q h e = ap (λ (x : Placement). x ∷ []) (sym e)

-- one play alone
one-play : {m : Damage → Type 0} (m' : Damage → Type 0) (end : End) (s : Source) (kind : Kind) (u v : Notes) (a b : ℕ) (q : Placement) (x : ℤ) → FindsFrom end s u v a b m (IsLeft kind.next q) s.bound (λ n. worth end kind n q) (Ok x)
    → FindsFrom end s u v a b m' (MayFollowEnds kind.next (q ∷ [])) s.bound (λ n. greatest (worth end kind n) (q ∷ [])) (Ok x)
one-play m' end s kind u v a b q x looked =
    mapped-ok s u v a b _ _ _ _ x x looked
    (λ found. found-as end s v (IsLeft kind.next q) (MayFollowEnds kind.next (q ∷ [])) s.bound s.bound (λ n. worth end kind n q) (λ n. greatest (worth end kind n) (q ∷ [])) x x found.within
    (λ p k h. elim h.1 [ inl same ↦ subst (λ (r : Placement). IsLeft kind.next r p k) same h.2 | inr none ↦ absurd none ])
    (λ w. refl) refl found)

module _ (end : End) (s : Source) (kind : Kind) (ends : List Placement) where
  -- the first play
  pub first-play : {m : Damage → Type 0} (m' : Damage → Type 0) (u v : Notes) (a b : ℕ) (q : Placement) (x : ℤ) → 0 < length ends → q ≡ get_or ends 0 q → FindsFrom end s u v a b m (IsLeft kind.next q) s.bound (λ n. worth end kind n q) (Ok x)
      → FindsFrom end s u v a b m' (MayFollowEnds kind.next (take 1 ends)) s.bound (λ n. greatest (worth end kind n) (take 1 ends)) (Ok x)
  first-play m' u v a b q x some is looked =
      subst (λ (qs : List Placement). FindsFrom end s u v a b m' (MayFollowEnds kind.next qs) s.bound (λ n. greatest (worth end kind n) qs) (Ok x)) (sym (taken ends q some is))
      (one-play m' end s kind u v a b q x looked)

  -- a play after others
  pub next-play : {m m' : Damage → Type 0} (m'' : Damage → Type 0) (u v w : Notes) (a b c : ℕ) (i : ℕ) (q : Placement) (x y z : ℤ) → 0 < i → i < length ends → q ≡ get_or ends i q → z ≡ int_max x y
      → FindsFrom end s u v a b m (MayFollowEnds kind.next (take i ends)) s.bound (λ n. greatest (worth end kind n) (take i ends)) (Ok x) → FindsFrom end s v w b c m' (IsLeft kind.next q) s.bound (λ n. worth end kind n q) (Ok y)
      → FindsFrom end s u w a c m'' (MayFollowEnds kind.next (take (i + 1) ends)) s.bound (λ n. greatest (worth end kind n) (take (i + 1) ends)) (Ok z)
  next-play m'' u v w a b c i q x y z low high e is so_far looked =
      then-ok s u v w a b c _ _ _ _ _ _ x y z so_far looked
      (λ tighter one other.
      let before = found-later end s v w (MayFollowEnds kind.next (take i ends)) s.bound (λ n. greatest (worth end kind n) (take i ends)) x tighter one in
      let both = found-step end s int_max (tight-max end) w (MayFollowEnds kind.next (take i ends)) (IsLeft kind.next q) (MayFollowEnds kind.next (take (i + 1) ends)) s.bound s.bound s.bound (λ n. greatest (worth end kind n) (take i ends)) (λ n. worth end kind n q) x y
      (max-within s.bound x y one.within other.within)
      (λ p k h. elim (among-more h.0 ends i q high e (subst (λ (n : ℕ). Among h.0 (take n ends)) (add-one i) h.1)) [ inl m ↦ inl (h.0, m, h.2) | inr same ↦ inr (subst (λ (r : Placement). IsLeft kind.next r p k) same h.2) ])
      before other in
      found-as end s w (MayFollowEnds kind.next (take (i + 1) ends)) (MayFollowEnds kind.next (take (i + 1) ends)) s.bound s.bound (λ n. int_max (greatest (worth end kind n) (take i ends)) (worth end kind n q)) (λ n. greatest (worth end kind n) (take (i + 1) ends)) (int_max x y) z
      (subst (IsWithinUnits s.bound) (sym is) both.within) (λ p k h. h) (λ n. sym (greatest-next (worth end kind n) ends i q low high e)) (sym is) both)

  -- a play after others, whose word can't be had
  pub stopped-play : (i : ℕ) (q : Placement) (damage : Damage) → i < length ends → q ≡ get_or ends i q → AreUndamaged s (MayFollowEnds kind.next (take i ends)) → HasDamage s (IsLeft kind.next q) damage → MeetsOnEnds kind.next ends s damage
  stopped-play i q damage high e before met = met-at s _ _ damage ends i q high e (λ r m p k left. before p k (r, m, left)) met
