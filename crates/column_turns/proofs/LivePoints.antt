-- A position is live as either side sees it, and then the side that has moved hasn't won.
use Rattle.std.proofs.Common.{◌≡◌, ◌≢◌, ◌<◌, ◌-◌, ℕ, None, length, sum, get_or, inl, inr, subst, arith}
use Rattle.std.proofs.lemmas.Bool.{cases_lt}
use Rattle.std.proofs.lemmas.Bool.Decides.{nat_tests}
use Rattle.std.proofs.lemmas.List.Sums.{get_or-le-sum_by}
use Rattle.position_rank.specs.Placement.{Placement, IsPosition, IsLive, swap}
use Rattle.move_rules.specs.Payoff.{points}

pub live-swap : (p : Placement) → IsLive p → IsLive (swap p)
live-swap p live = record {
  apart = λ point from to held.
      let back : 25 - (25 - point) ≡ point = omega arith in
      elim (cases_lt 0 (get_or p.mover (25 - point) 0)) [
        | inl other ↦ absurd (omega (arith, held, subst (λ (n : ℕ). get_or p.other n 0 ≡ 0) back (live.apart (25 - point) (omega arith) (omega arith) other)))
        | inr none ↦ omega (arith, none)
      ];
  mover = live.other;
  other = live.mover;
}

pub live-goes-on : (left : Placement) → IsPosition left → IsLive (swap left) → points left ≡ None
live-goes-on left is live =
    let here : 0 < length left.mover = omega (arith, is.mover.places) in
    let most = get_or-le-sum_by (λ (x : ℕ). x) left.mover 0 0 here in
    let apart : get_or left.mover 0 0 ≢ sum left.mover = live.other in
    let less : get_or left.mover 0 0 < sum left.mover = omega (arith, most, apart) in
    grind (arith, nat_tests)
