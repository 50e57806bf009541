-- The sums of one position among those of all.
use Rattle.std.proofs.Common.{◌≡◌, ◌<◌, ◌+◌, ◌*◌, ◌-◌, ◌∙◌, ℕ, ℤ, pos, List, length, take, drop, get_or, sym, subst, ap, arith}
use Rattle.std.proofs.lemmas.List.{get_or-drop, get_or-take}
use Rattle.position_rank.specs.Placement.{Placement}
use Rattle.directed_fixed.specs.declared.bounds.End.{End}
use Rattle.cube_actions.specs.Stakes.{Terms}
use Rattle.turn_rule.specs.Looks.{Source, Notes}
use Rattle.turn_rule.specs.Found.{IsFoundOf, AreFoundSums, of_sum}
use Rattle.column_turns.specs.Turns.{AreSumsOf}

pub slice-found : (end : End) (source : Source) (noted : Notes) (stakes : Terms) (place : ℕ → Placement) (many i n : ℕ) (sums : List ℤ) → i < many → n ≡ length stakes.kinds
    → AreSumsOf end source noted stakes place many (length stakes.kinds) sums → AreFoundSums end source noted stakes (place i) (take (i * n + n - i * n) (drop (i * n) sums))
slice-found end source noted stakes place many i n sums here is found k below =
    let within : k < i * n + n - i * n = omega (arith, below, is) in
    subst (IsFoundOf end (of_sum stakes (place i) k) source noted)
    (sym (get_or-take (i * n + n - i * n) (drop (i * n) sums) k (pos 0) within ∙ (get_or-drop (i * n) sums k (pos 0) ∙ ap (λ (m : ℕ). get_or sums (i * m + k) (pos 0)) is)))
    (found i k here below)
