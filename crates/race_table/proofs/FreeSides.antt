-- Every layout with what its plays leave.
use Rattle.std.proofs.Common.{◌≡◌, ◌≤◌, ◌<◌, ◌+◌, ◌++◌, ℕ, List, [], ◌∷◌, length, get_or, inl, inr, sym, subst, arith}
use Rattle.std.proofs.lemmas.Bool.{cases_lt}
use Rattle.std.proofs.lemmas.List.{length-append, get_or_append_left, get_or_push}
use Rattle.turn_rule.specs.Layouts.{AreLayouts, HasRank}
use Rattle.race_table.specs.declared.free_plays.FreeSide.{FreeSide}
use Rattle.race_table.specs.FreePlays.{AreFreeRolls, AreFreeSides, IsFreeSide}

-- those of the first few layouts
pub record AreFirstSides (layouts : List (List ℕ)) (n : ℕ) (sides : List FreeSide) : Type 0 where
  pub many : length sides ≡ n
  pub each : (checkers : ℕ) → AreLayouts checkers layouts → (rank : ℕ) (none : FreeSide) → rank < length sides → IsFreeSide checkers rank (get_or sides rank none)

pub sides-none : (layouts : List (List ℕ)) → AreFirstSides layouts 0 []
sides-none layouts = record { many = omega arith; each = λ checkers all rank none below. absurd (omega arith) }

pub sides-more : (layouts : List (List ℕ)) (n : ℕ) (sides : List FreeSide) (side : FreeSide) → n < length layouts → side.layout ≡ get_or layouts n side.layout → AreFreeRolls side.layout side.rolls.items → AreFirstSides layouts n sides → AreFirstSides layouts (n + 1) (sides ++ side ∷ [])
sides-more layouts n sides side inside is rolls before =
    let more = length-append sides (side ∷ []) in
    record {
      many = omega (arith, more, before.many);
      each = λ checkers all rank none below. elim (cases_lt rank (length sides)) [
        | inl earlier ↦ subst (IsFreeSide checkers rank) (sym (get_or_append_left sides (side ∷ []) none rank earlier)) (before.each checkers all rank none earlier)
        | inr from ↦ (
            let last : length sides ≡ rank = omega (arith, below, from, more) in
            let n_is : n ≡ rank = omega (arith, last, before.many) in
            let ranked = subst (HasRank checkers n) (sym is) (all.each n side.layout inside) in
            subst (IsFreeSide checkers rank) (sym (get_or_push sides side none rank last)) (record { layout = subst (λ (r : ℕ). HasRank checkers r side.layout) n_is ranked; rolls = rolls }))
      ];
    }

pub sides-all : (layouts : List (List ℕ)) (n : ℕ) (sides : List FreeSide) → length layouts ≤ n → n ≤ length layouts → AreFirstSides layouts n sides → (checkers : ℕ) → AreLayouts checkers layouts → AreFreeSides checkers sides
sides-all layouts n sides past upto before checkers all = record { many = omega (arith, before.many, past, upto, all.many); each = before.each checkers all }
