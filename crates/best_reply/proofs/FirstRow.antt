-- The first row of a ranking is the advised play.
use Rattle.std.proofs.Common.{◌≡◌, ◌<◌, ◌∙◌, ℕ, zero, suc, List, [], ◌∷◌, length, map, get_or, All, AllPairs, Contains, inl, inr, refl, ap, sym, subst, arith}
use Rattle.std.proofs.lemmas.List.{get_or-map, length-map}
use Rattle.position_rank.specs.Placement.{Placement}
use Rattle.roll_table.specs.Rolls.{Dice}
use Rattle.move_rules.specs.declared.play.Move.{Move}
use Rattle.move_rules.specs.Order.{PlayComesBefore, IsFirst}
use Rattle.move_rules.specs.Sequences.{IsLegal, IsLegalEnd}
use Rattle.directed_fixed.specs.Bounds.{Bounds}
use Rattle.cube_actions.specs.Stakes.{Terms, kind_at}
use Rattle.turn_rule.specs.Turn.{Words}
use Rattle.play_analyser.specs.declared.ranking.PlayRow.{PlayRow}
use Rattle.play_analyser.specs.declared.ranking.Ranking.{Ranking}
use Rattle.play_analyser.specs.Rankings.{ComesBefore, IsBetter, IsRankingOver}
use Rattle.play_analyser.specs.Regrets.{play_pair}
use Rattle.best_reply.specs.Advised.{BeginsWith, IsAdvised, advised}
use Rattle.best_reply.proofs.Lines.{advised-alone, before-trans, better-trans, never-better}

module _ (stakes : Terms) (u : Words) (p : Placement) (k : ℕ) (roll : Dice) (ranking : Ranking) (ranked : IsRankingOver stakes u p k roll ranking) where
  abbrev pair : Placement → Bounds
  pair = play_pair (kind_at stakes k) u

  end_of : PlayRow → Placement
  end_of row = row.entry.end

  module _ (row : PlayRow) (rest : List PlayRow) (is : ranking.rows.items ≡ row ∷ rest) where
    abbrev rows : List PlayRow
    rows = row ∷ rest

    first-of : (j : ℕ) → j < length rows → (one : PlayRow) → IsFirst p roll (get_or rows j one).entry.play.items (get_or rows j one).entry.end
    first-of j inside one = subst (All (λ (r : PlayRow). IsFirst p roll r.entry.play.items r.entry.end)) is ranked.first j one inside

    pair-of : (j : ℕ) → j < length rows → (one : PlayRow) → (get_or rows j one).pair ≡ pair (get_or rows j one).entry.end
    pair-of j inside one = subst (All (λ (r : PlayRow). r.pair ≡ pair r.entry.end)) is ranked.pairs j one inside

    -- a row behind the first
    behind : (j : ℕ) → suc j < length rows → ComesBefore row (get_or rows (suc j) row)
    behind j inside = subst (AllPairs ComesBefore) is ranked.in_order 0 (suc j) row (omega arith) inside

    row-at : (q : Placement) → IsLegalEnd p roll q → (j : ℕ) × (j < length rows) × ((get_or rows j row).entry.end ≡ q)
    row-at q legal =
        let there = subst (λ (rs : List PlayRow). Contains (map (λ (r : PlayRow). r.entry.end) rs) q) is ((ranked.ends q).1 legal) in
        let inside : there.0 < length rows = omega (arith, there.1, length-map rows (λ (r : PlayRow). r.entry.end)) in
        (there.0, inside, sym (get_or-map (λ (r : PlayRow). r.entry.end) rows there.0 row q inside) ∙ there.2)

    row_pair : row.pair ≡ pair row.entry.end
    row_pair = pair-of 0 (omega arith) row

    none-better : (q : Placement) (j : ℕ) → j < length rows → (get_or rows j row).entry.end ≡ q → IsBetter (pair q) (pair row.entry.end) → ⊥
    none-better q zero inside at better = never-better (pair q) (subst (λ (r : Placement). IsBetter (pair q) (pair r)) at better)
    none-better q (suc j) inside at better =
        let other : (get_or rows (suc j) row).pair ≡ pair q = pair-of (suc j) inside row ∙ ap pair at in
        let ahead : IsBetter (get_or rows (suc j) row).pair row.pair = subst (λ (b : Bounds). IsBetter b row.pair) (sym other) (subst (IsBetter (pair q)) (sym row_pair) better) in
        elim (behind j inside) [
          | inl worse ↦ never-better row.pair (better-trans row.pair (get_or rows (suc j) row).pair row.pair worse ahead)
          | inr same ↦ never-better row.pair (subst (λ (b : Bounds). IsBetter b row.pair) (sym same.0) ahead)
        ]

    none-earlier : (q : Placement) (others : List Move) → IsLegal p roll others q → pair q ≡ pair row.entry.end → PlayComesBefore others row.entry.play.items → (j : ℕ) → j < length rows → (get_or rows j row).entry.end ≡ q → ⊥
    none-earlier q others legal same earlier zero inside at = (first-of 0 inside row).first others (subst (IsLegal p roll others) (sym at) legal) earlier
    none-earlier q others legal same earlier (suc j) inside at =
        let one = get_or rows (suc j) row in
        let other : one.pair ≡ row.pair = pair-of (suc j) inside row ∙ (ap pair at ∙ (same ∙ sym row_pair)) in
        elim (behind j inside) [
          | inl worse ↦ never-better row.pair (subst (IsBetter row.pair) other worse)
          | inr equal ↦ (first-of (suc j) inside row).first others (subst (IsLegal p roll others) (sym at) legal) (before-trans others row.entry.play.items one.entry.play.items earlier equal.1)
        ]

    first-advised : IsAdvised stakes u p k roll row.entry.end
    first-advised = record {
      moves = row.entry.play.items;
      legal = (first-of 0 (omega arith) row).legal;
      best = λ q legal. (let there = row-at q legal in none-better q there.0 there.1 there.2);
      first = λ q others legal same earlier. (let there = row-at q (others, legal) in none-earlier q others legal same earlier there.0 there.1 there.2);
    }

  by_rows : (rows : List PlayRow) → ranking.rows.items ≡ rows → BeginsWith rows (advised stakes u p k roll)
  by_rows [] is = absurd (omega (arith, ranked.some, ap length is))
  by_rows (row ∷ rest) is = advised-alone stakes u p k roll row.entry.end (first-advised row rest is)

  pub begins : BeginsWith ranking.rows.items (advised stakes u p k roll)
  begins = by_rows ranking.rows.items refl
