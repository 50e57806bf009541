-- A column whose words hold.
use Rattle.std.proofs.Common.{◌≡◌, ◌∙◌, ◌+◌, ◌*◌, ◌<◌, ℕ, ℤ, List, length, sum, get_or, arith, ap, refl, sym, subst, inl, inr}
use Rattle.std.proofs.lemmas.Bool.{cases_lt}
use Rattle.position_rank.specs.Placement.{Placement, IsLayout, IsLive}
use Rattle.position_rank.specs.Ranks.{rank_of, layouts}
use Rattle.position_rank.proofs.RankLaws.{layouts-same, rank-below}
use Rattle.directed_fixed.specs.declared.bounds.End.{End}
use Rattle.cube_actions.specs.Stakes.{nothing}
use Rattle.turn_rule.specs.Games.{kinds_of}
use Rattle.turn_rule.specs.Turn.{Words, turn}
use Rattle.turn_rule.specs.States.{IsState}
use Rattle.turn_rule.specs.Looks.{IsTurnPair, MayFollowTurn, all_told}
use Rattle.turn_rule.proofs.Sure.{exact-pair}
use Rattle.column_sums.specs.Leaps.{layout_at}
use Rattle.column_turns.specs.Columns.{ColumnPairs, IsRoomOf, position_in}
use Rattle.column_turns.specs.Turns.{AreLiveMovers, AreTurnsOf}
use Rattle.interval_words.specs.WordLists.{WordList, words_in_list, source_of}
use Rattle.base_verify.specs.Findings.{WordHolds}
use Rattle.base_verify.specs.Columns.{ColumnsHold, IsPositionTurned}

module _ (words : WordList) (column : ColumnPairs) (rank : ℕ) (room : IsRoomOf words.game column) (inside : rank < layouts words.game.checkers) (other_is : column.other ≡ layout_at column.layouts rank) (movers : AreLiveMovers column.layouts column.other column.movers) where
  here : rank < length column.layouts
  here = omega (arith, inside, room.layouts.many)

  column-state : (i k : ℕ) → i < length column.movers → k < kinds_of words.game → IsState words.game (position_in column i) k
  column-state i k below kind =
      let mover_has = room.layouts.each _ _ (movers.within i 0 below) in
      let other_has = room.layouts.each rank _ here in
      record {
        position = record { mover = mover_has.valid; other = subst IsLayout (sym other_is) other_has.valid; same = mover_has.many ∙ sym (ap (λ (o : List ℕ). sum o) other_is ∙ other_has.many) };
        many = mover_has.many;
        live = movers.live i below;
        kind = kind;
      }

  -- over the words alone, a column's pairs are the turns
  pub column-turned : (noted : Words) → noted ≡ words_in_list words → AreTurnsOf (source_of words) (all_told noted) words.game.stakes (position_in column) (length column.movers) column.pairs → (i : ℕ) → i < length column.movers → IsPositionTurned words column i
  column-turned noted same found i below = record {
    states = λ k kind. column-state i k below kind;
    turns = λ k kind.
        let p = position_in column i in
        let value : End → Words → ℤ = λ end w. turn words.game.stakes w end p k in
        let pair = get_or column.pairs (i * kinds_of words.game + k) nothing in
        let is = subst (λ (w : Words). IsTurnPair words.game.stakes p k (source_of words) (all_told w) pair) same (found i k below kind) in
        ap (λ (n : ℕ). get_or column.pairs (i * n + k) nothing) room.kinds
        ∙ exact-pair (source_of words) (all_told (words_in_list words)) (MayFollowTurn words.game.stakes p k) words.game.stakes.bound value pair refl (λ end. refl) is;
  }

  -- where all of a column's positions hold, the column does
  pub column-held : ((side : End) (i k : ℕ) → i < length column.movers → k < kinds_of words.game → WordHolds words side (position_in column i) k) → ColumnsHold words rank (rank + 1)
  column-held held side p k state from to =
      let at : rank_of p.other ≡ rank = omega (arith, from, to) in
      let below : rank_of p.mover < length column.layouts = omega (arith, rank-below p.mover state.position.mover, room.layouts.many, ap (λ (n : ℕ). layouts n) state.many) in
      let mover_has = room.layouts.each (rank_of p.mover) _ below in
      let other_has = room.layouts.each rank _ here in
      let mover : layout_at column.layouts (rank_of p.mover) ≡ p.mover = layouts-same _ p.mover mover_has.valid state.position.mover (mover_has.many ∙ sym state.many) mover_has.ranked in
      let other : column.other ≡ p.other = other_is ∙ layouts-same _ p.other other_has.valid state.position.other (other_has.many ∙ (sym state.many ∙ state.position.same)) (other_has.ranked ∙ sym at) in
      let place : (r : ℕ) → r ≡ rank_of p.mover → record { mover = layout_at column.layouts r; other = column.other } ≡ p =
      λ r e. ap (λ (m : List ℕ). record { mover = m; other = column.other }) (ap (λ (n : ℕ). layout_at column.layouts n) e ∙ mover) ∙ ap (λ (o : List ℕ). record { mover = p.mover; other = o }) other in
      let found = movers.all (rank_of p.mover) below (subst IsLive (sym (place (rank_of p.mover) refl)) state.live) in
      subst (λ (q : Placement). WordHolds words side q k) (place _ found.2) (held side found.0 k found.1 state.kind)

module _ (words : WordList) where
  pub no-columns : (a : ℕ) → ColumnsHold words a a
  no-columns a side p k state from to = absurd (omega (arith, from, to))

  pub columns-more : (a b c : ℕ) → ColumnsHold words a b → ColumnsHold words b c → ColumnsHold words a c
  columns-more a b c first rest side p k state from to = elim (cases_lt (rank_of p.other) b) [
    | inl before ↦ first side p k state from before
    | inr after ↦ rest side p k state after to
  ]
