-- A column's turns over one side's pairs, and pairs that are put column by column.
use Rattle.std.proofs.Common.{◌≡◌, ◌∙◌, ◌+◌, ◌*◌, ◌<◌, ◌≤◌, ℕ, ℤ, List, length, sum, get_or, inl, inr, arith, ap, refl, sym, subst}
use Rattle.std.proofs.lemmas.Bool.{cases_lt}
use Rattle.position_rank.specs.Placement.{Placement, IsLayout, IsLive, IsPosition}
use Rattle.position_rank.specs.Ranks.{rank_of, layouts}
use Rattle.position_rank.specs.LiveRanks.{live_positions, live_rank_of}
use Rattle.position_rank.proofs.RankLaws.{layouts-same, rank-below}
use Rattle.directed_fixed.specs.declared.bounds.End.{End}
use Rattle.cube_actions.specs.Stakes.{nothing}
use Rattle.turn_rule.specs.declared.game.Game.{Game}
use Rattle.turn_rule.specs.Games.{kinds_of}
use Rattle.turn_rule.specs.Turn.{Words, turn}
use Rattle.turn_rule.specs.States.{IsState, pair_of}
use Rattle.turn_rule.specs.Looks.{IsTurnPair, MayFollowTurn, all_told}
use Rattle.turn_rule.proofs.Sure.{exact-pair}
use Rattle.column_sums.specs.Leaps.{layout_at}
use Rattle.column_turns.specs.Columns.{ColumnPairs, IsRoomOf, pair_in, position_in}
use Rattle.column_turns.specs.Turns.{AreLiveMovers, AreTurnsOf}
use Rattle.best_reply.specs.Columns.{AreColumnsFilled, source_by}
use Rattle.best_reply.specs.Tables.{IsBankOf, IsFilledTo, ArePairsPut, StatePairs, words_by}
use Rattle.best_reply.proofs.Filling.{put-full, put-here, put-keeps}

-- the columns before this one, and the first so many positions of it, have got these words
pub record IsColumnPut (game : Game) (target : Words) (column : ColumnPairs) (other count : ℕ) (bank : StatePairs) : Type 0 where
  pub full : IsBankOf game bank
  pub before : (p : Placement) (k : ℕ) → IsState game p k → rank_of p.other < other → pair_of (words_by bank) p k ≡ pair_of target p k
  pub here : (i k : ℕ) → i < count → k < kinds_of game → pair_of (words_by bank) (position_in column i) k ≡ pair_of target (position_in column i) k

module _ (game : Game) (column : ColumnPairs) (other : ℕ) (room : IsRoomOf game column) (inside : other < layouts game.checkers) (other_is : column.other ≡ layout_at column.layouts other) (movers : AreLiveMovers column.layouts column.other column.movers) where
  there : other < length column.layouts
  there = omega (arith, inside, room.layouts.many)

  column-state : (i k : ℕ) → i < length column.movers → k < kinds_of game → IsState game (position_in column i) k
  column-state i k below kind =
      let mover_has = room.layouts.each _ _ (movers.within i 0 below) in
      let other_has = room.layouts.each other _ there in
      record {
        position = record { mover = mover_has.valid; other = subst IsLayout (sym other_is) other_has.valid; same = mover_has.many ∙ sym (ap (λ (o : List ℕ). sum o) other_is ∙ other_has.many) };
        many = mover_has.many;
        live = movers.live i below;
        kind = kind;
      }

  -- over these pairs alone, a column's pairs are the turns
  pub column-turned : (old : StatePairs) (noted : Words) → noted ≡ words_by old → AreTurnsOf (source_by game old) (all_told noted) game.stakes (position_in column) (length column.movers) column.pairs
      → (i k : ℕ) → i < length column.movers → k < kinds_of game → pair_in column i k ≡ pair_of (turn game.stakes (words_by old)) (position_in column i) k
  column-turned old noted same found i k below kind =
      let p = position_in column i in
      let value : End → Words → ℤ = λ end w. turn game.stakes w end p k in
      let pair = get_or column.pairs (i * kinds_of game + k) nothing in
      let is = subst (λ (w : Words). IsTurnPair game.stakes p k (source_by game old) (all_told w) pair) same (found i k below kind) in
      ap (λ (n : ℕ). get_or column.pairs (i * n + k) nothing) room.kinds
      ∙ exact-pair (source_by game old) (all_told (words_by old)) (MayFollowTurn game.stakes p k) game.stakes.bound value pair refl (λ end. refl) is

  module _ (target : Words) (turned : (i k : ℕ) → i < length column.movers → k < kinds_of game → pair_in column i k ≡ pair_of target (position_in column i) k) where
    -- one more position
    pub put-step : (i rank : ℕ) (old new : StatePairs) → i < length column.movers → rank ≡ live_rank_of (position_in column i) → IsColumnPut game target column other i old → ArePairsPut rank (pair_in column i) old new → IsColumnPut game target column other (i + 1) new
    put-step i rank old new below is so_far put =
        let q = position_in column i in
        let mover_has = room.layouts.each _ _ (movers.within i 0 below) in
        let other_has = room.layouts.each other _ there in
        let position : IsPosition q = record { mover = mover_has.valid; other = subst IsLayout (sym other_is) other_has.valid; same = mover_has.many ∙ sym (ap (λ (o : List ℕ). sum o) other_is ∙ other_has.many) } in
        let live = movers.live i below in
        let keeps = put-keeps game target rank q position live mover_has.many (sym is) (pair_in column i) old new (λ k inside. turned i k below inside) so_far.full put in
        record {
          full = put-full game target rank q position live mover_has.many (sym is) (pair_in column i) old new (λ k inside. turned i k below inside) so_far.full put;
          before = λ p k state less. keeps p k state (so_far.before p k state less);
          here = λ j k less inside. elim (cases_lt j i) [
            | inl earlier ↦ keeps (position_in column j) k (column-state j k (omega (arith, earlier, below)) inside) (so_far.here j k earlier inside)
            | inr last ↦ (
                let same : i ≡ j = omega (arith, less, last) in
                subst (λ (n : ℕ). pair_of (words_by new) (position_in column n) k ≡ pair_of target (position_in column n) k) same
                (put-here game target rank q position live mover_has.many (sym is) (pair_in column i) old new (λ k inside. turned i k below inside) so_far.full put k inside))
          ];
        }

  -- all of its positions
  pub column-filled : (target : Words) (count : ℕ) (bank : StatePairs) → length column.movers ≤ count → IsColumnPut game target column other count bank → AreColumnsFilled game target (other + 1) bank
  column-filled target count bank past put = record {
    full = put.full;
    so_far = λ p k state less. elim (cases_lt (rank_of p.other) other) [
      | inl earlier ↦ put.before p k state earlier
      | inr from ↦ (
          let at : rank_of p.other ≡ other = omega (arith, from, less) in
          let below : rank_of p.mover < length column.layouts = omega (arith, rank-below p.mover state.position.mover, room.layouts.many, ap (λ (n : ℕ). layouts n) state.many) in
          let mover_has = room.layouts.each (rank_of p.mover) _ below in
          let other_has = room.layouts.each other _ there in
          let mover : layout_at column.layouts (rank_of p.mover) ≡ p.mover = layouts-same _ p.mover mover_has.valid state.position.mover (mover_has.many ∙ sym state.many) mover_has.ranked in
          let other_same : column.other ≡ p.other = other_is ∙ layouts-same _ p.other other_has.valid state.position.other (other_has.many ∙ (sym state.many ∙ state.position.same)) (other_has.ranked ∙ sym at) in
          let place : (r : ℕ) → r ≡ rank_of p.mover → record { mover = layout_at column.layouts r; other = column.other } ≡ p =
          λ r e. ap (λ (m : List ℕ). record { mover = m; other = column.other }) (ap (λ (n : ℕ). layout_at column.layouts n) e ∙ mover) ∙ ap (λ (o : List ℕ). record { mover = p.mover; other = o }) other_same in
          let found = movers.all (rank_of p.mover) below (subst IsLive (sym (place (rank_of p.mover) refl)) state.live) in
          subst (λ (q : Placement). pair_of (words_by bank) q k ≡ pair_of target q k) (place _ found.2) (put.here found.0 k (omega (arith, found.1, past)) state.kind))
    ];
  }

-- ---- all columns

pub no-columns : (game : Game) (target : Words) (bank : StatePairs) → IsBankOf game bank → AreColumnsFilled game target 0 bank
no-columns game target bank full = record { full = full; so_far = λ p k state below. absurd (omega arith) }

pub all-columns : (game : Game) (target : Words) (other : ℕ) (bank : StatePairs) → layouts game.checkers ≤ other → AreColumnsFilled game target other bank → IsFilledTo game target (live_positions game.checkers) bank
all-columns game target other bank past filled = record {
  full = filled.full;
  so_far = λ p k state below. filled.so_far p k state (omega (arith, past, rank-below p.other state.position.other, ap (λ (n : ℕ). layouts n) (sym state.position.same ∙ state.many)));
}
