-- One column more.
use Rattle.std.proofs.Common.{◌≡◌, ◌<◌, ◌+◌, ◌*◌, ◌∙◌, ℕ, ℤ, List, [], length, sum, get_or, sym, ap, subst, inl, inr, refl, arith}
use Rattle.std.proofs.lemmas.Bool.{cases_lt, cases_eq}
use Rattle.position_rank.specs.Placement.{Placement, IsPosition}
use Rattle.position_rank.specs.Ranks.{rank_of, square_rank_of}
use Rattle.position_rank.proofs.RankLaws.{layouts-same, positions-same, rank-below}
use Rattle.directed_fixed.specs.declared.bounds.End.{End}
use Rattle.cube_actions.specs.Stakes.{Terms, nothing}
use Rattle.turn_rule.specs.Turn.{Words, turn}
use Rattle.turn_rule.specs.States.{pair_of}
use Rattle.turn_rule.specs.Looks.{MayFollowTurn, IsTurnPair, all_told}
use Rattle.turn_rule.specs.Layouts.{AreLayouts, HasRank}
use Rattle.turn_rule.proofs.Sure.{exact-pair}
use Rattle.column_sums.specs.Leaps.{layout_at}
use Rattle.column_turns.specs.Columns.{ColumnPairs}
use Rattle.column_turns.specs.Turns.{at_rank, AreLiveMovers, AreTurnsOf}
use Rattle.plain_table.specs.Tables.{PairTable, IsFull, words_at, read_from}
use Rattle.plain_table.specs.Columns.{position_at, turn_at, IsSameBut}
use Rattle.plain_table.specs.Rounds.{AreAlike, IsTurnedBefore}

-- over a table's words alone, a column's pairs are the turns
pub turns-exact : (stakes : Terms) (old : PairTable) (bound : ℤ) (noted : Words) (column : ColumnPairs) → column.kinds ≡ length stakes.kinds → noted ≡ words_at old
    → AreTurnsOf (read_from old bound) (all_told noted) stakes (position_at column) (length column.movers) column.pairs
    → (i k : ℕ) → i < length column.movers → k < length stakes.kinds → turn_at column i k ≡ pair_of (turn stakes (words_at old)) (position_at column i) k
turns-exact stakes old bound noted column kinds same found i k here kind =
    let p = position_at column i in
    let value : End → Words → ℤ = λ end w. turn stakes w end p k in
    let is = subst (λ (w : Words). IsTurnPair stakes p k (read_from old bound) (all_told w) (get_or column.pairs (i * length stakes.kinds + k) nothing)) same (found i k here kind) in
    ap (λ (n : ℕ). get_or column.pairs (i * n + k) nothing) kinds
    ∙ exact-pair (read_from old bound) (all_told (words_at old)) (MayFollowTurn stakes p k) bound value (get_or column.pairs (i * length stakes.kinds + k) nothing) refl (λ end. refl) is

-- the first few positions of a column have their turn over the old table, and those of other columns have the pairs of the start
pub record IsFilled (stakes : Terms) (old start : PairTable) (column : ColumnPairs) (count : ℕ) (new : PairTable) : Type 0 where
  pub alike : AreAlike old new
  pub full : IsFull new
  pub so_far : (i k : ℕ) → i < count → k < old.kinds → pair_of (words_at new) (position_at column i) k ≡ pair_of (turn stakes (words_at old)) (position_at column i) k
  pub rest : (p : Placement) (k : ℕ) → IsPosition p → sum p.mover ≡ old.checkers → (p.other ≡ column.other → ⊥) → k < old.kinds → pair_of (words_at new) p k ≡ pair_of (words_at start) p k

-- the position of a column is one of the table's
pub record IsOfTable (old : PairTable) (p : Placement) : Type 0 where
  pub position : IsPosition p
  pub many : sum p.mover ≡ old.checkers

pub of-table : (old : PairTable) (column : ColumnPairs) (rank : ℕ) → AreLayouts old.checkers column.layouts → rank < length column.layouts → column.other ≡ layout_at column.layouts rank → AreLiveMovers column.layouts column.other column.movers
    → (i : ℕ) → i < length column.movers → IsOfTable old (position_at column i)
of-table old column rank all inside is live i below =
    let mover = all.each (get_or column.movers i 0) [] (live.within i 0 below) in
    let other : HasRank old.checkers rank column.other = subst (HasRank old.checkers rank) (sym is) (all.each rank [] inside) in
    record { position = record { mover = mover.valid; other = other.valid; same = mover.many ∙ sym other.many }; many = mover.many }

same-pair : (mid next : PairTable) (p : Placement) (k : ℕ) → next.kinds ≡ mid.kinds → get_or next.pairs (square_rank_of p * mid.kinds + k) nothing ≡ get_or mid.pairs (square_rank_of p * mid.kinds + k) nothing → pair_of (words_at next) p k ≡ pair_of (words_at mid) p k
same-pair mid next p k kinds same = ap (λ (n : ℕ). get_or next.pairs (square_rank_of p * n + k) nothing) kinds ∙ same

module _ (stakes : Terms) (old start : PairTable) (column : ColumnPairs) where
  -- one more position of the column
  pub fill-step : (i : ℕ) (mid next : PairTable) → IsFilled stakes old start column i mid → i < length column.movers → ((j : ℕ) → j < length column.movers → IsOfTable old (position_at column j))
      → ((k : ℕ) → k < old.kinds → turn_at column i k ≡ pair_of (turn stakes (words_at old)) (position_at column i) k)
      → AreAlike mid next → IsFull next → ((k : ℕ) → k < mid.kinds → pair_of (words_at next) (position_at column i) k ≡ turn_at column i k) → IsSameBut (square_rank_of (position_at column i)) mid next
      → IsFilled stakes old start column (i + 1) next
  fill-step i mid next before here valid turned alike full put rest =
      let p = position_at column i in
      let stays : (q : Placement) (k : ℕ) → (square_rank_of q ≡ square_rank_of p → ⊥) → k < old.kinds → pair_of (words_at next) q k ≡ pair_of (words_at mid) q k = λ q k apart kind.
      same-pair mid next q k alike.kinds (rest (square_rank_of q) k apart (rw before.alike.kinds kind)) in
      record {
        alike = record { checkers = alike.checkers ∙ before.alike.checkers; kinds = alike.kinds ∙ before.alike.kinds };
        full = full;
        so_far = λ a k below kind.
            let q = position_at column a in
            elim (cases_eq (square_rank_of q) (square_rank_of p)) [
              | inl same ↦ (
                  let there : a < length column.movers = omega (arith, below, here) in
                  let is : p ≡ q = sym (positions-same q p (valid a there).position (valid i here).position ((valid a there).many ∙ sym (valid i here).many) same) in
                  subst (λ (b : Placement). pair_of (words_at next) b k ≡ pair_of (turn stakes (words_at old)) b k) is (put k (rw before.alike.kinds kind) ∙ turned k kind))
              | inr apart ↦ elim (cases_lt a i) [
                | inl less ↦ stays q k apart kind ∙ before.so_far a k less kind
                | inr more ↦ (let last : a ≡ i = omega (arith, below, more) in absurd (apart (ap (λ (j : ℕ). square_rank_of (position_at column j)) last)))
              ]
            ];
        rest = λ q k position many other kind.
            stays q k (λ same. other (ap (λ (b : Placement). b.other) (positions-same q p position (valid i here).position (many ∙ sym (valid i here).many) same))) kind
            ∙ before.rest q k position many other kind;
      }

  -- the whole column
  pub column-turned : (new : PairTable) (rank : ℕ) → AreLayouts old.checkers column.layouts → old.kinds ≡ length stakes.kinds → rank < length column.layouts → column.other ≡ layout_at column.layouts rank → AreLiveMovers column.layouts column.other column.movers
      → IsTurnedBefore stakes old start rank → IsFilled stakes old start column (length column.movers) new → IsTurnedBefore stakes old new (rank + 1)
  column-turned new rank all kinds inside is live before filled q k state below =
      let has : HasRank old.checkers rank column.other = subst (HasRank old.checkers rank) (sym is) (all.each rank [] inside) in
      let kind : k < old.kinds = rw kinds state.kind in
      elim (cases_lt (rank_of q.other) rank) [
        | inl less ↦ (
            let apart : q.other ≡ column.other → ⊥ = λ e. (let at : rank_of q.other ≡ rank = ap rank_of e ∙ has.ranked in omega (arith, at, less)) in
            filled.rest q k state.position state.many apart kind ∙ before q k state less)
        | inr more ↦ (
            let at : rank_of q.other ≡ rank = omega (arith, below, more) in
            let other : column.other ≡ q.other = layouts-same column.other q.other has.valid state.position.other (has.many ∙ (sym state.many ∙ state.position.same)) (has.ranked ∙ sym at) in
            let r = rank_of q.mover in
            let room : r < length column.layouts = rw (all.many, ← state.many) (rank-below q.mover state.position.mover) in
            let this = all.each r [] room in
            let mover : layout_at column.layouts r ≡ q.mover = layouts-same (layout_at column.layouts r) q.mover this.valid state.position.mover (this.many ∙ sym state.many) this.ranked in
            let with_mover : List ℕ → Placement = λ m. record { mover = m; other = column.other } in
            let with_other : List ℕ → Placement = λ o. record { mover = q.mover; other = o } in
            let q_is : at_rank column.layouts column.other r ≡ q = ap with_mover mover ∙ ap with_other other in
            let found = live.all r room (rw q_is state.live) in
            let p_is : position_at column found.0 ≡ q = ap (at_rank column.layouts column.other) found.2 ∙ q_is in
            subst (λ (b : Placement). pair_of (words_at new) b k ≡ pair_of (turn stakes (words_at old)) b k) p_is (filled.so_far found.0 k found.1 kind))
      ]
