-- A column's pairs are brought to a board, one after the other.
use Rattle.std.proofs.Common.{◌≡◌, inl, inr, ◌+◌, ◌<◌, ℕ, List, length, sum, get_or, arith, ap, refl, sym, subst, ◌∙◌}
use Rattle.std.proofs.lemmas.Bool.{cases_lt}
use Rattle.position_rank.specs.Placement.{Placement, IsLayout, IsLive}
use Rattle.position_rank.specs.Ranks.{rank_of, layouts}
use Rattle.position_rank.proofs.RankLaws.{layouts-same, rank-below}
use Rattle.directed_fixed.specs.declared.bounds.End.{End}
use Rattle.directed_fixed.specs.Bounds.{Bounds, at, IsNoLooser}
use Rattle.cube_actions.specs.Stakes.{IsValid, nothing}
use Rattle.turn_rule.specs.declared.game.Game.{Game}
use Rattle.turn_rule.specs.Games.{kinds_of}
use Rattle.turn_rule.specs.Turn.{rounds}
use Rattle.turn_rule.specs.States.{IsState}
use Rattle.turn_rule.specs.Looks.{IsTurnPair, all_told}
use Rattle.turn_rule.specs.Layouts.{AreLayouts}
use Rattle.turn_rule.proofs.Values.{end-within}
use Rattle.column_sums.specs.Leaps.{layout_at}
use Rattle.column_turns.specs.Columns.{ColumnPairs, position_in, pair_in}
use Rattle.column_turns.specs.Turns.{AreLiveMovers, AreTurnsOf, mover_at, place_in}
use Rattle.interval_words.specs.declared.view.View.{View}
use Rattle.interval_words.specs.Core.{noted}
use Rattle.interval_words.specs.Seats.{GameTable, GameSeat, SitsAt, KeepsNotes}
use Rattle.interval_words.proofs.Ends.{tight-trans}
use Rattle.interval_words.proofs.TurnLaws.{turns-tighten}
use Rattle.worker_sweep.specs.Blocks.{MaySweep, IsSwept}
use Rattle.worker_sweep.specs.Columns.{MayBringColumn, AreNotedTo}
use Rattle.worker_sweep.specs.Sources.{board_source}
use Rattle.worker_sweep.proofs.BlockLemmas.{swept-noted}
use Rattle.worker_sweep.proofs.StateLemmas.{turn-done}

-- the pair of a turn that was worked out over the seat's notes may be brought
pub turn-sweeps : (game : Game) (view : View) (p : Placement) (k : ℕ) (pair : Bounds) → IsTurnPair game.stakes p k (board_source game view.base) (all_told (noted game view.notes)) pair → MaySweep game view p k pair
turn-sweeps game view p k pair is = record {
  within = λ end. end-within end game.stakes.bound pair is.within;
  loose = λ end. (is.ends refl end).no_tighter;
  tight = λ end. subst (IsNoLooser end (at end pair)) (turn-done game view.base end p k) (is.ends refl end).no_looser;
}

-- it may still be brought after other notes
pub sweeps-later : (board : GameTable) (old new : GameSeat) (p : Placement) (k : ℕ) (pair : Bounds) → IsValid board.game.stakes → SitsAt board old → KeepsNotes old new → IsState board.game p k → MaySweep board.game old.view p k pair → MaySweep board.game new.view p k pair
sweeps-later board old new p k pair valid sits kept state sweeps = record {
  within = sweeps.within;
  loose = λ end. tight-trans end _ _ _ (turns-tighten board.game valid (noted board.game new.view.notes) (noted board.game old.view.notes) (kept.notes board.game sits.game) end p k state) (sweeps.loose end);
  tight = λ end. subst (λ (n : ℕ). IsNoLooser end (at end pair) (rounds board.game.stakes (n + 1) end p k)) (sym kept.base) (sweeps.tight end);
}

pub column-later : (board : GameTable) (old new : GameSeat) (column : ColumnPairs) → IsValid board.game.stakes → SitsAt board old → KeepsNotes old new → MayBringColumn board.game old.view column → MayBringColumn board.game new.view column
column-later board old new column valid sits kept may = record {
  states = may.states;
  pairs = λ i k inside below. sweeps-later board old new (position_in column i) k (pair_in column i k) valid sits kept (may.states i k inside below) (may.pairs i k inside below);
}

-- the pair of one of its positions may still be brought
pub may-still : (board : GameTable) (old new : GameSeat) (column : ColumnPairs) (i k : ℕ) (pair : Bounds) → IsValid board.game.stakes → SitsAt board old → KeepsNotes old new → MayBringColumn board.game old.view column
    → i < length column.movers → k < kinds_of board.game → pair ≡ pair_in column i k → MaySweep board.game new.view (position_in column i) k pair
may-still board old new column i k pair valid sits kept may inside below is =
    subst (λ (b : Bounds). MaySweep board.game new.view (position_in column i) k b) (sym is)
    (sweeps-later board old new (position_in column i) k (pair_in column i k) valid sits kept (may.states i k inside below) (may.pairs i k inside below))

-- each of a column's positions is a state in each kind
pub column-states : (game : Game) (column : ColumnPairs) (block : ℕ) → AreLayouts game.checkers column.layouts → block < length column.layouts → column.other ≡ layout_at column.layouts block
    → AreLiveMovers column.layouts column.other column.movers → (i k : ℕ) → i < length column.movers → k < kinds_of game → IsState game (position_in column i) k
column-states game column block are inside other_is movers i k below kind =
    let mover_has = are.each _ _ (movers.within i 0 below) in
    let other_has = are.each block _ inside in
    record {
      position = record { mover = mover_has.valid; other = subst IsLayout (sym other_is) other_has.valid; same = mover_has.many ∙ sym (ap (λ (o : List ℕ). sum o) other_is ∙ other_has.many) };
      many = mover_has.many;
      live = movers.live i below;
      kind = kind;
    }

-- a column that was worked out over the seat's notes may be brought
pub column-filled : (game : Game) (view : View) (column : ColumnPairs) (block : ℕ) → AreLayouts game.checkers column.layouts → block < length column.layouts → column.other ≡ layout_at column.layouts block → column.kinds ≡ kinds_of game
    → AreLiveMovers column.layouts column.other column.movers → AreTurnsOf (board_source game view.base) (all_told (noted game view.notes)) game.stakes (mover_at column.layouts column.other column.movers) (length column.movers) column.pairs → MayBringColumn game view column
column-filled game view column block are inside other_is kinds movers turns = record {
  states = column-states game column block are inside other_is movers;
  pairs = λ i k below kind. turn-sweeps game view (position_in column i) k (pair_in column i k)
      (subst (λ (n : ℕ). IsTurnPair game.stakes (position_in column i) k (board_source game view.base) (all_told (noted game view.notes)) (get_or column.pairs (place_in n i k) nothing)) (sym kinds) (turns i k below kind));
}

-- what was noted of a state stays so
pub noted-later : (board : GameTable) (old new : GameSeat) (p : Placement) (count : ℕ) → ((k : ℕ) → k < count → IsState board.game p k) → SitsAt board old → KeepsNotes old new → AreNotedTo board.game old.view p count → AreNotedTo board.game new.view p count
noted-later board old new p count states sits kept noted_are end k below =
    subst (λ (n : ℕ). IsNoLooser end (noted board.game new.view.notes end p k) (rounds board.game.stakes (n + 1) end p k)) (sym kept.base)
    (tight-trans end _ _ _ (kept.notes board.game sits.game end p k (states k below)) (noted_are end k below))

-- one kind more
pub noted-kind : (board : GameTable) (old new : GameSeat) (p : Placement) (kind : ℕ) (pair : Bounds) → ((k : ℕ) → k < kind + 1 → IsState board.game p k) → SitsAt board old → KeepsNotes old new → AreNotedTo board.game old.view p kind → MaySweep board.game old.view p kind pair
    → ((end : End) → IsNoLooser end (noted board.game new.view.notes end p kind) (at end pair)) → AreNotedTo board.game new.view p (kind + 1)
noted-kind board old new p kind pair states sits kept before sweeps brought end k below = elim (cases_lt k kind) [
  | inl earlier ↦ noted-later board old new p kind (λ j h. states j (omega (arith, h))) sits kept before end k earlier
  | inr from ↦ (
      let here : kind ≡ k = omega (arith, below, from) in
      subst (λ (n : ℕ). IsNoLooser end (noted board.game new.view.notes end p n) (rounds board.game.stakes (new.view.base + 1) end p n)) here
      (subst (λ (n : ℕ). IsNoLooser end (noted board.game new.view.notes end p kind) (rounds board.game.stakes (n + 1) end p kind)) (sym kept.base) (tight-trans end _ _ _ (brought end) (sweeps.tight end))))
]

-- the other side's layout of a column has the block's rank
pub column-rank : (game : Game) (column : ColumnPairs) (block : ℕ) → AreLayouts game.checkers column.layouts → block < length column.layouts → column.other ≡ layout_at column.layouts block → rank_of column.other ≡ block
column-rank game column block are inside other_is = ap (λ (o : List ℕ). rank_of o) other_is ∙ (are.each block _ inside).ranked

-- where all of a column's positions are noted, its block is swept
pub column-swept : (game : Game) (view : View) (column : ColumnPairs) (block : ℕ) → AreLayouts game.checkers column.layouts → block < length column.layouts → column.other ≡ layout_at column.layouts block → AreLiveMovers column.layouts column.other column.movers
    → ((i : ℕ) → i < length column.movers → AreNotedTo game view (position_in column i) (kinds_of game)) → IsSwept game view block
column-swept game view column block are inside other_is movers noted_all end p k state here =
    let below : rank_of p.mover < length column.layouts = omega (arith, rank-below p.mover state.position.mover, are.many, ap (λ (n : ℕ). layouts n) state.many) in
    let mover_has = are.each (rank_of p.mover) _ below in
    let other_has = are.each block _ inside in
    let mover : layout_at column.layouts (rank_of p.mover) ≡ p.mover = layouts-same _ p.mover mover_has.valid state.position.mover (mover_has.many ∙ sym state.many) mover_has.ranked in
    let other : column.other ≡ p.other = other_is ∙ layouts-same _ p.other other_has.valid state.position.other (other_has.many ∙ (sym state.many ∙ state.position.same)) (other_has.ranked ∙ sym here) in
    let place : (rank : ℕ) → rank ≡ rank_of p.mover → record { mover = layout_at column.layouts rank; other = column.other } ≡ p =
    λ rank e. ap (λ (m : List ℕ). record { mover = m; other = column.other }) (ap (λ (n : ℕ). layout_at column.layouts n) e ∙ mover) ∙ ap (λ (o : List ℕ). record { mover = p.mover; other = o }) other in
    let found = movers.all (rank_of p.mover) below (subst IsLive (sym (place (rank_of p.mover) refl)) state.live) in
    swept-noted game view end p k (subst (λ (q : Placement). IsNoLooser end (noted game view.notes end q k) (rounds game.stakes (view.base + 1) end q k)) (place _ found.2) (noted_all found.0 found.1 end k state.kind))
