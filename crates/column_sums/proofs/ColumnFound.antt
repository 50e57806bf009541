-- What was looked up cell by cell makes the sums of a column found.
use Rattle.std.proofs.Common.{◌≡◌, ◌≤◌, ◌<◌, ◌∙◌, Bool, ℕ, ℤ, pos, ◌*ℤ◌, List, [], length, sum, get_or, Option, Some, None, ap, sym, subst, arith}
use Rattle.position_rank.specs.Placement.{Placement, swap, IsPosition}
use Rattle.position_rank.specs.Ranks.{rank_of, layouts}
use Rattle.position_rank.proofs.RankLaws.{layouts-same, rank-below}
use Rattle.roll_table.specs.Rolls.{all_rolls}
use Rattle.move_rules.specs.Ends.{legal_ends}
use Rattle.move_rules.proofs.Members.{Among-Contains}
use Rattle.move_rules.proofs.EndsExact.{legal_ends-sound}
use Rattle.move_rules.proofs.StayLive.{legal_end-stays}
use Rattle.directed_fixed.specs.declared.bounds.End.{End}
use Rattle.cube_actions.specs.Stakes.{Terms, kind_at, IsValid}
use Rattle.turn_rule.specs.Turn.{worth, sum_over}
use Rattle.turn_rule.specs.States.{IsStateOf, IsState}
use Rattle.turn_rule.specs.Games.{game_of}
use Rattle.turn_rule.specs.Looks.{Source, Notes, AreStakesOf, IsLeft, MayFollow}
use Rattle.turn_rule.specs.Found.{IsFound, LeavesState}
use Rattle.turn_rule.specs.Layouts.{AreLayouts}
use Rattle.turn_rule.proofs.Within.{next_state, bound-positive}
use Rattle.column_sums.specs.Cascade.{best_sum}
use Rattle.column_sums.specs.Leaps.{layout_at}
use Rattle.column_sums.specs.Cells.{cell_of}
use Rattle.column_sums.specs.Needed.{IsNeeded}
use Rattle.column_sums.specs.Tables.{IsRow, IsNeededRow}
use Rattle.column_sums.specs.AfterHits.{AreDistinct, IsLayer, AreClosedByHits}
use Rattle.column_sums.specs.Values.{cell_value}
use Rattle.column_sums.specs.FoundCells.{placement_of, AreFoundCells}
use Rattle.column_sums.proofs.RowValues.{row-values}
use Rattle.column_sums.proofs.NeededEnds.{end-needed, value-at}
use Rattle.column_sums.proofs.Found.{found-sum, all-best}

some-is : (o : Option ℤ) (x y : ℤ) → o ≡ Some x → o ≡ Some y → y ≡ x
some-is None x y e f = absurd (grind arith)
some-is (Some z) x y e f = cc

same-board : (m o : List ℕ) (q : Placement) → m ≡ q.mover → o ≡ q.other → record { mover = m; other = o } ≡ q
same-board m o q a b = ap (λ (x : List ℕ). record { mover = x; other = o }) a ∙ ap (λ (x : List ℕ). record { mover = q.mover; other = x }) b

module _ (end : End) (s : Source) (stakes : Terms) (noted : Notes) (k : ℕ) (all others : List (List ℕ)) (needed : List Bool) (row : List (Option ℤ)) (layouts-are : AreLayouts s.checkers all) (few : length all ≤ 3276) (eight : length others ≤ 8)
    (distinct : AreDistinct others) (is-row : IsRow row) (found : AreFoundCells end s noted (kind_at stakes k) all others needed row) where
  -- the value of the placement of a cell
  cell-value : (layer rank : ℕ) → layer < length others → rank < length all → (x : ℤ) → get_or row (cell_of layer rank) None ≡ Some x → cell_value others row (placement_of all others layer rank) ≡ x
  cell-value layer rank h r x e = some-is _ x _ e (value-at s.checkers all others needed layouts-are few eight distinct row layer rank is-row h r)

  end-found : (layer rank : ℕ) → layer < length others → rank < length all → IsNeeded needed (cell_of layer rank) → (q : Placement) → placement_of all others layer rank ≡ q
      → IsPosition q → LeavesState s (kind_at stakes k).next q → IsFound end s noted (IsLeft (kind_at stakes k).next q) s.bound (λ u. worth end (kind_at stakes k) u q) (cell_value others row q)
  end-found layer rank h r need q is position leaves =
      let kind = kind_at stakes k in
      let leaves' : LeavesState s kind.next (placement_of all others layer rank) = subst (λ (b : Placement). LeavesState s kind.next b) (sym is) leaves in
      let here = found layer rank h r need (subst IsPosition (sym is) position) leaves' in
      let value = cell-value layer rank h r here.0 here.1 in
      let at_cell = subst (λ (x : ℤ). IsFound end s noted (IsLeft kind.next (placement_of all others layer rank)) s.bound (λ u. worth end kind u (placement_of all others layer rank)) x) (sym value) here.2 in
      subst (λ (b : Placement). IsFound end s noted (IsLeft kind.next b) s.bound (λ u. worth end kind u b) (cell_value others row b)) is at_cell

  pub column-found : IsValid stakes → AreStakesOf s stakes → AreClosedByHits others → (p : Placement) → IsStateOf s.checkers s.kinds p k → IsLayer others p.other
      → (x : ℤ) → ((value : Placement → ℤ) → IsNeededRow value all others needed row → x ≡ best_sum all_rolls value p)
      → IsFound end s noted (MayFollow stakes p k) (pos 36 *ℤ s.bound) (λ u. sum_over all_rolls (worth end (kind_at stakes k) u) p) x
  column-found valid fits closed p state is x best =
      subst (λ (x : ℤ). IsFound end s noted (MayFollow stakes p k) (pos 36 *ℤ s.bound) (λ u. sum_over all_rolls (worth end (kind_at stakes k) u) p) x) (all-best (cell_value others row) p ∙ sym (best (cell_value others row) (row-values s.checkers all others needed row layouts-are few eight distinct is-row)))
      (found-sum end s stakes noted p k (cell_value others row) (rw fits.bound (bound-positive stakes valid)) (λ roll q right m.
      let legal = legal_ends-sound p roll q (Among-Contains q (legal_ends p roll) m) in
      let stays = legal_end-stays p roll q right state.position state.live legal in
      let layer = closed p roll q right is legal in
      let many : sum q.mover ≡ s.checkers = stays.1 ∙ state.many in
      let rank : rank_of q.mover < length all = omega (arith, rank-below q.mover stays.0.mover, layouts-are.many, ap (λ (n : ℕ). layouts n) many) in
      let has = layouts-are.each (rank_of q.mover) [] rank in
      let mover : layout_at all (rank_of q.mover) ≡ q.mover = layouts-same (layout_at all (rank_of q.mover)) q.mover has.valid stays.0.mover (has.many ∙ sym many) has.ranked in
      let state' : IsState (game_of s.checkers stakes) p k = subst (λ (n : ℕ). IsStateOf s.checkers n p k) fits.kinds state in
      let leaves : LeavesState s (kind_at stakes k).next q = λ on. subst (λ (n : ℕ). IsStateOf s.checkers n (swap q) (kind_at stakes k).next) (sym fits.kinds) (next_state (game_of s.checkers stakes) valid p k state' roll q right m on) in
      let at : placement_of all others layer.0 (rank_of q.mover) ≡ q = same-board (layout_at all (rank_of q.mover)) (layout_at others layer.0) q mover layer.2 in
      let need = end-needed s.checkers all others needed layouts-are few eight distinct row is-row p x best roll right q m layer.0 (rank_of q.mover) layer.1 rank at in
      end-found layer.0 (rank_of q.mover) layer.1 rank need q at stays.0 leaves))
