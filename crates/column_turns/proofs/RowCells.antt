-- A row of which one cell more was found.
use Rattle.std.proofs.Common.{◌≡◌, ◌<◌, ◌≤◌, ◌+◌, ◌*◌, ◌^◌, ◌≢◌, ◌∙◌, Bool, ℕ, ℤ, pos, ◌≤ℤ◌, List, length, set, Option, Some, None, get_or-set_same, get_or-set_other, below_more, sym, subst, arith}
use Rattle.std.proofs.lemmas.Int.{ints}
use Rattle.std.proofs.lemmas.List.{length-set}
use Rattle.position_rank.specs.Placement.{Placement, IsPosition}
use Rattle.directed_fixed.specs.declared.bounds.End.{End}
use Rattle.directed_fixed.specs.Bounds.{IsWithinUnits}
use Rattle.cube_actions.specs.declared.kind.Kind.{Kind}
use Rattle.turn_rule.specs.Looks.{Notes, Seen}
use Rattle.turn_rule.specs.Found.{LeavesState, IsFoundOf, of_play}
use Rattle.column_sums.specs.Leaps.{layout_at}
use Rattle.column_sums.specs.Cells.{cell_of}
use Rattle.column_sums.specs.Needed.{IsNeeded}
use Rattle.column_turns.specs.Moments.{IsLater}
use Rattle.column_turns.specs.Rows.{at_cell, IsFoundEnd, AreFoundTo, AreFoundLayers, IsSameBefore}
use Rattle.column_turns.proofs.Laters.{found-then}

pub narrower : (bound x : ℤ) → bound ≤ℤ pos (2 ^ 36) → IsWithinUnits bound x → IsWithinUnits (pos (2 ^ 36)) x
narrower bound x small h = record { from = omega (arith, ints, small, h.from); to = omega (arith, ints, small, h.to) }

pub same-set : (old row : List (Option ℤ)) (layer rank : ℕ) (x : Option ℤ) → IsSameBefore layer old row → IsSameBefore layer old (set row (cell_of layer rank) x)
same-set old row layer rank x same cell below =
    let apart : cell ≢ cell_of layer rank = omega (arith, below) in
    get_or-set_other row (cell_of layer rank) cell x None apart ∙ same cell below

module _ (end : End) (old : Seen) (kind : Kind) where
  -- what was found of an end stays found
  pub end-later : (mid new : Seen) (left : Placement) (worth : Option ℤ) → IsLater old mid → IsLater mid new → IsFoundEnd end old.source mid.notes kind left worth → IsFoundEnd end old.source new.notes kind left worth
  end-later mid new left worth one two found = λ position leaves. let here = found position leaves in (here.0, here.1, found-then end (of_play kind left) old mid new here.0 one two here.2)

  module _ (layouts : List (List ℕ)) (other : List ℕ) (needed : List Bool) where
    -- one cell more, whose end was found
    pub cell-more : (mid new : Seen) (row : List (Option ℤ)) (layer rank : ℕ) (x : ℤ) (left : Placement) → IsLater old mid → IsLater mid new → length (set row (cell_of layer rank) (Some x)) ≡ 32768 → layer < 8 → rank < 4096
        → left ≡ record { mover = layout_at layouts rank; other = other } → (LeavesState old.source kind.next left → IsFoundOf end (of_play kind left) old.source new.notes x)
        → AreFoundTo end old.source mid.notes kind layouts other needed row layer rank
        → AreFoundTo end old.source new.notes kind layouts other needed (set row (cell_of layer rank) (Some x)) layer (rank + 1)
    cell-more mid new row layer rank x left one two cells layer_few rank_few left_is found before =
        let many = length-set row (cell_of layer rank) (Some x) in
        let here : cell_of layer rank < length row = omega (arith, cells, many, layer_few, rank_few) in
        below_more (λ (r : ℕ). IsNeeded needed (cell_of layer r) → IsFoundEnd end old.source new.notes kind (record { mover = layout_at layouts r; other = other }) (at_cell (set row (cell_of layer rank) (Some x)) layer r)) rank
        (λ r below need.
        let apart : cell_of layer r ≢ cell_of layer rank = omega (arith, below) in
        let there : Placement = record { mover = layout_at layouts r; other = other } in
        subst (IsFoundEnd end old.source new.notes kind there) (sym (get_or-set_other row (cell_of layer rank) (cell_of layer r) (Some x) None apart))
        (end-later mid new there (at_cell row layer r) one two (before r below need)))
        (λ need. subst (λ (q : Placement). IsFoundEnd end old.source new.notes kind q (at_cell (set row (cell_of layer rank) (Some x)) layer rank)) left_is
        (λ position leaves. (x, get_or-set_same row (cell_of layer rank) (Some x) None here, found leaves)))

    -- one cell more, that isn't needed or of no position
    pub cell-none : (noted : Notes) (row : List (Option ℤ)) (layer rank : ℕ) → (IsNeeded needed (cell_of layer rank) → IsPosition (record { mover = layout_at layouts rank; other = other }) → ⊥)
        → AreFoundTo end old.source noted kind layouts other needed row layer rank → AreFoundTo end old.source noted kind layouts other needed row layer (rank + 1)
    cell-none noted row layer rank none before =
        below_more (λ (r : ℕ). IsNeeded needed (cell_of layer r) → IsFoundEnd end old.source noted kind (record { mover = layout_at layouts r; other = other }) (at_cell row layer r)) rank before (λ need position leaves. absurd (none need position))

    -- one layer more was found
    pub layer-more : (others : List (List ℕ)) (mid new : Seen) (row row' : List (Option ℤ)) (layer : ℕ) → IsLater old mid → IsLater mid new → IsSameBefore layer row row' → length layouts ≤ 3276 → other ≡ layout_at others layer
        → AreFoundLayers end old.source mid.notes kind layouts others needed row layer
        → AreFoundTo end old.source new.notes kind layouts other needed row' layer (length layouts)
        → AreFoundLayers end old.source new.notes kind layouts others needed row' (layer + 1)
    layer-more others mid new row row' layer one two same few other_is before this =
        below_more (λ (l : ℕ). AreFoundTo end old.source new.notes kind layouts (layout_at others l) needed row' l (length layouts)) layer
        (λ l below rank here need.
        let left : Placement = record { mover = layout_at layouts rank; other = layout_at others l } in
        let earlier : cell_of l rank < layer * 4096 = omega (arith, below, here, few) in
        subst (IsFoundEnd end old.source new.notes kind left) (sym (same (cell_of l rank) earlier))
        (end-later mid new left (at_cell row l rank) one two (before l below rank here need)))
        (subst (λ (o : List ℕ). AreFoundTo end old.source new.notes kind layouts o needed row' layer (length layouts)) other_is this)
