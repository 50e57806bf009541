-- Tables that are right where the moves of a column lead.
use Rattle.std.proofs.Common.{◌≡◌, ◌≤◌, ◌<◌, ◌-◌, ◌/◌, ◌%◌, ◌∙◌, All, inl, inr, ℕ, ℤ, get_or, List, [], ◌∷◌, length, take, Option, None, ap, subst, sym, arith}
use Rattle.std.proofs.lemmas.List.{get_or-take, length-take}
use Rattle.position_rank.specs.Placement.{Placement}
use Rattle.column_sums.specs.Cells.{no_cell, cell_of, IsCell, IsCellOrNone, IsReach}
use Rattle.column_sums.specs.Tables.{IsNeededRow, IsRow, IsRightAt, IsRightAfter, AreRightIn}
use Rattle.column_sums.specs.Needed.{IsNeeded, LeadsToNeeded}
use Rattle.column_sums.specs.MoveLists.{IsAmongOrNone, LeadsAmong, AreReady}
use Rattle.column_sums.specs.Leaps.{layout_at}
use Rattle.column_sums.specs.ColumnOf.{begun_at}
use Rattle.column_sums.specs.Sums.{AreRightTo, DoubleTables, PairTables, die_list, mover_placement}
use Rattle.column_sums.specs.declared.cells.Reach.{Reach}
use Rattle.column_sums.specs.declared.moves.DieList.{DieList}
use Rattle.column_sums.specs.declared.moves.Moves.{Moves}
use Rattle.column_sums.proofs.CellLemmas.{best-none, best-cell}
use Rattle.column_sums.proofs.Places.{any-default}
use Rattle.column_sums.proofs.RollLemmas.{IsPairReady, IsDoubleReady}

abbrev no_reach : Reach
no_reach = record { cell = 0; first = 0; second = 0; third = 0 }

whole-cell : (cell : ℕ) → cell_of (cell / 4096) (cell % 4096) ≡ cell
whole-cell cell = omega arith

module _ (value : Placement → ℤ) (moves : Moves) (ready : AreReady moves) where
  abbrev layouts : List (List ℕ)
  layouts = moves.steps

  abbrev others : List (List ℕ)
  others = moves.layers

  right-none : (dice : List ℕ) (table : List (Option ℤ)) → get_or table no_cell None ≡ None → IsRightAt value dice layouts others table no_cell
  right-none dice table missing = missing ∙ sym (best-none layouts others ready.few value dice)

  pub row-right : (row : List (Option ℤ)) (cell : ℕ) → IsNeededRow value layouts others moves.needed.items row → IsCell (length layouts) (length others) cell → IsNeeded moves.needed.items cell → IsRightAt value [] layouts others row cell
  row-right row cell tabled is needed =
      ap (λ (c : ℕ). get_or row c None) (sym (whole-cell cell)) ∙ (tabled (cell / 4096) (cell % 4096) is.layer is.rank (subst (IsNeeded moves.needed.items) (sym (whole-cell cell)) needed) ∙ sym (best-cell layouts others ready.few value [] cell is))

  row-or-none : (row : List (Option ℤ)) (cell : ℕ) → IsRow row → IsNeededRow value layouts others moves.needed.items row → IsNeeded moves.needed.items cell → IsCellOrNone (length layouts) (length others) cell → IsRightAt value [] layouts others row cell
  row-or-none row cell is tabled needed (inl none) = subst (IsRightAt value [] layouts others row) (sym none) (right-none [] row is.missing)
  row-or-none row cell is tabled needed (inr here) = row-right row cell tabled here needed

  -- a row is right wherever a die leads
  pub row-after : (row : List (Option ℤ)) (die : ℕ) (reach : Reach) → IsRow row → IsNeededRow value layouts others moves.needed.items row → LeadsToNeeded moves.needed.items reach → IsReach layouts others die reach → IsRightAfter value [] layouts others row reach
  row-after row die reach is tabled needed leads = record {
    first = row-or-none row reach.first is tabled needed.first leads.first;
    second = row-or-none row reach.second is tabled needed.second leads.second;
    third = row-or-none row reach.third is tabled needed.third leads.third;
  }

  -- a row is right where a turn begins, in the cell that the list of a die has for it
  row-begun : (row : List (Option ℤ)) (reach : Reach) (i : ℕ) → i < length moves.listing → IsNeededRow value layouts others moves.needed.items row → reach.cell ≡ get_or moves.listing i 0 → IsCell (length layouts) (length others) reach.cell → IsRightAt value [] layouts others row reach.cell
  row-begun row reach i near tabled at is = row-right row reach.cell tabled is (subst (IsNeeded moves.needed.items) (sym at) (ready.needed.listed i near))

  module _ (dice : List ℕ) (table : List (Option ℤ)) (missing : get_or table no_cell None ≡ None) (reaches : List Reach) (end : ℕ)
      (right : (i : ℕ) (none : Reach) → i < end → IsRightAt value dice layouts others table (get_or reaches i none).cell) where
    among-right : (cell : ℕ) → IsAmongOrNone reaches end cell → IsRightAt value dice layouts others table cell
    among-right cell (inl none) = subst (IsRightAt value dice layouts others table) (sym none) (right-none dice table missing)
    among-right cell (inr (i, h, is)) = subst (IsRightAt value dice layouts others table) (is no_reach) (right i no_reach h)

    -- a table is right wherever these lead, if it is right in their cells
    pub after-among : (reach : Reach) → LeadsAmong reaches end reach → IsRightAfter value dice layouts others table reach
    after-among reach leads = record { first = among-right reach.first leads.first; second = among-right reach.second leads.second; third = among-right reach.third leads.third }

  pub double-ready : (die : ℕ) (row one two three : List (Option ℤ)) (list : DieList) (i : ℕ) (none : Reach) → 1 ≤ die → die ≤ 6 → i < moves.movers → get_or three no_cell None ≡ None
      → DoubleTables value moves die row one two three → IsDoubleReady value layouts others die (get_or (die_list moves die list).reaches.items i none) row one two three
  double-ready die row one two three list i none a b h missing tables =
      let is = ready.each die list a b in
      let all = (die_list moves die list).reaches.items in
      let near : i < length moves.listing = omega (arith, h, is.first) in
      let second : i < (die_list moves die list).second = omega (arith, near, is.longer) in
      let here : i < length all = omega (arith, second, is.second) in
      let reach = is.each i none here in
      record {
        few = ready.few;
        reaches = reach;
        none = row-begun row (get_or all i none) i near tables.none (is.at i none near) reach.cell;
        once = tables.once list i none here;
        twice = tables.more.twice list i none second;
        thrice = tables.more.thrice list i none near;
        four = after-among (die ∷ die ∷ die ∷ []) three missing all (length moves.listing) (tables.more.thrice list) (get_or all i none) (is.one_die i none h);
      }

  pub pair-ready : (high low : ℕ) (row after_high after_low : List (Option ℤ)) (first second : DieList) (i : ℕ) (none : Reach) → 1 ≤ high → high ≤ 6 → 1 ≤ low → low ≤ 6 → i < moves.movers
      → get_or after_high no_cell None ≡ None → get_or after_low no_cell None ≡ None → PairTables value moves high low row after_high after_low
      → IsPairReady value layouts others high low (get_or (die_list moves high first).reaches.items i none) (get_or (die_list moves low second).reaches.items i none) row after_high after_low
  pair-ready high low row after_high after_low first second i none a b c d h miss_high miss_low tables =
      let by_high = ready.each high first a b in
      let by_low = ready.each low second c d in
      let highs = (die_list moves high first).reaches.items in
      let lows = (die_list moves low second).reaches.items in
      let near : i < length moves.listing = omega (arith, h, by_high.first) in
      let in_high : i < length highs = omega (arith, near, by_high.longer, by_high.second) in
      let in_low : i < length lows = omega (arith, near, by_low.longer, by_low.second) in
      let same : (k : ℕ) (x : Reach) → k < length moves.listing → (get_or lows k x).cell ≡ (get_or highs k x).cell = λ k x below. by_low.at k x below ∙ sym (by_high.at k x below) in
      let lower : (k : ℕ) (x : Reach) → k < length moves.listing → IsRightAt value (low ∷ []) layouts others after_low (get_or highs k x).cell =
      λ k x below. subst (IsRightAt value (low ∷ []) layouts others after_low) (same k x below) (tables.lower second k x (omega (arith, below, by_low.longer, by_low.second))) in
      let higher : (k : ℕ) (x : Reach) → k < length moves.listing → IsRightAt value (high ∷ []) layouts others after_high (get_or lows k x).cell =
      λ k x below. subst (IsRightAt value (high ∷ []) layouts others after_high) (sym (same k x below)) (tables.higher first k x (omega (arith, below, by_high.longer, by_high.second))) in
      record {
        few = ready.few;
        by_high = by_high.each i none in_high;
        by_low = by_low.each i none in_low;
        same = same i none near;
        none = row-begun row (get_or highs i none) i near tables.none (by_high.at i none near) (by_high.each i none in_high).cell;
        higher = tables.higher first i none in_high;
        lower = lower i none near;
        high_first = after-among (low ∷ []) after_low miss_low highs (length moves.listing) lower (get_or highs i none) (by_high.one_die i none h);
        low_first = after-among (high ∷ []) after_high miss_high lows (length moves.listing) higher (get_or lows i none) (by_low.one_die i none h);
      }

module _ (value : Placement → ℤ) (moves : Moves) (ready : AreReady moves) (die : ℕ) (list : DieList) where
  abbrev all : List Reach
  all = (die_list moves die list).reaches.items

  part : (P : Reach → Type 0) (n : ℕ) → ((i : ℕ) (none : Reach) → i < n → P (get_or all i none)) → All P (take n all)
  part P n each i none h =
      let short : i < n = omega (arith, h, length-take n all) in
      subst P (sym (get_or-take n all i none short)) (each i none short)

  -- one die more in the cells of the first few, where the table is right in all that they lead to
  pub filled-to : (dice : List ℕ) (end next n : ℕ) (reaches : List Reach) (from to : List (Option ℤ)) → 1 ≤ die → die ≤ 6 → reaches ≡ all → n ≡ end → end ≤ length all → get_or from no_cell None ≡ None
      → AreRightTo value dice moves from all next → ((i : ℕ) (none : Reach) → i < end → LeadsAmong all next (get_or all i none))
      → (All (IsReach moves.steps moves.layers die) (take n reaches) → All (IsRightAfter value dice moves.steps moves.layers from) (take n reaches) → AreRightIn value (die ∷ dice) moves.steps moves.layers to (take n reaches))
      → AreRightTo value (die ∷ dice) moves to all end
  filled-to dice end next n reaches from to a b same end-is within missing right leads filled =
      let is = ready.each die list a b in
      let reach : All (IsReach moves.steps moves.layers die) (take end all) = part (IsReach moves.steps moves.layers die) end (λ i none h. is.each i none (omega (arith, h, within))) in
      let after : All (IsRightAfter value dice moves.steps moves.layers from) (take end all) =
      part (IsRightAfter value dice moves.steps moves.layers from) end (λ i none h. after-among value moves ready dice from missing all next right (get_or all i none) (leads i none h)) in
      let moved : take end all ≡ take n reaches = ap (λ (m : ℕ). take m all) (sym end-is) ∙ ap (λ (rs : List Reach). take n rs) (sym same) in
      let done = filled (subst (All (IsReach moves.steps moves.layers die)) moved reach) (subst (All (IsRightAfter value dice moves.steps moves.layers from)) moved after) in
      let there : AreRightIn value (die ∷ dice) moves.steps moves.layers to (take end all) = subst (λ (rs : List Reach). AreRightIn value (die ∷ dice) moves.steps moves.layers to rs) (sym moved) done in
      λ i none h. subst (λ (r : Reach). IsRightAt value (die ∷ dice) moves.steps moves.layers to r.cell) (get_or-take end all i none h) (there i none (omega (arith, h, within, length-take end all)))

pub same-list : (moves : Moves) → AreReady moves → (die : ℕ) (one other : DieList) → 1 ≤ die → die ≤ 6 → die_list moves die one ≡ die_list moves die other
same-list moves ready die one other a b = any-default moves.lists (die - 1) one other (omega (arith, a, b, ready.rooms.six))

-- a mover's cell is in the first layer
pub begun-is : (moves : Moves) → AreReady moves → (i : ℕ) → i < moves.movers
    → mover_placement moves i ≡ begun_at (record { layouts = moves.steps; others = moves.layers; movers = take moves.movers moves.listing; needed = moves.needed.items }) i
begun-is moves ready i h =
    let low = ready.begun i h in
    let cell = get_or moves.listing i 0 in
    let rank : cell % 4096 ≡ cell = omega (arith, low, ready.few) in
    let layer : cell / 4096 ≡ 0 = omega (arith, low, ready.few) in
    ap (λ (r : ℕ). record { mover = layout_at moves.steps r; other = layout_at moves.layers (cell / 4096) }) (rank ∙ sym (get_or-take moves.movers moves.listing i 0 h))
    ∙ ap (λ (l : ℕ). record { mover = layout_at moves.steps (get_or (take moves.movers moves.listing) i 0); other = layout_at moves.layers l }) layer

pub begun-low : (moves : Moves) (i : ℕ) → i < length (take moves.movers moves.listing) → i < moves.movers
begun-low moves i h = omega (arith, h, length-take moves.movers moves.listing)
