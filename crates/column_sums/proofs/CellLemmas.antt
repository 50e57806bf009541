-- What a die leads to from a cell.
use Rattle.std.proofs.Common.{◌≡◌, ◌≤◌, ◌<◌, ◌/◌, ◌%◌, ◌∙◌, All, inl, inr, ℕ, zero, suc, ℤ, Bool, true, false, cond, ltb, get_or, List, [], ◌∷◌, length, Option, None, refl, ap, subst, sym, arith}
use Rattle.std.proofs.lemmas.Bool.Decides.{nat_tests}
use Rattle.std.proofs.lemmas.Bool.{lt-ltb, le-ltb}
use Rattle.position_rank.specs.Placement.{Placement}
use Rattle.move_rules.specs.Ends.{places}
use Rattle.column_sums.specs.Cascade.{or_max, then_value, best_over}
use Rattle.column_sums.specs.Columns.{Step, is_open, struck, landed, steps_from, over_steps}
use Rattle.column_sums.specs.Leaps.{layout_at, IsLeap, AreLeaps, AreNext}
use Rattle.column_sums.specs.Cells.{no_cell, cell_of, IsCell, IsCellOrNone, cell_placement, best_from, leap_cell, nth_cell, IsShort, IsReach}
use Rattle.column_sums.specs.declared.leaps.Leap.{Leap}
use Rattle.column_sums.proofs.Mosts.{or_max-assoc, or_max-none}
use Rattle.column_sums.proofs.StepLemmas.{places-steps}

pub cell-rank : (layer rank : ℕ) → rank < 4096 → cell_of layer rank % 4096 ≡ rank
cell-rank layer rank h = omega (arith, h)

pub cell-layer : (layer rank : ℕ) → rank < 4096 → cell_of layer rank / 4096 ≡ layer
cell-layer layer rank h = omega (arith, h)

-- the steps stay within a layer
pub leaps-short : (layouts : List (List ℕ)) (leaps : List Leap) (steps : List Step) → length layouts ≤ 3276 → AreLeaps layouts leaps steps → All (IsShort 25) leaps
leaps-short layouts [] steps few are i d h = absurd (omega (arith, h))
leaps-short layouts (leap ∷ leaps) [] few are i d h = absurd are
leaps-short layouts (leap ∷ leaps) (step ∷ steps) few are zero d h = record { lands = omega (arith, are.0.point); to = omega (arith, are.0.within, few) }
leaps-short layouts (leap ∷ leaps) (step ∷ steps) few are (suc i) d h = leaps-short layouts leaps steps few are.1 i d (omega (arith, h))

one-left : (a : Option ℤ) → or_max a None ≡ or_max (or_max a None) None
one-left a = rw (or_max-none a, or_max-none a) refl

two-left : (a b : Option ℤ) → or_max a (or_max b None) ≡ or_max (or_max a b) None
two-left a b = or_max-assoc a b None

three-left : (a b c : Option ℤ) → or_max a (or_max b (or_max c None)) ≡ or_max (or_max a b) c
three-left a b c = rw (or_max-none c) (or_max-assoc a b c)

-- the cell after the leap with a number
pub nth-is : (layers : ℕ) (next : List ℕ) (leaps : List Leap) (i : ℕ) (d : Leap) → i < length leaps → leap_cell layers next (get_or leaps i d) ≡ nth_cell layers next leaps i
nth-is layers next [] i d h = absurd (omega (arith, h))
nth-is layers next (leap ∷ leaps) zero d h = refl
nth-is layers next (leap ∷ leaps) (suc i) d h = nth-is layers next leaps i d (omega (arith, h))

pub nth-none : (layers : ℕ) (next : List ℕ) (leaps : List Leap) (i : ℕ) → length leaps ≤ i → no_cell ≡ nth_cell layers next leaps i
nth-none layers next [] i h = refl
nth-none layers next (leap ∷ leaps) zero h = absurd (omega (arith, h))
nth-none layers next (leap ∷ leaps) (suc i) h = nth-none layers next leaps i (omega (arith, h))

module _ (layouts others : List (List ℕ)) (few : length layouts ≤ 3276) where
  pub best-none : (value : Placement → ℤ) (dice : List ℕ) → best_from value dice layouts others no_cell ≡ None
  unfolding best_from
  best-none value dice = let out : ltb 4095 (length layouts) ≡ false = le-ltb 4095 (length layouts) (omega (arith, few)) in rw out refl

  pub best-cell : (value : Placement → ℤ) (dice : List ℕ) (cell : ℕ) → IsCell (length layouts) (length others) cell → best_from value dice layouts others cell ≡ best_over value dice (cell_placement layouts others cell)
  unfolding best_from
  best-cell value dice cell is =
      let rank : ltb (cell % 4096) (length layouts) ≡ true = lt-ltb (cell % 4096) (length layouts) is.rank in
      let layer : ltb (cell / 4096) (length others) ≡ true = lt-ltb (cell / 4096) (length others) is.layer in
      rw (rank, layer) refl

  pub cell-is : (layer rank : ℕ) → layer < length others → rank < length layouts → IsCell (length layouts) (length others) (cell_of layer rank)
  cell-is layer rank h k = record { rank = rw (cell-rank layer rank (omega (arith, k, few))) k; layer = rw (cell-layer layer rank (omega (arith, k, few))) h }

  pub best-there : (value : Placement → ℤ) (dice : List ℕ) (layer rank : ℕ) → layer < length others → rank < length layouts
      → best_from value dice layouts others (cell_of layer rank) ≡ best_over value dice (record { mover = layout_at layouts rank; other = layout_at others layer })
  best-there value dice layer rank h k =
      best-cell value dice (cell_of layer rank) (cell-is layer rank h k)
      ∙ (ap (λ (r : ℕ). best_over value dice (record { mover = layout_at layouts r; other = layout_at others (cell_of layer rank / 4096) })) (cell-rank layer rank (omega (arith, k, few)))
      ∙ ap (λ (l : ℕ). best_over value dice (record { mover = layout_at layouts rank; other = layout_at others l })) (cell-layer layer rank (omega (arith, k, few))))

  module _ (layer : ℕ) (next : List ℕ) (nexts : AreNext others layer next) where
    -- the cell after a leap is that of what its step leaves
    pub leap-best : (value : Placement → ℤ) (dice : List ℕ) (leap : Leap) (step : Step) → IsLeap layouts leap step
        → best_from value dice layouts others (leap_cell (length others) next leap) ≡ then_value (best_over value dice) (landed (layout_at others layer) step)
    leap-best value dice leap step is =
        let here = nexts leap.lands is.point in
        let free : is_open (layout_at others layer) step.lands ≡ ltb (get_or next leap.lands 0) (length others) = subst (λ (l : Option ℕ). is_open (layout_at others layer) l ≡ ltb (get_or next leap.lands 0) (length others)) is.lands here.is_open in
        choose (ltb (get_or next leap.lands 0) (length others)) refl free where
          choose : (b : Bool) → ltb (get_or next leap.lands 0) (length others) ≡ b → is_open (layout_at others layer) step.lands ≡ ltb (get_or next leap.lands 0) (length others)
              → best_from value dice layouts others (leap_cell (length others) next leap) ≡ then_value (best_over value dice) (landed (layout_at others layer) step)
          choose true e free =
              let within : get_or next leap.lands 0 < length others = grind (arith, nat_tests) in
              let is_struck = subst (λ (l : Option ℕ). layout_at others (get_or next leap.lands 0) ≡ struck (layout_at others layer) l) is.lands ((nexts leap.lands is.point).struck within) in
              rw (free, e)
              (best-there value dice (get_or next leap.lands 0) leap.to within is.within
              ∙ (ap (λ (m : List ℕ). best_over value dice (record { mover = m; other = layout_at others (get_or next leap.lands 0) })) is.mover
              ∙ ap (λ (o : List ℕ). best_over value dice (record { mover = step.mover; other = o })) is_struck))
          choose false e free = rw (free, e) (best-none value dice)

    pub leap-cell-is : (leap : Leap) (step : Step) → IsLeap layouts leap step → IsCellOrNone (length layouts) (length others) (leap_cell (length others) next leap)
    leap-cell-is leap step is = choose (ltb (get_or next leap.lands 0) (length others)) refl where
      choose : (b : Bool) → ltb (get_or next leap.lands 0) (length others) ≡ b → IsCellOrNone (length layouts) (length others) (cond b (cell_of (get_or next leap.lands 0) leap.to) no_cell)
      choose true e = let within : get_or next leap.lands 0 < length others = grind (arith, nat_tests) in inr (cell-is (get_or next leap.lands 0) leap.to within is.within)
      choose false e = inl refl

    pub cells-are : (leaps : List Leap) (steps : List Step) → AreLeaps layouts leaps steps → (i : ℕ) → IsCellOrNone (length layouts) (length others) (nth_cell (length others) next leaps i)
    cells-are [] steps are i = inl refl
    cells-are (leap ∷ leaps) [] are i = absurd are
    cells-are (leap ∷ leaps) (step ∷ steps) are zero = leap-cell-is leap step are.0
    cells-are (leap ∷ leaps) (step ∷ steps) are (suc i) = cells-are leaps steps are.1 i

    abbrev left : (Placement → ℤ) → List ℕ → Step → Option ℤ
    left value dice step = then_value (best_over value dice) (landed (layout_at others layer) step)

    -- of at most three leaps
    pub three-best : (value : Placement → ℤ) (dice : List ℕ) (leaps : List Leap) (steps : List Step) → length leaps ≤ 3 → AreLeaps layouts leaps steps
        → over_steps (best_over value dice) (layout_at others layer) steps
        ≡ or_max (or_max (best_from value dice layouts others (nth_cell (length others) next leaps 0)) (best_from value dice layouts others (nth_cell (length others) next leaps 1)))
        (best_from value dice layouts others (nth_cell (length others) next leaps 2))
    three-best value dice [] [] short are = rw best-none refl
    three-best value dice [] (step ∷ steps) short are = absurd are
    three-best value dice (leap ∷ leaps) [] short are = absurd are
    three-best value dice (a ∷ []) (s ∷ []) short are = rw (best-none, leap-best value dice a s are.0) (one-left (left value dice s))
    three-best value dice (a ∷ []) (s ∷ t ∷ steps) short are = absurd are.1
    three-best value dice (a ∷ b ∷ leaps) (s ∷ []) short are = absurd are.1
    three-best value dice (a ∷ b ∷ []) (s ∷ t ∷ []) short are =
        rw (best-none, leap-best value dice a s are.0, leap-best value dice b t are.1.0) (two-left (left value dice s) (left value dice t))
    three-best value dice (a ∷ b ∷ []) (s ∷ t ∷ u ∷ steps) short are = absurd are.1.1
    three-best value dice (a ∷ b ∷ d ∷ leaps) (s ∷ t ∷ []) short are = absurd are.1.1
    three-best value dice (a ∷ b ∷ d ∷ []) (s ∷ t ∷ u ∷ []) short are =
        rw (leap-best value dice a s are.0, leap-best value dice b t are.1.0, leap-best value dice d u are.1.1.0)
        (three-left (left value dice s) (left value dice t) (left value dice u))
    three-best value dice (a ∷ b ∷ d ∷ []) (s ∷ t ∷ u ∷ v ∷ steps) short are = absurd are.1.1.1
    three-best value dice (a ∷ b ∷ d ∷ e ∷ leaps) (s ∷ t ∷ u ∷ steps) short are = absurd (omega (arith, short))

-- a cell with the cells after at most three leaps
pub reach-is : (layouts others : List (List ℕ)) (die cell first second third : ℕ) (next : List ℕ) (leaps : List Leap) → length layouts ≤ 3276 → IsCell (length layouts) (length others) cell
    → AreNext others (cell / 4096) next → length leaps ≤ 3 → AreLeaps layouts leaps (steps_from (layout_at layouts (cell % 4096)) die places)
    → first ≡ nth_cell (length others) next leaps 0 → second ≡ nth_cell (length others) next leaps 1 → third ≡ nth_cell (length others) next leaps 2
    → IsReach layouts others die (record { cell = cell; first = first; second = second; third = third })
unfolding best_over
reach-is layouts others die cell first second third next leaps few is nexts short are a b d =
    let steps = steps_from (layout_at layouts (cell % 4096)) die places in
    let cells = cells-are layouts others few (cell / 4096) next nexts leaps steps are in
    record {
      cell = is;
      first = subst (IsCellOrNone (length layouts) (length others)) (sym a) (cells 0);
      second = subst (IsCellOrNone (length layouts) (length others)) (sym b) (cells 1);
      third = subst (IsCellOrNone (length layouts) (length others)) (sym d) (cells 2);
      best = λ value dice. rw (a, b, d) (
          places-steps (best_over value dice) (cell_placement layouts others cell) die places
          ∙ three-best layouts others few (cell / 4096) next nexts value dice leaps steps short are);
    }
