-- Listings.
use Rattle.std.proofs.Common.{◌≡◌, ◌≢◌, ◌≤◌, ◌<◌, ◌+◌, ◌∙◌, ◌++◌, ◌||◌, ◌⊎◌, inl, inr, ℕ, zero, suc, Bool, true, false, eqb, get_or, set, length-set, get_or-set_same, get_or-set_other, List, [], ◌∷◌, length, length-append, take, replicate, refl, ap, sym, subst, arith}
use Rattle.std.specs.List.{list_any}
use Rattle.std.proofs.lemmas.Bool.{cases_lt, cases_eq}
use Rattle.std.proofs.lemmas.Bool.Decides.{nat_tests}
use Rattle.std.proofs.lemmas.List.{get_or_append_left, get_or-append-add, get_or-take, get_or-replicate, length-take, length-replicate}
use Rattle.std.proofs.lemmas.Map.Steps.{length-le_from_distinct_below}
use Rattle.std.proofs.lemmas.Map.Keys.{IsDistinct-from_apart}
use Rattle.column_sums.specs.Cells.{IsCell, IsCellOrNone}
use Rattle.column_sums.specs.declared.cells.Reach.{Reach}
use Rattle.column_sums.specs.Listings.{IsListed, IsListing, AreListedStill, AreCells, IsListedOrNone, LeadsInto, AreUnmarked}

any-below : (xs : List ℕ) (n q : ℕ) → ((i : ℕ) → i < length xs → get_or xs i 0 < n) → list_any (eqb q) xs ≡ true → q < n
any-below [] n q within e = absurd (grind arith)
any-below (x ∷ xs) n q within e = by_test (any-below xs n q (λ i h. within (suc i) (omega (arith, h)))) (eqb q x) refl e where
  by_test : (list_any (eqb q) xs ≡ true → q < n) → (b : Bool) → eqb q x ≡ b → (b || list_any (eqb q) xs) ≡ true → q < n
  by_test later true here e = let first : x < n = within 0 (omega arith) in let same : q ≡ x = grind (arith, nat_tests) in omega (arith, first, same)
  by_test later false here e = later e

any_default : (xs : List ℕ) (i d : ℕ) → i < length xs → get_or xs i d ≡ get_or xs i 0
any_default [] i d h = absurd (omega arith)
any_default (x ∷ xs) zero d h = refl
any_default (x ∷ xs) (suc i) d h = any_default xs i d (omega (arith, h))

-- numbers below n, each once, are at most n
pub few-apart : (xs : List ℕ) (n : ℕ) → ((i : ℕ) → i < length xs → get_or xs i 0 < n) → ((i j : ℕ) → i < j → j < length xs → get_or xs i 0 ≢ get_or xs j 0) → length xs ≤ n
few-apart xs n within apart = length-le_from_distinct_below xs n
    (IsDistinct-from_apart eqb xs (λ i j d h k. let ne : get_or xs i 0 ≢ get_or xs j 0 = apart i j h k in
    let a = any_default xs i d (omega (arith, h, k)) in let b = any_default xs j d k in
    let ne' : get_or xs i d ≢ get_or xs j d = λ e. ne (sym a ∙ (e ∙ b)) in grind (arith, nat_tests)))
    (λ q e. any-below xs n q within e)

pub at-last : (cells : List ℕ) (cell : ℕ) → get_or (cells ++ cell ∷ []) (length cells) 0 ≡ cell
at-last cells cell = let at : length cells + 0 ≡ length cells = omega arith in subst (λ (n : ℕ). get_or (cells ++ cell ∷ []) n 0 ≡ cell) at (get_or-append-add cells (cell ∷ []) 0 0)

pub longer-by : (cells : List ℕ) (cell : ℕ) → length (cells ++ cell ∷ []) ≡ length cells + 1
longer-by cells cell = length-append cells (cell ∷ [])

-- a mark that was read with another default
pub any_mark : (marks : List Bool) (i cell : ℕ) (d : Bool) → i ≡ cell → get_or marks i d ≡ false → get_or marks cell false ≡ false
any_mark marks i cell d same e = subst (λ (n : ℕ). get_or marks n false ≡ false) same (unread marks i d e) where
  unread : (xs : List Bool) (i : ℕ) (d : Bool) → get_or xs i d ≡ false → get_or xs i false ≡ false
  unread [] i d e = refl
  unread (x ∷ xs) zero d e = e
  unread (x ∷ xs) (suc i) d e = unread xs i d e

module _ (cells : List ℕ) (places : ℕ) (marks : List Bool) (listing : IsListing cells places marks) where
  pub few-cells : length cells ≤ 32768
  few-cells = few-apart cells 32768 listing.within listing.apart

  module _ (cell : ℕ) (within : cell < 32768) (free : get_or marks cell false ≡ false) where
    -- a cell that isn't marked isn't listed
    new : (i : ℕ) → i < length cells → get_or cells i 0 ≢ cell
    new i h same = let marked = listing.marked i h in let m : get_or marks cell false ≡ true = subst (λ (c : ℕ). get_or marks c false ≡ true) same marked in absurd (grind arith)

    at-end : get_or (cells ++ cell ∷ []) (length cells) 0 ≡ cell
    at-end = at-last cells cell

    before : (i : ℕ) → i < length cells → get_or (cells ++ cell ∷ []) i 0 ≡ get_or cells i 0
    before i h = get_or_append_left cells (cell ∷ []) 0 i h

    longer : length (cells ++ cell ∷ []) ≡ length cells + 1
    longer = length-append cells (cell ∷ [])

    each : (P : ℕ → Type 0) → ((i : ℕ) → i < length cells → P (get_or cells i 0)) → P cell → (i : ℕ) → i < length (cells ++ cell ∷ []) → P (get_or (cells ++ cell ∷ []) i 0)
    each P was is i h = elim (cases_lt i (length cells)) [
      | inl here ↦ subst P (sym (before i here)) (was i here)
      | inr last ↦ (let same : length cells ≡ i = omega (arith, last, h, longer) in subst (λ (n : ℕ). P (get_or (cells ++ cell ∷ []) n 0)) same (subst P (sym at-end) is))
    ]

    pub apart-push : (i j : ℕ) → i < j → j < length (cells ++ cell ∷ []) → get_or (cells ++ cell ∷ []) i 0 ≢ get_or (cells ++ cell ∷ []) j 0
    apart-push i j h k = elim (cases_lt j (length cells)) [
      | inl below ↦ (let below' : i < length cells = omega (arith, h, below) in λ same. listing.apart i j h below (sym (before i below') ∙ (same ∙ before j below)))
      | inr last ↦ (
          let at : length cells ≡ j = omega (arith, last, k, longer) in
          let here : i < length cells = omega (arith, h, at) in
          λ same. new i here (sym (before i here) ∙ (same ∙ (ap (λ (n : ℕ). get_or (cells ++ cell ∷ []) n 0) (sym at) ∙ at-end))))
    ]

    pub room-push : length cells < 32768
    room-push =
        let all = few-apart (cells ++ cell ∷ []) 32768 (each (λ (c : ℕ). c < 32768) listing.within within) apart-push in
        omega (arith, all, longer)

    pub listing-push : IsListing (cells ++ cell ∷ []) places (set marks cell true)
    listing-push = record {
      room = listing.room;
      many = length-set marks cell true ∙ listing.many;
      within = each (λ (c : ℕ). c < 32768) listing.within within;
      marked = each (λ (c : ℕ). get_or (set marks cell true) c false ≡ true)
          (λ i h. get_or-set_other marks cell (get_or cells i 0) true false (new i h) ∙ listing.marked i h)
          (get_or-set_same marks cell true false (omega (arith, listing.many, within)));
      listed = λ c h m. elim (cases_eq c cell) [
        | inl same ↦ (length cells, omega (arith, longer), at-end ∙ sym same)
        | inr other ↦ (
            let was = listing.listed c h (sym (get_or-set_other marks cell c true false other) ∙ m) in
            (was.0, omega (arith, was.1, longer), before was.0 was.1 ∙ was.2))
      ];
      apart = apart-push;
    }

pub listing-none : (places : ℕ) → 32768 ≤ places → IsListing [] places (replicate 32768 false)
listing-none places room = record {
  room = room;
  many = length-replicate 32768 false;
  within = λ i h. absurd (omega (arith, h));
  marked = λ i h. absurd (omega (arith, h));
  listed = λ c h m. absurd (let is : get_or (replicate 32768 false) c false ≡ false = get_or-replicate 32768 c false false h in grind arith);
  apart = λ i j h k. absurd (omega (arith, k));
}

-- one mark less
pub unmark-more : (cells : List ℕ) (from i : ℕ) (old now : List Bool) → AreUnmarked cells from i old now → get_or cells i 0 < length now → from ≤ i → AreUnmarked cells from (i + 1) old (set now (get_or cells i 0) false)
unmark-more cells from i old now un h low = record {
  many = length-set now (get_or cells i 0) false ∙ un.many;
  gone = λ j a b. elim (cases_eq (get_or cells j 0) (get_or cells i 0)) [
    | inl same ↦ subst (λ (c : ℕ). get_or (set now (get_or cells i 0) false) c false ≡ false) (sym same) (get_or-set_same now (get_or cells i 0) false false h)
    | inr other ↦ (
        let before : j < i = elim (cases_eq j i) [ inl e ↦ absurd (other (ap (λ (n : ℕ). get_or cells n 0) e)) | inr e ↦ omega (arith, e, b) ] in
        get_or-set_other now (get_or cells i 0) (get_or cells j 0) false false other ∙ un.gone j a before)
  ];
  kept = λ c none. (
      let here : c ≢ get_or cells i 0 = λ e. none i low (omega arith) (sym e) in
      get_or-set_other now (get_or cells i 0) c false false here ∙ un.kept c (λ j a b. none j a (omega (arith, b))));
  only = λ c m. elim (cases_eq c (get_or cells i 0)) [
    | inl same ↦ absurd (let g : get_or (set now (get_or cells i 0) false) c false ≡ false = subst (λ (x : ℕ). get_or (set now (get_or cells i 0) false) x false ≡ false) (sym same) (get_or-set_same now (get_or cells i 0) false false h) in grind arith)
    | inr other ↦ un.only c (sym (get_or-set_other now (get_or cells i 0) c false false other) ∙ m)
  ];
}

pub kept-same : (cells : List ℕ) → AreListedStill cells cells
kept-same cells = record { longer = omega arith; same = λ i h. refl }

pub kept-again : (old now new : List ℕ) → AreListedStill old now → AreListedStill now new → AreListedStill old new
kept-again old now new a b = record { longer = omega (arith, a.longer, b.longer); same = λ i h. b.same i (omega (arith, h, a.longer)) ∙ a.same i h }

pub listed-kept : (old new : List ℕ) (cell : ℕ) → AreListedStill old new → IsListedOrNone old cell → IsListedOrNone new cell
listed-kept old new cell kept (inl none) = inl none
listed-kept old new cell kept (inr (i, h, is)) = inr (i, omega (arith, h, kept.longer), kept.same i h ∙ is)

pub into-kept : (old new : List ℕ) (reach : Reach) → AreListedStill old new → LeadsInto old reach → LeadsInto new reach
into-kept old new reach kept into = record {
  first = listed-kept old new reach.first kept into.first;
  second = listed-kept old new reach.second kept into.second;
  third = listed-kept old new reach.third kept into.third;
}

pub cell-short : (cell : ℕ) → IsCellOrNone 4095 8 cell → cell < 32768
cell-short cell (inl none) = omega (arith, none)
cell-short cell (inr is) = omega (arith, is.layer)

pub any-reach : (xs : List Reach) (i : ℕ) (d e : Reach) → i < length xs → get_or xs i d ≡ get_or xs i e
any-reach [] i d e h = absurd (omega (arith, h))
any-reach (x ∷ xs) zero d e h = refl
any-reach (x ∷ xs) (suc i) d e h = any-reach xs i d e (omega (arith, h))

pub into-at : (reaches : List Reach) (i : ℕ) (d none : Reach) (cells : List ℕ) → i < length reaches
    → IsListedOrNone cells (get_or reaches i d).first → IsListedOrNone cells (get_or reaches i d).second → IsListedOrNone cells (get_or reaches i d).third → LeadsInto cells (get_or reaches i none)
into-at reaches i d none cells h a b c = subst (LeadsInto cells) (any-reach reaches i d none h) (record { first = a; second = b; third = c })

pub listed-again : (old new : List ℕ) (cell : ℕ) → AreListedStill old new → IsListed old cell → IsListed new cell
listed-again old new cell kept (i, h, is) = (i, omega (arith, h, kept.longer), kept.same i h ∙ is)

pub listed-some : (cells : List ℕ) (cell : ℕ) → cell < 4095 → IsListedOrNone cells cell → IsListed cells cell
listed-some cells cell low (inl none) = absurd (omega (arith, low, none))
listed-some cells cell low (inr is) = is

pub rank-cell : (many rank : ℕ) → many ≤ 4095 → rank < many → IsCell many 1 rank
rank-cell many rank few h = record { rank = omega (arith, few, h); layer = omega (arith, few, h) }

pub cell-rank : (many layers rank : ℕ) → IsCell many 1 rank → rank < many
cell-rank many layers rank is = omega (arith, is.rank, is.layer)

pub cells-more : (many layers : ℕ) (cells : List ℕ) → 1 ≤ layers → AreCells many 1 cells → AreCells many layers cells
cells-more many layers cells some are i h = let is = are i h in record { rank = is.rank; layer = omega (arith, is.layer, some) }

-- the first few of some numbers, each once and below a bound, are no more than the bound
pub few-first : (cells : List ℕ) (count many : ℕ) → count ≤ length cells → ((i : ℕ) → i < count → get_or cells i 0 < many) → ((i j : ℕ) → i < j → j < length cells → get_or cells i 0 ≢ get_or cells j 0)
    → length (take count cells) ≤ many
few-first cells count many within low apart =
    let short = length-take count cells in
    few-apart (take count cells) many
    (λ i h. let here : i < count = omega (arith, h, short) in subst (λ (c : ℕ). c < many) (sym (get_or-take count cells i 0 here)) (low i here))
    (λ i j h k same.
    let below : j < count = omega (arith, k, short) in
    let before : i < count = omega (arith, h, below) in
    apart i j h (omega (arith, below, within)) (sym (get_or-take count cells i 0 before) ∙ (same ∙ get_or-take count cells j 0 below)))

-- each cell of a longer list is one of the shorter, or the last
pub only-more : (cells : List ℕ) (cell i : ℕ) → i < length (cells ++ cell ∷ []) → IsListed cells (get_or (cells ++ cell ∷ []) i 0) ⊎ (get_or (cells ++ cell ∷ []) i 0 ≡ cell)
only-more cells cell i h = elim (cases_lt i (length cells)) [
  | inl before ↦ inl (i, before, sym (get_or_append_left cells (cell ∷ []) 0 i before))
  | inr from ↦ (let last : length cells ≡ i = omega (arith, h, from, longer-by cells cell) in inr (subst (λ (n : ℕ). get_or (cells ++ cell ∷ []) n 0 ≡ cell) last (at-last cells cell)))
]
