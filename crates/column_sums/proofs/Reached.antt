-- Lists of what a die leads to.
use Rattle.std.proofs.Common.{◌≡◌, ◌≤◌, ◌<◌, ◌+◌, ◌-◌, ◌∙◌, ◌++◌, All, drop, take, inl, inr, ℕ, suc, get_or, List, [], ◌∷◌, length, length-append, refl, ap, sym, subst, arith}
use Rattle.std.proofs.lemmas.Bool.{cases_lt}
use Rattle.std.proofs.lemmas.List.{get_or_append_left, get_or-append-add, get_or-drop, length-drop, take_all}
use Rattle.std.proofs.lemmas.List.Elements.{All-take, All-drop}
use Rattle.column_sums.specs.declared.cells.Reach.{Reach}
use Rattle.column_sums.specs.Cells.{IsReach, IsCellOrNone}
use Rattle.column_sums.specs.Listings.{AreListedStill, LeadsInto, LeadsToCells, IsListedOrNone}
use Rattle.column_sums.specs.declared.moves.DieList.{DieList}
use Rattle.column_sums.proofs.Listed.{kept-same, kept-again, into-kept}
use Rattle.column_sums.specs.MoveLists.{AreReaches, AreDieLists, IsAmongOrNone, IsEmpty, LeadsAmong, LeadToTwo, IsDieList}

module _ (reaches : List Reach) (reach : Reach) where
  pub push-each : (P : ℕ → Reach → Type 0) → ((i : ℕ) (none : Reach) → i < length reaches → P i (get_or reaches i none)) → P (length reaches) reach
      → (i : ℕ) (none : Reach) → i < length (reaches ++ reach ∷ []) → P i (get_or (reaches ++ reach ∷ []) i none)
  push-each P was is i none h = elim (cases_lt i (length reaches)) [
    | inl here ↦ subst (P i) (sym (get_or_append_left reaches (reach ∷ []) none i here)) (was i none here)
    | inr last ↦ (
        let same : length reaches ≡ i = omega (arith, last, h, length-append reaches (reach ∷ [])) in
        let at : length reaches + 0 ≡ i = omega (arith, same) in
        let there = subst (λ (n : ℕ). get_or (reaches ++ reach ∷ []) n none ≡ reach) at (get_or-append-add reaches (reach ∷ []) 0 none) in
        subst (P i) (sym there) (subst (λ (n : ℕ). P n reach) same is))
  ]

pub reaches-push : (layouts others : List (List ℕ)) (die : ℕ) (cells : List ℕ) (reaches : List Reach) (reach : Reach) → AreReaches layouts others die cells reaches → length reaches < length cells
    → IsReach layouts others die reach → reach.cell ≡ get_or cells (length reaches) 0 → AreReaches layouts others die cells (reaches ++ reach ∷ [])
reaches-push layouts others die cells reaches reach are h is cell = record {
  few = omega (arith, h, length-append reaches (reach ∷ []));
  each = push-each reaches reach (λ i r. IsReach layouts others die r) are.each is;
  at = push-each reaches reach (λ i r. r.cell ≡ get_or cells i 0) are.at cell;
}

-- more cells
pub reaches-kept : (layouts others : List (List ℕ)) (die : ℕ) (old new : List ℕ) (reaches : List Reach) → AreListedStill old new → AreReaches layouts others die old reaches → AreReaches layouts others die new reaches
reaches-kept layouts others die old new reaches kept are = record {
  few = omega (arith, are.few, kept.longer);
  each = are.each;
  at = λ i none h. are.at i none h ∙ sym (kept.same i (omega (arith, h, are.few)));
}

pub leads-cells : (layouts others : List (List ℕ)) (die : ℕ) (cells : List ℕ) (reaches : List Reach) → AreReaches layouts others die cells reaches → All (LeadsToCells (length layouts) (length others)) reaches
leads-cells layouts others die cells reaches are i none h = let is = are.each i none h in record { first = is.first; second = is.second; third = is.third }

-- the first cells stay
pub take-kept : (old new : List ℕ) → AreListedStill old new → take (length old) new ≡ old
take-kept [] new kept = refl
take-kept (x ∷ old) [] kept = absurd (omega (arith, kept.longer))
take-kept (x ∷ old) (y ∷ new) kept =
    let first : y ≡ x = kept.same 0 (omega arith) in
    let rest = take-kept old new (record { longer = omega (arith, kept.longer); same = λ i h. kept.same (suc i) (omega (arith, h)) }) in
    ap (λ (z : ℕ). z ∷ take (length old) new) first ∙ ap (λ (zs : List ℕ). x ∷ zs) rest

-- ---- the list of a die

module _ (layouts others : List (List ℕ)) (die : ℕ) (cells last : List ℕ) (reaches : List Reach) (kept : AreListedStill cells last) (are : AreReaches layouts others die last reaches) (all : length reaches ≡ length last) where
  among : (cell : ℕ) → IsListedOrNone cells cell → IsAmongOrNone reaches (length cells) cell
  among cell (inl none) = inl none
  among cell (inr (i, h, is)) = inr (i, h, λ none. are.at i none (omega (arith, h, all, kept.longer)) ∙ (kept.same i h ∙ is))

  pub leads-among : (reach : Reach) → LeadsInto cells reach → LeadsAmong reaches (length cells) reach
  leads-among reach into = record { first = among reach.first into.first; second = among reach.second into.second; third = among reach.third into.third }

-- a list from a place on to its end, as a slice has it
pub rest-of : (n : ℕ) (reaches : List Reach) → take (length reaches - n) (drop n reaches) ≡ drop n reaches
rest-of n reaches = take_all (length reaches - n) (drop n reaches) (omega (arith, length-drop n reaches))

pub rest-all : (P : Reach → Type 0) (n : ℕ) (reaches : List Reach) → All P reaches → All P (take (length reaches - n) (drop n reaches))
rest-all P n reaches all = All-take P (length reaches - n) (drop n reaches) (All-drop P n reaches all)

-- what a longer list leads to is listed, where it is of the first few and of those after them
pub into-longer : (old new : List ℕ) (n : ℕ) (r0 r1 : List Reach) → AreListedStill old new → n ≡ length r0
    → ((i : ℕ) (none : Reach) → i < length r0 → get_or r1 i none ≡ get_or r0 i none) → All (LeadsInto old) r0 → All (LeadsInto new) (drop n r1) → All (LeadsInto new) r1
into-longer old new n r0 r1 kept is same before after i none h = elim (cases_lt i n) [
  | inl earlier ↦ (
      let here : i < length r0 = omega (arith, earlier, is) in
      subst (LeadsInto new) (sym (same i none here)) (into-kept old new (get_or r0 i none) kept (before i none here)))
  | inr from ↦ (
      let at : n + (i - n) ≡ i = omega (arith, from) in
      let inside : i - n < length (drop n r1) = omega (arith, from, h, length-drop n r1) in
      subst (λ (k : ℕ). LeadsInto new (get_or r1 k none)) at (subst (LeadsInto new) (get_or-drop n r1 (i - n) none) (after (i - n) none inside)))
]

pub die-list : (layouts others : List (List ℕ)) (near one two : List ℕ) (die : ℕ) (r0 r1 r2 : List Reach) (list : DieList)
    → AreListedStill near one → AreListedStill one two → length r0 ≤ length near → All (LeadsInto near) r0
    → length r1 ≡ length near → ((i : ℕ) (none : Reach) → i < length r0 → get_or r1 i none ≡ get_or r0 i none) → All (LeadsInto one) r1
    → length r2 ≡ length one → ((i : ℕ) (none : Reach) → i < length r1 → get_or r2 i none ≡ get_or r1 i none) → All (LeadsInto two) r2
    → AreReaches layouts others die two list.reaches.items → length list.reaches.items ≡ length two → ((i : ℕ) (none : Reach) → i < length r2 → get_or list.reaches.items i none ≡ get_or r2 i none)
    → length two ≤ 32768 → list.second ≡ length one → IsDieList layouts others near (length r0) die list
die-list layouts others near one two die r0 r1 r2 list k1 k2 few into0 n1 s1 into1 n2 s2 into2 are n3 s3 short second = record {
  first = few;
  longer = omega (arith, k1.longer, second);
  second = omega (arith, k2.longer, second, n3);
  few = omega (arith, n3, short);
  each = λ i none h. are.each i none h;
  at = λ i none h. are.at i none (omega (arith, h, n3, k1.longer, k2.longer)) ∙ (k2.same i (omega (arith, h, k1.longer)) ∙ k1.same i h);
  one_die = λ i none h. subst (LeadsAmong list.reaches.items (length near)) (sym (from0 i none h)) (leads-among layouts others die near two list.reaches.items (kept-again near one two k1 k2) are n3 (get_or r0 i none) (into0 i none h));
  two_dice = λ i none h. subst (λ (n : ℕ). LeadsAmong list.reaches.items n (get_or list.reaches.items i none)) (sym second)
      (subst (LeadsAmong list.reaches.items (length one)) (sym (from1 i none (omega (arith, h, n1)))) (leads-among layouts others die one two list.reaches.items k2 are n3 (get_or r1 i none) (into1 i none (omega (arith, h, n1)))));
  three_dice = λ i none h. subst (λ (n : ℕ). LeadsAmong list.reaches.items n (get_or list.reaches.items i none)) (sym n3)
      (subst (LeadsAmong list.reaches.items (length two)) (sym (s3 i none (omega (arith, h, n2, second)))) (leads-among layouts others die two two list.reaches.items (kept-same two) are n3 (get_or r2 i none) (into2 i none (omega (arith, h, n2, second)))));
} where
  from1 : (i : ℕ) (none : Reach) → i < length r1 → get_or list.reaches.items i none ≡ get_or r1 i none
  from1 i none h = s3 i none (omega (arith, h, n1, n2, k1.longer)) ∙ s2 i none h

  from0 : (i : ℕ) (none : Reach) → i < length r0 → get_or list.reaches.items i none ≡ get_or r0 i none
  from0 i none h = from1 i none (omega (arith, h, n1, few)) ∙ s1 i none h

pub by-die : (P : ℕ → DieList → Type 0) (lists : List DieList) → ((die : ℕ) (none : DieList) → 1 ≤ die → die ≤ 6 → P die (get_or lists (die - 1) none)) → (i : ℕ) (none : DieList) → i < 6 → P (i + 1) (get_or lists i none)
by-die P lists all i none h = let at : i + 1 - 1 ≡ i = omega arith in subst (λ (n : ℕ). P (i + 1) (get_or lists n none)) at (all (i + 1) none (omega arith) (omega (arith, h)))

cell_or_none-room : (many layers cell : ℕ) → many ≤ 3276 → layers ≤ 8 → IsCellOrNone many layers cell → IsCellOrNone 4095 8 cell
cell_or_none-room many layers cell few eight (inl none) = inl none
cell_or_none-room many layers cell few eight (inr is) = inr (record { rank = omega (arith, is.rank, few); layer = omega (arith, is.layer, eight) })

pub leads-room : (many layers : ℕ) (reach : Reach) → many ≤ 3276 → layers ≤ 8 → LeadsToCells many layers reach → LeadsToCells 4095 8 reach
leads-room many layers reach few eight leads = record {
  first = cell_or_none-room many layers reach.first few eight leads.first;
  second = cell_or_none-room many layers reach.second few eight leads.second;
  third = cell_or_none-room many layers reach.third few eight leads.third;
}

-- ---- where nothing is listed

nothing : (reaches : List Reach) (i : ℕ) → reaches ≡ [] → i < length reaches → ⊥
nothing reaches i none h = omega (arith, subst (λ (rs : List Reach). i < length rs) none h)

empty-list : (layouts others : List (List ℕ)) (die : ℕ) (list : DieList) → IsEmpty list → IsDieList layouts others [] 0 die list
empty-list layouts others die list is = record {
  first = omega arith;
  longer = omega arith;
  second = omega (arith, is.second);
  few = rw is.reaches (omega arith);
  each = λ i none h. absurd (nothing list.reaches.items i is.reaches h);
  at = λ i none h. absurd (omega (arith, h));
  one_die = λ i none h. absurd (omega (arith, h));
  two_dice = λ i none h. absurd (omega (arith, h));
  three_dice = λ i none h. absurd (omega (arith, h, is.second));
}

pub empty-lists : (layouts others : List (List ℕ)) (lists : List DieList) → length lists ≡ 6 → All IsEmpty lists → AreDieLists layouts others [] 0 lists
empty-lists layouts others lists six empty die none a b = empty-list layouts others die (get_or lists (die - 1) none) (empty (die - 1) none (omega (arith, a, b, six)))

pub empty-two : (lists : List DieList) → length lists ≡ 6 → All IsEmpty lists → LeadToTwo lists
empty-two lists six empty i none h k d below = absurd (nothing (get_or lists i none).reaches.items k (empty i none (omega (arith, h, six))).reaches below)
