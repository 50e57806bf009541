-- Reading the text of a live position gives the position.
use Rattle.std.proofs.Common.{◌≡◌, ◌≤◌, ◌<◌, ◌+◌, ℕ, zero, suc, Bool, true, false, not, cond, ◌&&◌, eqb, nat_eq, nat_lt, nat_le, List, [], ◌∷◌, ◌++◌, length, map, replicate, sum, slice_index, count_by, codes, Ok, refl, sym, ap, subst, ◌∙◌, inl, inr, arith}
use Rattle.std.proofs.lemmas.Bool.{cases_lt, cases_eq, ne_eqb}
use Rattle.std.proofs.lemmas.Bool.Decides.{nat_tests}
use Rattle.std.proofs.lemmas.List.{ext_get_or}
use Rattle.std.proofs.lemmas.List.Splits.{slice_split_none, slice_split_at}
use Rattle.std.proofs.lemmas.List.Sums.{sum_by-append, sum_by-cons}
use Rattle.std.specs.List.{list_all, list_any, filter_map, flat_map, range_with_len, join_with_byte, slice_split}
use Rattle.position_rank.specs.Placement.{Placement, IsPosition, IsLive}
use Rattle.position_rank.specs.Packed.{counts_of}
use Rattle.position_rank.proofs.PlaceCounts.{length-counts_of, counts_of-at, sum-counts_of}
use Rattle.position_text.specs.Text.{place, place_text, words, is_slash, have_shape, are_places, numbers_fit, share_point, all_off, read_placement, read_words, read_position, places_below, places_of, position_words, position_text, before_slash, after_slash}
use Rattle.position_text.proofs.PlaceTexts.{both-true, not-true, lacks, read-back}
use Rattle.position_text.proofs.TextPlacements.{is_shared}
use Rattle.position_text.proofs.TextLists.{Each, Each-append, Each-at}
use Rattle.position_text.proofs.TextPrint.{ArePlaces, held, places_of-places, position_words-full}
use Rattle.position_text.proofs.TextSides.{before-slash, after-slash, before-word, after-word, count-slash, count-word}

-- ---- the words of the text

spaceless : (word : List ℕ) → lacks 32 word ≡ true → Each (λ byte. eqb byte 32 ≡ false) word
spaceless [] e = tt
spaceless (byte ∷ word) e = let both = both-true (not (eqb byte 32)) (lacks 32 word) e in (not-true _ both.0, spaceless word both.1)

split-join : (word : List ℕ) (ws : List (List ℕ)) → Each (λ w. lacks 32 w ≡ true) (word ∷ ws) → slice_split (λ byte. eqb byte 32) (join_with_byte 32 (word ∷ ws)) ≡ word ∷ ws
split-join word [] h = slice_split_none (λ byte. eqb byte 32) word (Each-at (λ byte. eqb byte 32 ≡ false) word (spaceless word h.0))
split-join word (next ∷ ws) h =
    slice_split_at (λ byte. eqb byte 32) word 32 (join_with_byte 32 (next ∷ ws)) (Each-at (λ byte. eqb byte 32 ≡ false) word (spaceless word h.0)) refl
    ∙ ap (λ rest. word ∷ rest) (split-join next ws h.1)

split-joined : (ws : List (List ℕ)) → 0 < length ws → Each (λ w. lacks 32 w ≡ true) ws → slice_split (λ byte. eqb byte 32) (join_with_byte 32 ws) ≡ ws
split-joined [] some h = absurd (omega arith)
split-joined (word ∷ ws) some h = split-join word ws h

side-spaceless : (places : List ℕ) → ArePlaces places → Each (λ w. lacks 32 w ≡ true) (map place_text places)
side-spaceless [] h = tt
side-spaceless (p ∷ places) h = ((read-back p h.0).no_space, side-spaceless places h.1)

words-again : (m o : List ℕ) → ArePlaces m → ArePlaces o → words (join_with_byte 32 (map place_text m ++ codes "/" ∷ map place_text o)) ≡ map place_text m ++ codes "/" ∷ map place_text o
words-again m o hm ho =
    split-joined (map place_text m ++ codes "/" ∷ map place_text o) (some (map place_text m) (map place_text o))
    (Each-append (λ w. lacks 32 w ≡ true) (map place_text m) (codes "/" ∷ map place_text o) (side-spaceless m hm) (refl, side-spaceless o ho)) where
      some : (xs ys : List (List ℕ)) → 0 < length (xs ++ codes "/" ∷ ys)
      some [] ys = omega arith
      some (x ∷ xs) ys = omega arith

-- ---- the sides of the words

before-side : (places : List ℕ) (ws : List (List ℕ)) → ArePlaces places → before_slash (map place_text places ++ codes "/" ∷ ws) ≡ map place_text places
before-side [] ws h = before-slash (codes "/") ws refl
before-side (p ∷ places) ws h = before-word (place_text p) (map place_text places ++ codes "/" ∷ ws) (read-back p h.0).other_word ∙ ap (λ rest. place_text p ∷ rest) (before-side places ws h.1)

after-side : (places : List ℕ) (ws : List (List ℕ)) → ArePlaces places → after_slash (map place_text places ++ codes "/" ∷ ws) ≡ ws
after-side [] ws h = after-slash (codes "/") ws refl
after-side (p ∷ places) ws h = after-word (place_text p) (map place_text places ++ codes "/" ∷ ws) (read-back p h.0).other_word ∙ after-side places ws h.1

no-slash : (places : List ℕ) → ArePlaces places → count_by is_slash (map place_text places) ≡ 0
no-slash [] h = refl
no-slash (p ∷ places) h = count-word (place_text p) (map place_text places) (read-back p h.0).other_word ∙ omega (arith, no-slash places h.1)

one-slash : (m o : List ℕ) → ArePlaces m → ArePlaces o → count_by is_slash (map place_text m ++ codes "/" ∷ map place_text o) ≡ 1
one-slash [] o hm ho = count-slash (codes "/") (map place_text o) refl ∙ omega (arith, no-slash o ho)
one-slash (p ∷ m) o hm ho = count-word (place_text p) (map place_text m ++ codes "/" ∷ map place_text o) (read-back p hm.0).other_word ∙ omega (arith, one-slash m o hm.1 ho)

full-words : (ws : List (List ℕ)) → Each (λ word. 0 < length word) ws → list_all (λ word. nat_lt 0 (length word)) ws ≡ true
full-words [] h = refl
full-words (w ∷ ws) h =
    let here : nat_lt 0 (length w) ≡ true = let full : 0 < length w = h.0 in grind (arith, nat_tests) in
    rw here (full-words ws h.1)

side-places : (places : List ℕ) → ArePlaces places → are_places (map place_text places) ≡ true
side-places [] h = refl
side-places (p ∷ places) h = rw (read-back p h.0).same (side-places places h.1)

places-again : (places : List ℕ) → ArePlaces places → filter_map place (map place_text places) ≡ places
places-again [] h = refl
places-again (p ∷ places) h = rw (read-back p h.0).same (ap (λ rest. p ∷ rest) (places-again places h.1))

-- ---- the counts of the places

count-held : (n p i : ℕ) → count_by (λ q. eqb q i) (replicate n p) ≡ cond (eqb p i) n 0
count-held zero p i = nothing (eqb p i) where
  nothing : (b : Bool) → ◌≡◌ {A = ℕ} 0 (cond b 0 0)
  nothing true = refl
  nothing false = refl
count-held (suc n) p i =
    let more = sum_by-cons (λ q. cond (eqb q i) 1 0) p (replicate n p) in
    let rest = count-held n p i in
    grind (arith, more, rest)

count-step : (counts : List ℕ) (n i : ℕ) → cond (eqb n i) (slice_index counts n) 0 + cond (nat_lt i n) (slice_index counts i) 0 ≡ cond (nat_lt i (suc n)) (slice_index counts i) 0
count-step counts n i = elim (cases_eq n i) [
  | inl e ↦ subst (λ k. cond (eqb n k) (slice_index counts n) 0 + cond (nat_lt k n) (slice_index counts k) 0 ≡ cond (nat_lt k (suc n)) (slice_index counts k) 0) e (grind (arith, nat_tests))
  | inr d ↦ grind (arith, nat_tests)
]

count-below : (counts : List ℕ) (n i : ℕ) → count_by (λ q. eqb q i) (flat_map (held counts) (places_below n)) ≡ cond (nat_lt i n) (slice_index counts i) 0
count-below counts zero i = grind (arith, nat_tests)
count-below counts (suc n) i =
    let parts = sum_by-append (λ q. cond (eqb q i) 1 0) (held counts n) (flat_map (held counts) (places_below n)) in
    let here = count-held (slice_index counts n) n i in
    let rest = count-below counts n i in
    omega (arith, parts, here, rest, count-step counts n i)

counts-again : (counts : List ℕ) → length counts ≡ 26 → counts_of (places_of counts) ≡ counts
unfolding places_of
counts-again counts h =
    ext_get_or 0 _ _ (length-counts_of (places_of counts) ∙ sym h)
    (λ i low.
    let within : i ≤ 25 = omega (arith, length-counts_of (places_of counts)) in
    let inside : nat_lt i 26 ≡ true = grind (arith, nat_tests) in
    counts_of-at (places_of counts) i within ∙ (count-below counts 26 i ∙ ap (λ b. cond b (slice_index counts i) 0) inside))

length-places : (counts : List ℕ) → length counts ≡ 26 → length (places_of counts) ≡ sum counts
length-places counts h = sym (sum-counts_of (places_of counts) (Each-at (λ p. p ≤ 25) (places_of counts) (places_of-places counts))) ∙ ap sum (counts-again counts h)

-- ---- the placement

none-passes : (test : ℕ → Bool) (a n : ℕ) → ((i : ℕ) → a ≤ i → i < a + n → test i ≡ false) → list_any test (range_with_len a n) ≡ false
none-passes test a zero h = refl
none-passes test a (suc n) h = rw (h a (omega arith) (omega arith)) (none-passes test (a + 1) n (λ i low high. h i (omega arith) (omega arith)))

away : (a b : ℕ) → (0 < a → b ≡ 0) → (nat_lt 0 a && nat_lt 0 b) ≡ false
away a b h = elim (cases_lt 0 a) [
  | inl some ↦ (let none : b ≡ 0 = h some in grind (arith, nat_tests))
  | inr none ↦ grind (arith, nat_tests)
]

placement-again : (p : Placement) → IsLive p → read_placement p ≡ Ok p
unfolding share_point
placement-again p live =
    let apart : list_any (is_shared p) (range_with_len 1 24) ≡ false = none-passes (is_shared p) 1 24 (λ i low high. away _ _ (live.apart i low (omega arith))) in
    let mover : all_off p.mover ≡ false = ne_eqb _ _ live.mover in
    let other : all_off p.other ≡ false = ne_eqb _ _ live.other in
    rw (apart, mover, other) refl

shape-again : (ws : List (List ℕ)) → Each (λ word. 0 < length word) ws → count_by is_slash ws ≡ 1 → have_shape ws ≡ true
shape-again ws full one = rw (full-words ws full, one) refl

read-again : (m o : List ℕ) → ArePlaces m → ArePlaces o → have_shape (map place_text m ++ codes "/" ∷ map place_text o) ≡ true → numbers_fit m o ≡ true → read_words (map place_text m ++ codes "/" ∷ map place_text o) ≡ read_placement (record { mover = counts_of m; other = counts_of o })
read-again m o hm ho shape fit =
    rw (shape, before-side m (map place_text o) hm, after-side m (map place_text o) hm)
    (rw (side-places m hm, side-places o ho) (rw (places-again m hm, places-again o ho) (rw fit refl)))

pub read-printed : (p : Placement) → IsPosition p → IsLive p → read_position (position_text p) ≡ Ok p
read-printed p position live =
    let m = places_of p.mover in
    let o = places_of p.other in
    let hm = places_of-places p.mover in
    let ho = places_of-places p.other in
    let long_m : length m ≡ sum p.mover = length-places p.mover position.mover.places in
    let long_o : length o ≡ sum p.other = length-places p.other position.other.places in
    let fit : numbers_fit m o ≡ true = fits (length m) (length o) (omega (arith, long_m, long_o, position.same)) (omega (arith, long_m, position.mover.at_least_one)) (omega (arith, long_m, position.mover.at_most_three)) in
    ap read_words (words-again m o hm ho)
    ∙ (read-again m o hm ho (shape-again (position_words p) (position_words-full p) (one-slash m o hm ho)) fit
    ∙ rw (counts-again p.mover position.mover.places, counts-again p.other position.other.places) (placement-again p live)) where
      fits : (a b : ℕ) → a ≡ b → 1 ≤ a → a ≤ 3 → (nat_eq a b && nat_le 1 a && nat_le a 3) ≡ true
      fits a b same low high = grind (arith, nat_tests)
