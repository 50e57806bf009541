-- Pairs and their words.
use Rattle.std.proofs.Common.{◌≡◌, ◌≤◌, ◌<◌, ◌∙◌, ℕ, zero, suc, ◌+◌, ◌*◌, ◌^◌, ℤ, pos, neg_ℤ, ◌+ℤ◌, ◌≤ℤ◌, List, [], ◌∷◌, ◌++◌, drop, length, slice_index_or, get_or, refl, sym, ap, arith, append_assoc, append-nil, length-drop}
use Rattle.std.proofs.lemmas.Int.{ints}
use Rattle.directed_fixed.specs.Bounds.{Bounds, IsWithin, IsWithinUnits}
use Rattle.cube_actions.specs.Stakes.{point_units}
use Rattle.word_pages.specs.declared.version.Version.{Version}
use Rattle.word_pages.specs.declared.version.Version.TheVariants.{One, Two, Three}
use Rattle.word_pages.specs.Flaws.{unpacked}
use Rattle.word_pages.specs.Words.{Fits, word_size}
use Rattle.word_pages.proofs.Pairs.{drop_pair}
use Rattle.base_head.specs.Fronts.{pairs_of_words, words_of_pairs}
use Rattle.base_head.specs.Headers.{pair_size}

pub units-within : (value : ℤ) (pair : Bounds) → IsWithin (point_units 1) pair → pair.lower ≤ℤ value → value ≤ℤ pair.upper → IsWithinUnits (pos (2 ^ 56)) value
units-within value pair within low high = record { from = later _ _ _ (later _ _ _ most within.from) low; to = later _ _ _ high (later _ _ _ within.to least) }
  where
    later : (a b c : ℤ) → a ≤ℤ b → b ≤ℤ c → a ≤ℤ c
    later a b c h k = omega (arith, ints)

    most : neg_ℤ (pos (2 ^ 56)) ≤ℤ neg_ℤ (point_units 1)
    most = record { le = tt }

    least : point_units 1 ≤ℤ pos (2 ^ 56)
    least = record { le = tt }

pub lower-units : (pair : Bounds) → IsWithin (point_units 1) pair → IsWithinUnits (pos (2 ^ 56)) pair.lower
lower-units pair within = units-within pair.lower pair within (omega (arith, ints)) within.in_order

pub upper-units : (pair : Bounds) → IsWithin (point_units 1) pair → IsWithinUnits (pos (2 ^ 56)) pair.upper
upper-units pair within = units-within pair.upper pair within within.in_order (omega (arith, ints))

low-value : (value : ℤ) (word : ℕ) → value ≤ℤ point_units 1 → pos word ≡ value +ℤ pos 68719476736 → word < 1099511627776
low-value value word low is = grind arith

pub low-lower : (pair : Bounds) (value : ℤ) (word : ℕ) → IsWithin (point_units 1) pair → value ≡ pair.lower → pos word ≡ value +ℤ pos 68719476736 → word < 1099511627776
low-lower pair value word within same is = low-value value word (rw same (later _ _ _ within.in_order within.to)) is
  where
    later : (a b c : ℤ) → a ≤ℤ b → b ≤ℤ c → a ≤ℤ c
    later a b c h k = omega (arith, ints)

pub low-upper : (pair : Bounds) (value : ℤ) (word : ℕ) → IsWithin (point_units 1) pair → value ≡ pair.upper → pos word ≡ value +ℤ pos 68719476736 → word < 1099511627776
low-upper pair value word within same is = low-value value word (rw same within.to) is

fits-version : (version : Version) (word : ℕ) → word < 1099511627776 → Fits version word
fits-version One word low = omega (arith, low)
fits-version Two word low = omega (arith, low)
fits-version Three word low = omega (arith, low)

pub fit-pair : (version : Version) (a b : ℕ) → a < 1099511627776 → b < 1099511627776 → (k d : ℕ) → k < 2 → Fits version (slice_index_or (a ∷ b ∷ []) k d)
fit-pair version a b first then zero d lt = fits-version version a first
fit-pair version a b first then (suc zero) d lt = fits-version version b then
fit-pair version a b first then (suc (suc k)) d lt = absurd (omega (arith, lt))

pub length-words : (pairs : List Bounds) → length (words_of_pairs pairs) ≡ 2 * length pairs
length-words [] = refl
length-words (pair ∷ pairs) = let rest = length-words pairs in omega (arith, rest)

pub room-for : (version : Version) (i n out len most : ℕ) → i < n → out + pair_size version * n ≤ most → len ≡ out + word_size version * (2 * i) → len + word_size version * 2 ≤ most
room-for One i n out len most lt room is = omega (arith, lt, room, is)
room-for Two i n out len most lt room is = omega (arith, lt, room, is)
room-for Three i n out len most lt room is = omega (arith, lt, room, is)

-- a pair is taken from the words that are left
pub next-pair : (pairs : List Bounds) (pair : Bounds) (i : ℕ) (words : List ℕ) → 2 * i + 1 < length words
    → pair ≡ record { lower = unpacked (get_or words (2 * i) 0); upper = unpacked (get_or words (2 * i + 1) 0) }
    → (pairs ++ pair ∷ []) ++ pairs_of_words (drop (2 * (i + 1)) words) ≡ pairs ++ pairs_of_words (drop (2 * i) words)
next-pair pairs pair i words lt is =
    let two : 2 * (i + 1) ≡ 2 * i + 2 = omega arith in
    append_assoc pairs (pair ∷ []) (pairs_of_words (drop (2 * (i + 1)) words))
    ∙ ap (λ (p : Bounds). pairs ++ (p ∷ pairs_of_words (drop (2 * (i + 1)) words))) is
    ∙ ap (λ (k : ℕ). pairs ++ (record { lower = unpacked (get_or words (2 * i) 0); upper = unpacked (get_or words (2 * i + 1) 0) } ∷ pairs_of_words (drop k words))) two
    ∙ ap (λ (rest : List ℕ). pairs ++ pairs_of_words rest) (sym (drop_pair (2 * i) words lt))

none-left : (words : List ℕ) → length words < 2 → pairs_of_words words ≡ []
none-left [] short = refl
none-left (word ∷ []) short = refl
none-left (lower ∷ upper ∷ words) short = absurd (omega (arith, short))

pub all-pairs : (pairs : List Bounds) (i : ℕ) (words : List ℕ) → length words < 2 * i + 2 → pairs ++ pairs_of_words (drop (2 * i) words) ≡ pairs_of_words words → pairs ≡ pairs_of_words words
all-pairs pairs i words short whole =
    sym (append-nil pairs) ∙ ap (λ (rest : List Bounds). pairs ++ rest) (sym (none-left (drop (2 * i) words) (omega (arith, length-drop (2 * i) words, short)))) ∙ whole
