-- Pages of words, one and many.
use Rattle.std.proofs.Common.{◌≡◌, ◌∙◌, ◌⊎◌, inl, inr, ℕ, zero, suc, ◌+◌, ◌*◌, ◌-◌, ◌/◌, ◌<◌, ◌≤◌, true, All, List, ◌++◌, length, take, drop, None, ℤ, append_assoc, length-append, length-drop, refl, sym, ap, ap₂, subst, arith}
use Rattle.std.proofs.Math.Nat.{add-div_right, div-eq_of_lt, mul-add, suc-mul}
use Rattle.std.proofs.Math.Seq.{take-append_seam, drop-append-add}
use Rattle.std.proofs.lemmas.Bool.{cases_lt}
use Rattle.std.proofs.lemmas.List.{take_all, take-append-drop, drop-drop, length-take-le}
use Rattle.hyper_outside.specs.declared.outside.PageFault.TheVariants.{PageDigest}
use Rattle.sha2.specs.Sha256.{sha256}
use Rattle.word_pages.specs.declared.version.Version.{Version}
use Rattle.word_pages.specs.Words.{word_size, Fits, words_bytes, words_in_bytes}
use Rattle.word_pages.specs.Sealed.{binding_of, is_sealed_under, sealed_under}
use Rattle.word_pages.specs.Flaws.{pairs_flaw, LieWithin}
use Rattle.word_pages.specs.Pages.{AreBytes, page_text, page_size, page_flaw, first_pages, pages_from, pages_in, pages_text}
use Rattle.word_pages.proofs.Texts.{length-cells}
use Rattle.word_pages.proofs.Seals.{length-sealed, is_sealed-exactly}
use Rattle.word_pages.proofs.PageFlaws.{no_flaw, long-flaw}
use Rattle.word_pages.proofs.Within.{none_or, or_none, is_well, none-within, within-none}
use Rattle.word_pages.proofs.Back.{text-words_of, words_of-text}

-- ---- one page

pub length-page : (version : Version) (binding words : List ℕ) → length (page_text version binding words) ≡ page_size version (length words)
length-page version binding words = length-sealed binding (words_bytes version words) ∙ ap (λ k. k + 32) (length-cells (word_size version) words)

-- sealed bytes are sealed
pub is_sealed-sealed : (binding bytes : List ℕ) → is_sealed_under binding (sealed_under binding bytes) ≡ true
is_sealed-sealed binding bytes =
    let text = sealed_under binding bytes in
    let long = length-sealed binding bytes in
    let count : length text - 32 ≡ length bytes = omega (arith, long) in
    let front : take (length text - 32) text ≡ bytes = ap (λ k. take k text) count ∙ take-append_seam bytes (sha256 (binding ++ bytes)) in
    (is_sealed-exactly binding text).1 (ap (sealed_under binding) (sym front))

-- they are the sealed text of one list alone
pub sealed-one : (binding other bytes others : List ℕ) → sealed_under binding bytes ≡ sealed_under other others → bytes ≡ others
sealed-one binding other bytes others same =
    let long = ap (λ (text : List ℕ). length text) same in
    let count : length bytes ≡ length others = omega (arith, long, length-sealed binding bytes, length-sealed other others) in
    sym (take-append_seam bytes (sha256 (binding ++ bytes))) ∙ ap₂ (λ (k : ℕ) (text : List ℕ). take k text) count same ∙ take-append_seam others (sha256 (other ++ others))

-- a page of words that fit and lie within the bound has no flaw, whatever stands behind it
pub page-right : (version : Version) (binding : List ℕ) (bound : ℤ) (at : ℕ) (words rest : List ℕ) → All (Fits version) words → LieWithin bound words
    → page_flaw version binding bound (length words) at (page_text version binding words ++ rest) ≡ None
page-right version binding bound at words rest fit within =
    let page = page_text version binding words in
    let size = page_size version (length words) in
    let digest = sha256 (binding ++ words_bytes version words) in
    let count = length-page version binding words in
    let whole : take size (page ++ rest) ≡ page = ap (λ k. take k (page ++ rest)) (sym count) ∙ take-append_seam page rest in
    let read : words_in_bytes version (length words) (page ++ rest) ≡ words =
    ap (words_in_bytes version (length words)) (append_assoc (words_bytes version words) digest rest) ∙ words_of-text version words (digest ++ rest) fit in
    long-flaw version binding bound (length words) at (page ++ rest) (omega (arith, count, length-append page rest))
    ∙ or_none _ _ (no_flaw (is_sealed_under binding (take size (page ++ rest))) PageDigest (at + word_size version * length words) (ap (is_sealed_under binding) whole ∙ is_sealed-sealed binding (words_bytes version words)))
    (ap (pairs_flaw version bound at) read ∙ within-none version bound at words within)

-- bytes of a page's length have no flaw exactly where they are the page of their words, which lie within the bound
pub page-exactly : (version : Version) (binding : List ℕ) (bound : ℤ) (n at : ℕ) (bytes : List ℕ) → AreBytes bytes → length bytes ≡ page_size version n
    → (page_flaw version binding bound n at bytes ≡ None → (bytes ≡ page_text version binding (words_in_bytes version n bytes)) × LieWithin bound (words_in_bytes version n bytes))
    × ((bytes ≡ page_text version binding (words_in_bytes version n bytes)) × LieWithin bound (words_in_bytes version n bytes) → page_flaw version binding bound n at bytes ≡ None)
page-exactly version binding bound n at bytes are long =
    let size = page_size version n in
    let words = words_in_bytes version n bytes in
    let whole : take size bytes ≡ bytes = take_all size bytes (omega (arith, long)) in
    let flaw = long-flaw version binding bound n at bytes (omega (arith, long)) in
    let exactly = is_sealed-exactly binding bytes in
    let text : take (length bytes - 32) bytes ≡ words_bytes version words = ap (λ k. take k bytes) front ∙ sym (text-words_of version n bytes (omega (arith, long)) are) in (
      λ none.
          let parts = none_or _ _ (sym flaw ∙ none) in
          let right = is_well (is_sealed_under binding (take size bytes)) PageDigest (at + word_size version * n) parts.0 in
          (exactly.0 (ap (is_sealed_under binding) (sym whole) ∙ right) ∙ ap (sealed_under binding) text, none-within version bound at words parts.1),
      λ page.
          flaw
          ∙ or_none _ _ (no_flaw (is_sealed_under binding (take size bytes)) PageDigest (at + word_size version * n) (ap (is_sealed_under binding) whole ∙ exactly.1 (page.0 ∙ ap (sealed_under binding) (sym text))))
          (within-none version bound at words page.1),
    )
  where
    front : length bytes - 32 ≡ word_size version * n
    front = omega (arith, long)

-- ---- many pages

none-in : (size : ℕ) → 0 < size → pages_in size 0 ≡ 0
none-in size some = div-eq_of_lt (omega (arith, some))

-- the first page, and those of the other words
pages-more : (size count : ℕ) → 0 < size → 0 < count → pages_in size count ≡ suc (pages_in size (count - size))
pages-more size count some words = by_count (cases_lt count size)
  where
    by_count : (count < size) ⊎ (size ≤ count) → pages_in size count ≡ suc (pages_in size (count - size))
    by_count (inl few) =
        let all : count + (size - 1) ≡ (count - 1) + size = omega (arith, some, words) in
        let zero_left : count - size ≡ 0 = omega (arith, few) in
        let one : (count - 1) / size ≡ 0 = div-eq_of_lt (omega (arith, few, words)) in
        let none = none-in size some in
        ap (λ k. k / size) all ∙ add-div_right (count - 1) some ∙ omega (arith, one, ap (λ k. pages_in size k) zero_left ∙ none)
    by_count (inr many) =
        let all : count + (size - 1) ≡ (count - size + (size - 1)) + size = omega (arith, many, some) in
        ap (λ k. k / size) all ∙ add-div_right (count - size + (size - 1)) some ∙ omega arith

pub first-page : (version : Version) (digest : List ℕ) (size number : ℕ) (words : List ℕ) → 0 < size → 0 < length words
    → pages_from version digest size number words ≡ page_text version (binding_of version digest number) (take size words) ++ pages_from version digest size (suc number) (drop size words)
first-page version digest size number words some there =
    ap (λ k. first_pages version digest size number k words) (pages-more size (length words) some there)
    ∙ ap (λ k. page_text version (binding_of version digest number) (take size words) ++ first_pages version digest size (suc number) (pages_in size k) (drop size words)) (sym (length-drop size words))

-- where more than so many pages are, the words fill one more
page_fills : (size i count : ℕ) → 0 < size → suc i < pages_in size count → (size ≤ count) × (i < pages_in size (count - size))
page_fills size i count some lt = by_count (cases_lt 0 count)
  where
    by_count : (0 < count) ⊎ (count ≤ 0) → (size ≤ count) × (i < pages_in size (count - size))
    by_count (inr nothing) =
        let zero_count : count ≡ 0 = omega (arith, nothing) in
        let none = ap (λ k. pages_in size k) zero_count ∙ none-in size some in
        absurd (omega (arith, lt, none))
    by_count (inl words) =
        let more = pages-more size count some words in
        let later : i < pages_in size (count - size) = omega (arith, lt, more) in
        (by_size later (cases_lt count size), later)
      where
        by_size : i < pages_in size (count - size) → (count < size) ⊎ (size ≤ count) → size ≤ count
        by_size later (inr many) = many
        by_size later (inl few) =
            let zero_left : count - size ≡ 0 = omega (arith, few) in
            let none = ap (λ k. pages_in size k) zero_left ∙ none-in size some in
            absurd (omega (arith, later, none))

-- where there is a page there are words
page_has_words : (size i count : ℕ) → 0 < size → i < pages_in size count → 0 < count
page_has_words size i count some lt = by_count (cases_lt 0 count)
  where
    by_count : (0 < count) ⊎ (count ≤ 0) → 0 < count
    by_count (inl words) = words
    by_count (inr nothing) =
        let zero_count : count ≡ 0 = omega (arith, nothing) in
        let none = ap (λ k. pages_in size k) zero_count ∙ none-in size some in
        absurd (omega (arith, lt, none))

-- from the place of a page on stand the pages of the words from its first word on
pub pages-on : (version : Version) (digest : List ℕ) (size number : ℕ) (words : List ℕ) (i : ℕ) → 0 < size → i < pages_in size (length words)
    → drop (i * page_size version size) (pages_from version digest size number words) ≡ pages_from version digest size (number + i) (drop (i * size) words)
pages-on version digest size number words zero some lt =
    let bytes : 0 * page_size version size ≡ 0 = omega arith in
    let first : 0 ≡ 0 * size = omega arith in
    let none : number ≡ number + 0 = omega arith in
    ap (λ k. drop k (pages_from version digest size number words)) bytes ∙ ap₂ (λ (n k : ℕ). pages_from version digest size n (drop k words)) none first
pages-on version digest size number words (suc i) some lt =
    let whole = page_size version size in
    let fills = page_fills size i (length words) some lt in
    let page = page_text version (binding_of version digest number) (take size words) in
    let behind = pages_from version digest size (suc number) (drop size words) in
    let count : length page ≡ whole = length-page version (binding_of version digest number) (take size words) ∙ ap (page_size version) (length-take-le size words fills.0) in
    let on : suc i * whole ≡ length page + i * whole = suc-mul i whole ∙ omega (arith, count) in
    let next : size + i * size ≡ suc i * size = omega (arith, suc-mul i size) in
    let later : suc number + i ≡ number + suc i = omega arith in
    let left : i < pages_in size (length (drop size words)) = subst (λ k. i < pages_in size k) (sym (length-drop size words)) fills.1 in
    ap (drop (suc i * whole)) (first-page version digest size number words some (page_has_words size (suc i) (length words) some lt))
    ∙ ap (λ k. drop k (page ++ behind)) on
    ∙ drop-append-add page behind (i * whole)
    ∙ pages-on version digest size (suc number) (drop size words) i some left
    ∙ ap₂ (pages_from version digest size) later (drop-drop (i * size) size words ∙ ap (λ k. drop k words) next)

-- from the place of a page on stands this page, and then those of the words behind it
pub page-stands : (version : Version) (digest : List ℕ) (size : ℕ) (words : List ℕ) (i : ℕ) → 0 < size → i < pages_in size (length words)
    → drop (i * page_size version size) (pages_text version digest size words)
    ≡ page_text version (binding_of version digest i) (take size (drop (i * size) words)) ++ pages_from version digest size (i + 1) (drop ((i + 1) * size) words)
page-stands version digest size words i some lt =
    let one : i + 1 ≡ suc i = omega arith in
    let is : 0 + i ≡ i = omega arith in
    let next : i * size + size ≡ (i + 1) * size = sym (suc-mul i size) ∙ ap (λ k. k * size) (sym one) in
    pages-on version digest size 0 words i some lt
    ∙ ap (λ n. pages_from version digest size n (drop (i * size) words)) is
    ∙ first-page version digest size i (drop (i * size) words) some (left i words lt)
    ∙ ap₂ (λ (n : ℕ) (rest : List ℕ). page_text version (binding_of version digest i) (take size (drop (i * size) words)) ++ pages_from version digest size n rest) (sym one) (drop-drop size (i * size) words ∙ ap (λ k. drop k words) next)
  where
    left : (i : ℕ) (words : List ℕ) → i < pages_in size (length words) → 0 < length (drop (i * size) words)
    left zero words lt =
        let first : drop (0 * size) words ≡ words = ap (λ k. drop k words) (nothing size) in
        let there = page_has_words size 0 (length words) some lt in
        omega (arith, there, ap (λ (words : List ℕ). length words) first)
      where
        nothing : (size : ℕ) → 0 * size ≡ 0
        nothing size = omega arith
    left (suc i) words lt =
        let fills = page_fills size i (length words) some lt in
        let next : size + i * size ≡ suc i * size = omega (arith, suc-mul i size) in
        let rest = left i (drop size words) (subst (λ k. i < pages_in size k) (sym (length-drop size words)) fills.1) in
        subst (λ (words : List ℕ). 0 < length words) (drop-drop (i * size) size words ∙ ap (λ k. drop k words) next) rest

-- ---- the length of all pages

no_words : (size count : ℕ) → 0 < size → 0 ≡ pages_in size count → count ≡ 0
no_words size count some is = by_count (cases_lt 0 count)
  where
    by_count : (0 < count) ⊎ (count ≤ 0) → count ≡ 0
    by_count (inl there) = absurd (omega (arith, is, pages-more size count some there))
    by_count (inr nothing) = omega (arith, nothing)

length_by : (version : Version) (digest : List ℕ) (size number n : ℕ) (words : List ℕ) → 0 < size → n ≡ pages_in size (length words)
    → length (pages_from version digest size number words) ≡ word_size version * length words + 32 * pages_in size (length words)
length_by version digest size number zero words some is =
    let nothing = no_words size (length words) some is in
    let text : length (pages_from version digest size number words) ≡ 0 = ap (λ k. length (first_pages version digest size number k words)) (sym is) in
    let cells : word_size version * length words ≡ word_size version * 0 = ap (λ k. word_size version * k) nothing in
    omega (arith, text, cells, is)
length_by version digest size number (suc n) words some is =
    let there = page_has_words size n (length words) some (omega (arith, is)) in
    let more = pages-more size (length words) some there in
    let left = length-drop size words in
    let rest : n ≡ pages_in size (length (drop size words)) = omega (arith, is, more, ap (λ k. pages_in size k) left) in
    let first = page_text version (binding_of version digest number) (take size words) in
    let others = pages_from version digest size (suc number) (drop size words) in
    let behind = length_by version digest size (suc number) n (drop size words) some rest in
    let page = length-page version (binding_of version digest number) (take size words) in
    let both = length-append first others in
    let text = ap (λ (bytes : List ℕ). length bytes) (first-page version digest size number words some there) in
    let count : length (take size words) + length (drop size words) ≡ length words = sym (length-append (take size words) (drop size words)) ∙ ap (λ (words : List ℕ). length words) (take-append-drop size words) in
    let cells : word_size version * length words ≡ word_size version * length (take size words) + word_size version * length (drop size words) = ap (λ k. word_size version * k) (sym count) ∙ mul-add (word_size version) (length (take size words)) (length (drop size words)) in
    omega (arith, text, both, page, behind, rest, is, cells)

pub length-pages : (version : Version) (digest : List ℕ) (size : ℕ) (words : List ℕ) → 0 < size → length (pages_text version digest size words) ≡ word_size version * length words + 32 * pages_in size (length words)
length-pages version digest size words some = length_by version digest size 0 (pages_in size (length words)) words some refl
