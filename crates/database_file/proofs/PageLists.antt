-- The words of pages in a list, and the bytes of pages without a flaw.
use Rattle.std.proofs.Common.{◌≡◌, ◌∙◌, ◌⊎◌, inl, inr, ℕ, zero, suc, ◌+◌, ◌*◌, ◌-◌, ◌<◌, ◌≤◌, ◌↔◌, min, All, List, [], ◌++◌, length, take, drop, slice_index, None, ℤ, ◌≤ℤ◌, append_assoc, length-append, length-drop, refl, sym, ap, ap₂, subst, arith}
use Rattle.std.proofs.Math.Nat.{le-div_iff_mul-le, lt-div-mul-add, mul-add, mul-le-mul_left, mul_left_comm, suc-mul}
use Rattle.std.proofs.Math.ListN.{get_or-append}
use Rattle.std.proofs.Math.Seq.{drop-append_seam, get_or-append_right, take-add, take-append_seam}
use Rattle.std.proofs.lemmas.Bool.{cases_lt, leb-true}
use Rattle.std.proofs.lemmas.List.{append-nil, drop-append-le, get_or-drop, get_or-take, get_or_past, length-take, length-take-le, take_all, take_min}
use Rattle.std.proofs.lemmas.List.Elements.{All-drop, All-take}
use Rattle.directed_fixed.specs.declared.word.TheConstants.{WORD_OFFSET}
use Rattle.directed_fixed.specs.Bounds.{IsWithin}
use Rattle.sha2.specs.Sha256.{sha256}
use Rattle.word_pages.specs.Words.{Fits, word_size, words_in_bytes, words_bytes}
use Rattle.word_pages.specs.Flaws.{LieWithin, pair_in_words, unpacked}
use Rattle.word_pages.specs.Pages.{AreBytes, first_pages, page_flaw, page_size, page_text, pages_from, pages_in, pages_text}
use Rattle.word_pages.proofs.Back.{words_of-text}
use Rattle.word_pages.proofs.PageFlaws.{page_flaw-take}
use Rattle.word_pages.proofs.PageTexts.{length-pages, page-exactly, page-right, page-stands}
use Rattle.word_pages.proofs.Texts.{length-words_of, words_of-take}
use Rattle.word_pages.proofs.Within.{is_well, none_or, none-within, or_none, within-fit}
use Rattle.database_file.specs.declared.pages.Pages.{Pages}
use Rattle.database_file.specs.Pages.{binding_on, first_flaw, first_words, flaw_in, flaw_on, page_count, page_words, place_of, whole_page, words_listed, words_on}
use Rattle.database_file.proofs.Writing.{next_page}

-- ---- the words

pub length-first_words : (pages : Pages) (bytes : List ℕ) (n : ℕ) → length (first_words pages bytes n) ≡ min (n * pages.size) pages.count
length-first_words pages bytes zero = omega arith
length-first_words pages bytes (suc n) =
    omega (arith, length-first_words pages bytes n, length-append (first_words pages bytes n) (page_words pages bytes n), length-words_of pages.version (words_on pages n) (drop (n * whole_page pages) bytes), suc-mul n pages.size)

-- the words of so many pages more stand behind
behind : (pages : Pages) (bytes : List ℕ) (n more : ℕ) → (rest : List ℕ) × (first_words pages bytes (more + n) ≡ first_words pages bytes n ++ rest)
behind pages bytes n zero = ([], ap (first_words pages bytes) (none n) ∙ sym (append-nil (first_words pages bytes n)))
  where
    none : (n : ℕ) → 0 + n ≡ n
    none n = omega arith
behind pages bytes n (suc more) =
    let (rest, is) = behind pages bytes n more in (
      rest ++ page_words pages bytes (more + n),
      ap (first_words pages bytes) (one more n) ∙ ap (λ (words : List ℕ). words ++ page_words pages bytes (more + n)) is ∙ append_assoc (first_words pages bytes n) rest (page_words pages bytes (more + n)),
    )
  where
    one : (more n : ℕ) → suc more + n ≡ suc (more + n)
    one more n = omega arith

-- every page has words
page_begins : (pages : Pages) (page : ℕ) → 0 < pages.size → page < page_count pages → page * pages.size < pages.count
page_begins pages page some there =
    let fill = (le-div_iff_mul-le {k = pages.size} {x = suc page} {y = pages.count + (pages.size - 1)} some).0 there in
    omega (arith, fill, some, suc-mul page pages.size)

-- all words stand on pages
pages_cover : (pages : Pages) → 0 < pages.size → pages.count ≤ page_count pages * pages.size
pages_cover pages some =
    let cover = lt-div-mul-add {a = pages.count + (pages.size - 1)} {b = pages.size} some in
    omega (arith, cover, some)

pub length-words_in : (pages : Pages) (bytes : List ℕ) → 0 < pages.size → length (words_listed pages bytes) ≡ pages.count
length-words_in pages bytes some = omega (arith, length-first_words pages bytes (page_count pages), pages_cover pages some)

-- the words of a page among all
pub page-part : (pages : Pages) (bytes : List ℕ) (page : ℕ) → 0 < pages.size → page < page_count pages → take pages.size (drop (page * pages.size) (words_listed pages bytes)) ≡ page_words pages bytes page
page-part pages bytes page some there =
    let before : List ℕ = first_words pages bytes page in
    let words : List ℕ = page_words pages bytes page in
    let (rest, is) = behind pages bytes (suc page) (page_count pages - suc page) in
    let count : (page_count pages - suc page) + suc page ≡ page_count pages = omega (arith, there) in
    let all : words_listed pages bytes ≡ before ++ (words ++ rest) = ap (first_words pages bytes) (sym count) ∙ is ∙ append_assoc before words rest in
    let begins = page_begins pages page some there in
    let start : length before ≡ page * pages.size = omega (arith, length-first_words pages bytes page, begins) in
    let from : drop (page * pages.size) (words_listed pages bytes) ≡ words ++ rest = ap₂ (λ (n : ℕ) (words : List ℕ). drop n words) (sym start) all ∙ drop-append_seam before (words ++ rest) in
    let left : length (words ++ rest) ≡ pages.count - page * pages.size = sym (ap (λ (words : List ℕ). length words) from) ∙ length-drop (page * pages.size) (words_listed pages bytes) ∙ ap (λ n. n - page * pages.size) (length-words_in pages bytes some) in
    let many : min pages.size (length (words ++ rest)) ≡ length words = ap (λ n. min pages.size n) left ∙ sym (length-words_of pages.version (words_on pages page) (drop (page * whole_page pages) bytes)) in
    ap (take pages.size) from ∙ sym (take_min pages.size (words ++ rest)) ∙ ap (λ n. take n (words ++ rest)) many ∙ take-append_seam words rest

-- ---- pages without a flaw

-- each of the first n pages has none where these have none
pub each_right : (pages : Pages) (bytes : List ℕ) (n : ℕ) → first_flaw pages bytes n ≡ None → (page : ℕ) → page < n → flaw_on pages bytes page ≡ None
each_right pages bytes zero none page there = absurd (omega (arith, there))
each_right pages bytes (suc n) none page there = by_page (cases_lt page n) (none_or _ _ none) (each_right pages bytes n)
  where
    by_page : (page < n) ⊎ (n ≤ page) → (first_flaw pages bytes n ≡ None) × (flaw_on pages bytes n ≡ None) → (first_flaw pages bytes n ≡ None → (page : ℕ) → page < n → flaw_on pages bytes page ≡ None) → flaw_on pages bytes page ≡ None
    by_page (inl before) parts others = others parts.0 page before
    by_page (inr last) parts others = subst (λ (n : ℕ). flaw_on pages bytes n ≡ None) (is page n last there) parts.1
      where
        is : (page n : ℕ) → n ≤ page → page < suc n → n ≡ page
        is page n last there = omega (arith, last, there)

pub AreBytes-drop : (n : ℕ) (bytes : List ℕ) → AreBytes bytes → AreBytes (drop n bytes)
AreBytes-drop n bytes are k = subst (λ (byte : ℕ). byte < 256) (sym (get_or-drop n bytes k 0)) (are (n + k))

AreBytes-take : (n : ℕ) (bytes : List ℕ) → AreBytes bytes → AreBytes (take n bytes)
AreBytes-take n bytes are k = by_place (cases_lt k n)
  where
    by_place : (k < n) ⊎ (n ≤ k) → slice_index (take n bytes) k < 256
    by_place (inl inside) = subst (λ (byte : ℕ). byte < 256) (sym (get_or-take n bytes k 0 inside)) (are k)
    by_place (inr past) = omega (arith, get_or_past (take n bytes) k 0 (omega (arith, past, length-take n bytes)))

-- a page without a flaw is the page of its words, which lie within the bound
page-back : (pages : Pages) (bytes : List ℕ) (page : ℕ) → AreBytes bytes → flaw_on pages bytes page ≡ None
    → (take (page_size pages.version (words_on pages page)) (drop (page * whole_page pages) bytes) ≡ page_text pages.version (binding_on pages page) (page_words pages bytes page)) × LieWithin pages.bound (page_words pages bytes page)
page-back pages bytes page are right =
    let n = words_on pages page in
    let size = page_size pages.version n in
    let there : List ℕ = drop (page * whole_page pages) bytes in
    let long = leb-true size (length there) (is_well _ _ _ (none_or _ _ right).0) in
    let same = words_of-take pages.version n size there (omega arith) in
    let back = (page-exactly pages.version (binding_on pages page) pages.bound n (pages.at + page * whole_page pages) (take size there) (AreBytes-take size there (AreBytes-drop (page * whole_page pages) bytes are)) (length-take-le size there long)).0
    (page_flaw-take pages.version (binding_on pages page) pages.bound n (pages.at + page * whole_page pages) there ∙ right) in
    (back.0 ∙ ap (page_text pages.version (binding_on pages page)) same, subst (LieWithin pages.bound) same back.1)

-- how many bytes the first n pages have
abbrev pub first_length : Pages → ℕ → ℕ
first_length pages n = word_size pages.version * min (n * pages.size) pages.count + 32 * n

first_length-zero : (pages : Pages) → first_length pages 0 ≡ 0
first_length-zero pages =
    let none : min (0 * pages.size) pages.count ≡ 0 = omega arith in
    let words : word_size pages.version * min (0 * pages.size) pages.count ≡ word_size pages.version * 0 = ap (λ n. word_size pages.version * n) none in
    omega (arith, words)

-- before a page all pages are whole
first_length-before : (pages : Pages) (page : ℕ) → 0 < pages.size → page < page_count pages → first_length pages page ≡ page * whole_page pages
first_length-before pages page some there =
    let all : min (page * pages.size) pages.count ≡ page * pages.size = omega (arith, page_begins pages page some there) in
    let words : word_size pages.version * min (page * pages.size) pages.count ≡ page * (word_size pages.version * pages.size) = ap (λ n. word_size pages.version * n) all ∙ mul_left_comm (word_size pages.version) page pages.size in
    omega (arith, words, mul-add page (word_size pages.version * pages.size) 32)

first_length-next : (pages : Pages) (page : ℕ) → first_length pages (suc page) ≡ first_length pages page + page_size pages.version (words_on pages page)
first_length-next pages page =
    let more : min (suc page * pages.size) pages.count ≡ min (page * pages.size) pages.count + words_on pages page = omega (arith, suc-mul page pages.size) in
    omega (arith, ap (λ n. word_size pages.version * n) more ∙ mul-add (word_size pages.version) (min (page * pages.size) pages.count) (words_on pages page))

-- all pages together
pub first_length-all : (pages : Pages) → 0 < pages.size → first_length pages (page_count pages) ≡ word_size pages.version * pages.count + 32 * page_count pages
first_length-all pages some =
    let all : min (page_count pages * pages.size) pages.count ≡ pages.count = omega (arith, pages_cover pages some) in
    omega (arith, ap (λ n. word_size pages.version * n) all)

-- the first pages are the pages of the words
text-first : (pages : Pages) (bytes : List ℕ) (n : ℕ) → 0 < pages.size → AreBytes bytes → flaw_in pages bytes ≡ None → n ≤ page_count pages
    → first_pages pages.version pages.digest pages.size 0 n (words_listed pages bytes) ≡ take (first_length pages n) bytes
text-first pages bytes zero some are right within = ap (λ n. take n bytes) (sym (first_length-zero pages))
text-first pages bytes (suc n) some are right within =
    let there : n < page_count pages = omega (arith, within) in
    let words = words_listed pages bytes in
    let size = page_size pages.version (words_on pages n) in
    let before = text-first pages bytes n some are right (omega (arith, within)) in
    let page = (page-back pages bytes n are (each_right pages bytes (page_count pages) right n there)).0 in
    let place = first_length-before pages n some there in
    ap (λ n. first_pages pages.version pages.digest pages.size 0 n words) (one n)
    ∙ next_page pages.version pages.digest pages.size n words
    ∙ ap₂ (λ (before : List ℕ) (page : List ℕ). before ++ page) before
    (ap (page_text pages.version (binding_on pages n)) (page-part pages bytes n some there) ∙ sym page ∙ ap (λ at. take size (drop at bytes)) (sym place))
    ∙ sym (take-add (first_length pages n) size bytes)
    ∙ ap (λ n. take n bytes) (sym (first_length-next pages n))
  where
    one : (n : ℕ) → suc n ≡ n + 1
    one n = omega arith

pub pages-back : (pages : Pages) (bytes : List ℕ) → 0 < pages.size → AreBytes bytes → length bytes ≡ word_size pages.version * pages.count + 32 * page_count pages
    → flaw_in pages bytes ≡ None → bytes ≡ pages_text pages.version pages.digest pages.size (words_listed pages bytes)
pages-back pages bytes some are long right =
    let words = words_listed pages bytes in
    sym (ap (λ n. first_pages pages.version pages.digest pages.size 0 (pages_in pages.size n) words) (length-words_in pages bytes some)
    ∙ text-first pages bytes (page_count pages) some are right (omega arith)
    ∙ take_all (first_length pages (page_count pages)) bytes (omega (arith, long, first_length-all pages some)))

-- ---- pairs within the bound

pair-of : (words others : List ℕ) (k j : ℕ) → slice_index words (2 * k) ≡ slice_index others (2 * j) → slice_index words (2 * k + 1) ≡ slice_index others (2 * j + 1) → pair_in_words words k ≡ pair_in_words others j
pair-of words others k j lower upper = ap₂ (λ (lower : ℕ) (upper : ℕ). record { lower = unpacked lower; upper = unpacked upper }) lower upper

within-append : (bound : ℤ) (m : ℕ) (words others : List ℕ) → length words ≡ 2 * m → LieWithin bound words → LieWithin bound others → LieWithin bound (words ++ others)
within-append bound m words others even first then k there = by_place (cases_lt (2 * k + 1) (length words))
  where
    by_place : (2 * k + 1 < length words) ⊎ (length words ≤ 2 * k + 1) → IsWithin bound (pair_in_words (words ++ others) k)
    by_place (inl inside) = subst (IsWithin bound) (sym (pair-of (words ++ others) words k k (get_or-append words others 0 (2 * k) (omega (arith, inside))) (get_or-append words others 0 (2 * k + 1) inside))) (first k inside)
    by_place (inr behind) =
        let j = k - m in
        let lower : slice_index (words ++ others) (2 * k) ≡ slice_index others (2 * (k - m)) = get_or-append_right words others (2 * k) 0 (omega (arith, behind, even)) ∙ ap (slice_index others) (omega (arith, even, behind)) in
        let upper : slice_index (words ++ others) (2 * k + 1) ≡ slice_index others (2 * (k - m) + 1) = get_or-append_right words others (2 * k + 1) 0 behind ∙ ap (slice_index others) (omega (arith, even, behind)) in
        subst (IsWithin bound) (sym (pair-of (words ++ others) others k (k - m) lower upper)) (then (k - m) (omega (arith, there, even, behind, length-append words others)))

-- an even number of words comes before each page
even-before : (pages : Pages) (bytes : List ℕ) (half all n : ℕ) → pages.size ≡ 2 * half → pages.count ≡ 2 * all → length (first_words pages bytes n) ≡ 2 * min (n * half) all
even-before pages bytes half all n size count =
    omega (arith, length-first_words pages bytes n, count, ap (λ size. n * size) size ∙ mul_left_comm n 2 half)

first-within : (pages : Pages) (bytes : List ℕ) (half all n : ℕ) → pages.size ≡ 2 * half → pages.count ≡ 2 * all → ((page : ℕ) → page < n → LieWithin pages.bound (page_words pages bytes page)) → LieWithin pages.bound (first_words pages bytes n)
first-within pages bytes half all zero size count each = λ k there. absurd (omega (arith, there))
first-within pages bytes half all (suc n) size count each =
    within-append pages.bound (min (n * half) all) (first_words pages bytes n) (page_words pages bytes n) (even-before pages bytes half all n size count)
    (first-within pages bytes half all n size count (λ page there. each page (omega (arith, there)))) (each n (omega arith))

-- the words of pages without a flaw lie within the bound
pub page-within : (pages : Pages) (bytes : List ℕ) (page : ℕ) → flaw_on pages bytes page ≡ None → LieWithin pages.bound (page_words pages bytes page)
page-within pages bytes page right = none-within pages.version pages.bound (place_of pages page) (page_words pages bytes page) (none_or _ _ (none_or _ _ right).1).1

pub words-within : (pages : Pages) (bytes : List ℕ) (half all : ℕ) → pages.size ≡ 2 * half → pages.count ≡ 2 * all → flaw_in pages bytes ≡ None → LieWithin pages.bound (words_listed pages bytes)
words-within pages bytes half all size count right =
    first-within pages bytes half all (page_count pages) size count (λ page there. page-within pages bytes page (each_right pages bytes (page_count pages) right page there))

-- ---- the pages of words

within-part : (bound : ℤ) (m n : ℕ) (words : List ℕ) → LieWithin bound words → LieWithin bound (take n (drop (2 * m) words))
within-part bound m n words within k there =
    let long = length-take n (drop (2 * m) words) in
    let rest = length-drop (2 * m) words in
    let lower : slice_index (take n (drop (2 * m) words)) (2 * k) ≡ slice_index words (2 * (m + k)) =
    get_or-take n (drop (2 * m) words) (2 * k) 0 (omega (arith, there, long)) ∙ get_or-drop (2 * m) words (2 * k) 0 ∙ ap (slice_index words) (omega arith) in
    let upper : slice_index (take n (drop (2 * m) words)) (2 * k + 1) ≡ slice_index words (2 * (m + k) + 1) =
    get_or-take n (drop (2 * m) words) (2 * k + 1) 0 (omega (arith, there, long)) ∙ get_or-drop (2 * m) words (2 * k + 1) 0 ∙ ap (slice_index words) (omega arith) in
    subst (IsWithin bound) (sym (pair-of (take n (drop (2 * m) words)) words k (m + k) lower upper)) (within (m + k) (omega (arith, there, long, rest)))

-- a page of words that fit and lie within the bound has no flaw, and these are its words
page-of : (pages : Pages) (half : ℕ) (words rest : List ℕ) (page : ℕ) → 0 < pages.size → pages.size ≡ 2 * half → length words ≡ pages.count → All (Fits pages.version) words → LieWithin pages.bound words → page < page_count pages
    → (flaw_on pages (pages_text pages.version pages.digest pages.size words ++ rest) page ≡ None) × (page_words pages (pages_text pages.version pages.digest pages.size words ++ rest) page ≡ take pages.size (drop (page * pages.size) words))
page-of pages half words rest page some even count fit within there =
    let version = pages.version in
    let binding = binding_on pages page in
    let text : List ℕ = pages_text version pages.digest pages.size words in
    let part : List ℕ = take pages.size (drop (page * pages.size) words) in
    let others : List ℕ = pages_from version pages.digest pages.size (page + 1) (drop ((page + 1) * pages.size) words) in
    let begins = page_begins pages page some there in
    let n : length part ≡ words_on pages page = omega (arith, length-take pages.size (drop (page * pages.size) words), length-drop (page * pages.size) words, count) in
    let last : page < pages_in pages.size (length words) = subst (λ n. page < pages_in pages.size n) (sym count) there in
    let bytes = length-pages version pages.digest pages.size words some in
    let before = first_length-before pages page some there in
    let room : page * whole_page pages ≤ length text =
    omega (arith, bytes, before, ap (λ n. pages_in pages.size n) count, ap (λ n. word_size version * n) count, there, mul-le-mul_left (word_size version) (le_min (page * pages.size) pages.count)) in
    let stands : drop (page * whole_page pages) (text ++ rest) ≡ page_text version binding part ++ (others ++ rest) =
    drop-append-le (page * whole_page pages) text rest room ∙ ap (λ bytes. bytes ++ rest) (page-stands version pages.digest pages.size words page some last) ∙ append_assoc (page_text version binding part) others rest in
    let fits = All-take (Fits version) pages.size (drop (page * pages.size) words) (All-drop (Fits version) (page * pages.size) words fit) in
    let place : page * pages.size ≡ 2 * (page * half) = ap (λ size. page * size) even ∙ mul_left_comm page 2 half in
    let inside : LieWithin pages.bound part = subst (λ at. LieWithin pages.bound (take pages.size (drop at words))) (sym place) (within-part pages.bound (page * half) pages.size words within) in (
      ap₂ (λ (n : ℕ) (bytes : List ℕ). page_flaw version binding pages.bound n (pages.at + page * whole_page pages) bytes) (sym n) stands ∙ page-right version binding pages.bound (pages.at + page * whole_page pages) part (others ++ rest) fits inside,
      ap₂ (λ (n : ℕ) (bytes : List ℕ). words_in_bytes version n bytes) (sym n) stands
          ∙ ap (words_in_bytes version (length part)) (append_assoc (words_bytes version part) (sha256 (binding ++ words_bytes version part)) (others ++ rest)) ∙ words_of-text version part (sha256 (binding ++ words_bytes version part) ++ (others ++ rest)) fits,
    )
  where
    le_min : (a b : ℕ) → min a b ≤ b
    le_min a b = omega arith

pages-of : (pages : Pages) (half : ℕ) (words rest : List ℕ) (n : ℕ) → 0 < pages.size → pages.size ≡ 2 * half → length words ≡ pages.count → All (Fits pages.version) words → LieWithin pages.bound words → n ≤ page_count pages
    → (first_flaw pages (pages_text pages.version pages.digest pages.size words ++ rest) n ≡ None) × (first_words pages (pages_text pages.version pages.digest pages.size words ++ rest) n ≡ take (n * pages.size) words)
pages-of pages half words rest zero some even count fit within there = (refl, ap (λ n. take n words) (none pages.size))
  where
    none : (size : ℕ) → 0 ≡ 0 * size
    none size = omega arith
pages-of pages half words rest (suc n) some even count fit within there =
    let before = pages-of pages half words rest n some even count fit within (omega (arith, there)) in
    let page = page-of pages half words rest n some even count fit within (omega (arith, there)) in
    let next : n * pages.size + pages.size ≡ suc n * pages.size = sym (suc-mul n pages.size) in (
      or_none _ _ before.0 page.0,
      ap₂ (λ (before : List ℕ) (page : List ℕ). before ++ page) before.1 page.1 ∙ sym (take-add (n * pages.size) pages.size words) ∙ ap (λ n. take n words) next,
    )

-- so are all pages of such words
pub pages-right : (pages : Pages) (half : ℕ) (words rest : List ℕ) → 0 < pages.size → pages.size ≡ 2 * half → length words ≡ pages.count → All (Fits pages.version) words → LieWithin pages.bound words
    → (flaw_in pages (pages_text pages.version pages.digest pages.size words ++ rest) ≡ None) × (words_listed pages (pages_text pages.version pages.digest pages.size words ++ rest) ≡ words)
pages-right pages half words rest some even count fit within =
    let all = pages-of pages half words rest (page_count pages) some even count fit within (omega arith) in
    (all.0, all.1 ∙ take_all (page_count pages * pages.size) words (omega (arith, count, pages_cover pages some)))

-- pages have no flaw exactly where they are those of their words, which lie within the bound
pub pages-exactly : (pages : Pages) (half all : ℕ) (bytes : List ℕ) → 0 < pages.size → pages.size ≡ 2 * half → pages.count ≡ 2 * all → AreBytes bytes
    → length bytes ≡ word_size pages.version * pages.count + 32 * page_count pages → pages.bound ≤ℤ WORD_OFFSET
    → (flaw_in pages bytes ≡ None) ↔ ((bytes ≡ pages_text pages.version pages.digest pages.size (words_listed pages bytes)) × LieWithin pages.bound (words_listed pages bytes))
pages-exactly pages half all bytes some size count are long bound = (
  λ right. (pages-back pages bytes some are long right, words-within pages bytes half all size count right),
  λ text.
      let words = words_listed pages bytes in
      let many = length-words_in pages bytes some in
      let fit = within-fit pages.version pages.bound all words bound (many ∙ count) text.1 in
      ap (flaw_in pages) (text.0 ∙ sym (append-nil (pages_text pages.version pages.digest pages.size words))) ∙ (pages-right pages half words [] some size many fit text.1).0,
)
