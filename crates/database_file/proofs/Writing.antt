-- What pages add one after another.
use Rattle.std.proofs.Common.{◌≡◌, ◌∙◌, ℕ, suc, zero, ◌+◌, ◌*◌, ◌-◌, ◌<◌, min, length, arith, List, ◌++◌, take, drop, map, Ok, sym, ap, ap₂, subst, append_assoc}
use Rattle.std.proofs.Math.Nat.{le-div_iff_mul-le, suc-mul}
use Rattle.std.proofs.lemmas.List.{append-nil, drop-drop, length-drop, take_min}
use Rattle.outside_log.specs.Log.{Event, Appended, Adds, AddsAll}
use Rattle.outside_log.proofs.Logs.{adds-both, adds-leaves, failures-later}
use Rattle.word_pages.specs.declared.version.Version.{Version}
use Rattle.word_pages.specs.Sealed.{binding_of}
use Rattle.word_pages.specs.Pages.{page_text, first_pages, pages_in}

-- a part of words, which ends where they do
pub part : (from size : ℕ) (words : List ℕ) → take (min (length words) (from + size) - from) (drop from words) ≡ take size (drop from words)
part from size words =
    let long : min (length words) (from + size) - from ≡ min size (length (drop from words)) = omega (arith, length-drop from words) in
    ap (λ (n : ℕ). take n (drop from words)) long ∙ take_min size (drop from words)

-- so many pages and so many more
pub more_pages : (version : Version) (digest : List ℕ) (size number n m : ℕ) (words : List ℕ)
    → first_pages version digest size number (n + m) words ≡ first_pages version digest size number n words ++ first_pages version digest size (number + n) m (drop (n * size) words)
more_pages version digest size number zero m words =
    let none_more : 0 + m ≡ m = omega arith in
    let no_further : 0 ≡ 0 * size = omega arith in
    let none : number ≡ number + 0 = omega arith in
    ap (λ (k : ℕ). first_pages version digest size number k words) none_more ∙ ap₂ (λ (k number : ℕ). first_pages version digest size number m (drop k words)) no_further none
more_pages version digest size number (suc n) m words =
    let one_more : suc n + m ≡ suc (n + m) = omega arith in
    let further : size + n * size ≡ suc n * size = omega arith in
    let later : suc number + n ≡ number + suc n = omega arith in
    let page = page_text version (binding_of version digest number) (take size words) in
    let others = first_pages version digest size (suc number) n (drop size words) in
    ap (λ (k : ℕ). first_pages version digest size number k words) one_more
    ∙ ap (λ (rest : List ℕ). page ++ rest) (more_pages version digest size (suc number) n m (drop size words))
    ∙ ap (λ (rest : List ℕ). page ++ (others ++ first_pages version digest size (suc number + n) m rest)) (drop-drop (n * size) size words)
    ∙ sym (append_assoc page others (first_pages version digest size (suc number + n) m (drop (size + n * size) words)))
    ∙ ap₂ (λ (k number : ℕ). (page ++ others) ++ first_pages version digest size number m (drop k words)) further later

-- one page more
pub next_page : (version : Version) (digest : List ℕ) (size n : ℕ) (words : List ℕ)
    → first_pages version digest size 0 (n + 1) words ≡ first_pages version digest size 0 n words ++ page_text version (binding_of version digest n) (take size (drop (n * size) words))
next_page version digest size n words =
    let is : 0 + n ≡ n = omega arith in
    more_pages version digest size 0 n 1 words
    ∙ ap (λ (number : ℕ). first_pages version digest size 0 n words ++ first_pages version digest size number 1 (drop (n * size) words)) is
    ∙ ap (λ (page : List ℕ). first_pages version digest size 0 n words ++ page) (append-nil (page_text version (binding_of version digest n) (take size (drop (n * size) words))))

-- one page more, which stands behind so many words
next_behind : (version : Version) (digest : List ℕ) (size first n : ℕ) (words : List ℕ)
    → first_pages version digest size first (n + 1) (drop (first * size) words)
    ≡ first_pages version digest size first n (drop (first * size) words) ++ page_text version (binding_of version digest (first + n)) (take size (drop ((first + n) * size) words))
next_behind version digest size first n words =
    let place : first * size + n * size ≡ (first + n) * size = omega arith in
    let behind : drop (n * size) (drop (first * size) words) ≡ drop ((first + n) * size) words = drop-drop (n * size) (first * size) words ∙ ap (λ (place : ℕ). drop place words) place in
    more_pages version digest size first n 1 (drop (first * size) words)
    ∙ ap (λ (page : List ℕ). first_pages version digest size first n (drop (first * size) words) ++ page)
    (append-nil (page_text version (binding_of version digest (first + n)) (take size (drop (n * size) (drop (first * size) words))))
    ∙ ap (λ (words : List ℕ). page_text version (binding_of version digest (first + n)) (take size words)) behind)

-- where one page more was added, the pages were up to it
pub one_page_more : (name : List ℕ) (version : Version) (digest : List ℕ) (size first n : ℕ) (words : List ℕ) (old middle new : List Event)
    → Adds name (first_pages version digest size first n (drop (first * size) words)) old middle
    → Adds name (page_text version (binding_of version digest (first + n)) (take size (drop ((first + n) * size) words))) middle new
    → Adds name (first_pages version digest size first (n + 1) (drop (first * size) words)) old new
one_page_more name version digest size first n words old middle new before page =
    subst (λ (bytes : List ℕ). Adds name bytes old new) (sym (next_behind version digest size first n words)) (adds-both name _ _ old middle new before page)

-- where so many pages more were added, the pages were up to the last of them
pub pages_more : (name : List ℕ) (version : Version) (digest : List ℕ) (size n m : ℕ) (words : List ℕ) (old middle new : List Event)
    → Adds name (first_pages version digest size 0 n words) old middle
    → Adds name (first_pages version digest size n m (drop (n * size) words)) middle new
    → Adds name (first_pages version digest size 0 (n + m) words) old new
pages_more name version digest size n m words old middle new before pages =
    let is : n ≡ 0 + n = omega arith in
    let there : Adds name (first_pages version digest size (0 + n) m (drop (n * size) words)) middle new =
    subst (λ (first : ℕ). Adds name (first_pages version digest size first m (drop (n * size) words)) middle new) is pages in
    subst (λ (bytes : List ℕ). Adds name bytes old new) (sym (more_pages version digest size 0 n m words)) (adds-both name _ _ old middle new before there)

-- where one page more was added, the first pages were up to it
pub first_page_more : (name : List ℕ) (version : Version) (digest : List ℕ) (size n : ℕ) (words : List ℕ) (old middle new : List Event) → Adds name (first_pages version digest size 0 n words) old middle
    → Adds name (page_text version (binding_of version digest n) (take size (drop (n * size) words))) middle new → Adds name (first_pages version digest size 0 (n + 1) words) old new
first_page_more name version digest size n words old middle new first page =
    subst (λ (bytes : List ℕ). Adds name bytes old new) (sym (next_page version digest size n words)) (adds-both name _ _ old middle new first page)

-- each page begins before the words' end
pub begins_before_the_end : (size count page : ℕ) → 0 < size → page < pages_in size count → page * size < count
begins_before_the_end size count page some there =
    let fill = (le-div_iff_mul-le {k = size} {x = suc page} {y = count + (size - 1)} some).0 there in
    omega (arith, fill, suc-mul page size, some)

-- all of these were added
pub all-added : {T E : Type 0} (name bytes : List ℕ) (old new : List Event) (x : T) → Adds name bytes old new → AddsAll {E = E} name bytes old new (Ok x)
all-added name bytes old new x adds = record {
  adds = adds;
  leaves = adds-leaves name bytes old new adds;
  cause = record { later = failures-later old new (map (Appended name) adds.pieces) adds.grown; failed = tt };
}
