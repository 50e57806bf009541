-- Pages that are read together.
use Rattle.std.proofs.Common.{◌≡◌, ◌∙◌, ℕ, zero, suc, Bool, ◌+◌, ◌*◌, ◌-◌, ◌<◌, ◌≤◌, min, List, [], ◌∷◌, ◌++◌, ◌⊎◌, inl, inr, length, take, drop, slice_index_or, Option, Some, None, Result, Ok, Err, IsErrAnd, Vec, length-append, length-drop, refl, sym, ap, ap₂, subst, arith}
use Rattle.std.specs.Global.{Global}
use Rattle.std.proofs.Math.Nat.{add-mul, mul-le-mul_right, suc-mul}
use Rattle.std.proofs.Math.Seq.{drop-append_seam, take-append_seam}
use Rattle.std.proofs.lemmas.Bool.{cases_lt, leb-true}
use Rattle.std.proofs.lemmas.List.{drop-drop, drop-take, take-take, take_all, take_min}
use Rattle.outside_log.specs.Files.{Fills, bytes_from}
use Rattle.word_pages.specs.declared.flaws.Flaw.{Flaw}
use Rattle.word_pages.specs.Words.{words_in_bytes}
use Rattle.word_pages.specs.Pages.{page_size, page_flaw}
use Rattle.word_pages.proofs.PageFlaws.{page_flaw-take}
use Rattle.word_pages.proofs.Texts.{length-words_of, words_of-take}
use Rattle.word_pages.proofs.Within.{is_well, none_or}
use Rattle.database_file.specs.declared.batch.Batch.{Batch}
use Rattle.database_file.specs.declared.pages.Pages.{Pages}
use Rattle.database_file.specs.declared.pages.PagesStop.{PagesStop}
use Rattle.database_file.specs.declared.pages.PagesStop.TheVariants.{BadPage, NoMemory, ReadFault}
use Rattle.database_file.specs.Batches.{AddsUpTo, AnswersEach, AnswersOn, AreOnPage, AreRead, HasComeTo, HasReadBatch, IsBatch, batch_size, size_on}
use Rattle.database_file.specs.Pages.{AnswersPages, binding_on, first_flaw, first_words, flaw_on, page_count, page_words, place_of, whole_page, words_on}
use Rattle.database_file.proofs.ManyPages.{bytes_behind, flaw-is, is_whole, one_more, page_fits, read-front}

-- ---- one page

pub flaw-on_page : (pages : Pages) (page : ℕ) (bytes all : List ℕ) → AreOnPage pages page bytes all
    → page_flaw pages.version (binding_on pages page) pages.bound (words_on pages page) (place_of pages page) bytes ≡ flaw_on pages all page
flaw-on_page pages page bytes all are =
    let n = words_on pages page in
    let at = place_of pages page in
    sym (page_flaw-take pages.version (binding_on pages page) pages.bound n at bytes) ∙ ap (page_flaw pages.version (binding_on pages page) pages.bound n at) are
    ∙ page_flaw-take pages.version (binding_on pages page) pages.bound n at (drop (page * whole_page pages) all)

pub words-on_page : (pages : Pages) (page : ℕ) (bytes all : List ℕ) → AreOnPage pages page bytes all → words_in_bytes pages.version (words_on pages page) bytes ≡ page_words pages all page
words-on_page pages page bytes all are =
    let n = words_on pages page in
    sym (words_of-take pages.version n (size_on pages page) bytes (omega arith)) ∙ ap (words_in_bytes pages.version n) are
    ∙ words_of-take pages.version n (size_on pages page) (drop (page * whole_page pages) all) (omega arith)

-- what was written over a whole list
pub written : {A : Type 0} (len : ℕ) (new items : List A) → len ≡ length new → take len (new ++ drop (length new) items) ≡ new
written len new items is = ap (λ n. take n (new ++ drop (length new) items)) is ∙ take-append_seam new (drop (length new) items)

-- a page's flaw, as it was looked for
looked_for : (pages : Pages) (page n at : ℕ) (binding bytes all : List ℕ) → n ≡ words_on pages page → at ≡ place_of pages page → binding ≡ binding_on pages page → AreOnPage pages page bytes all
    → flaw_on pages all page ≡ page_flaw pages.version binding pages.bound n at bytes
looked_for pages page n at binding bytes all count place bound are =
    sym (flaw-on_page pages page bytes all are)
    ∙ ap₂ (λ (n : ℕ) (at : ℕ). page_flaw pages.version (binding_on pages page) pages.bound n at bytes) (sym count) (sym place)
    ∙ ap (λ (binding : List ℕ). page_flaw pages.version binding pages.bound n at bytes) (sym bound)

-- what was read where the page isn't right
pub page_wrong : (pages : Pages) (page n at : ℕ) (binding bytes all : List ℕ) (flaw : Flaw) (result : Result (Vec ℕ Global) PagesStop) → n ≡ words_on pages page → at ≡ place_of pages page → binding ≡ binding_on pages page
    → AreOnPage pages page bytes all → Some flaw ≡ page_flaw pages.version binding pages.bound n at bytes → IsErrAnd result (λ given. given ≡ BadPage flaw) → AnswersOn pages page all result
page_wrong pages page n at binding bytes all flaw (Ok words) count place bound are told wrong = absurd wrong
page_wrong pages page n at binding bytes all flaw (Err given) count place bound are told same =
    subst (λ (given : PagesStop). AnswersOn pages page all (Err given)) (sym same) (looked_for pages page n at binding bytes all count place bound are ∙ sym told)

-- and where it is right
pub page_right : (pages : Pages) (page n at len : ℕ) (binding bytes all cells items : List ℕ) → n ≡ words_on pages page → at ≡ place_of pages page → binding ≡ binding_on pages page → len ≡ length items → length items ≡ n
    → AreOnPage pages page bytes all → None ≡ page_flaw pages.version binding pages.bound n at bytes → cells ≡ words_in_bytes pages.version n bytes
    → (flaw_on pages all page ≡ None) × (take len (cells ++ drop (length cells) items) ≡ page_words pages all page)
page_right pages page n at len binding bytes all cells items count place bound is many are told read =
    let whole : len ≡ length cells = is ∙ many ∙ sym (length-words_of pages.version n bytes) ∙ sym (ap (λ (words : List ℕ). length words) read) in (
      looked_for pages page n at binding bytes all count place bound are ∙ sym told,
      written len cells items whole ∙ read ∙ ap (λ n. words_in_bytes pages.version n bytes) count ∙ words-on_page pages page bytes all are,
    )

-- ---- a page of a batch

-- a batch ends behind each of its pages
pub page_inside : (pages : Pages) (batch : Batch) (number : ℕ) → number < batch.past - batch.first → number * whole_page pages + size_on pages (batch.first + number) ≤ batch_size pages batch
page_inside pages batch number here = by_place (cases_lt (number + 1) (batch.past - batch.first))
  where
    last : (first past : ℕ) → number < past - first → past - first ≤ number + 1 → (past - 1 - first ≡ number) × (past - 1 ≡ first + number)
    last first past inside le = (omega (arith, inside, le), omega (arith, inside, le))

    by_place : (number + 1 < batch.past - batch.first) ⊎ (batch.past - batch.first ≤ number + 1) → number * whole_page pages + size_on pages (batch.first + number) ≤ batch_size pages batch
    by_place (inl before) =
        let fits = page_fits pages (batch.first + number) in
        let le : suc number ≤ batch.past - 1 - batch.first = omega (arith, before) in
        let up = mul-le-mul_right (whole_page pages) le in
        omega (arith, up, fits, suc-mul number (whole_page pages))
    by_place (inr le) =
        let is = last batch.first batch.past here le in
        let same = ap₂ (λ (k page : ℕ). k * whole_page pages + size_on pages page) is.0 is.1 in
        omega (arith, same)

-- what is left of a list behind what was given up
drop-min : (k : ℕ) (bytes : List ℕ) → drop (min k (length bytes)) bytes ≡ drop k bytes
drop-min k bytes = by_length (cases_lt k (length bytes))
  where
    empty : (one other : List ℕ) → length one ≡ 0 → length other ≡ 0 → one ≡ other
    empty [] [] none also = refl
    empty [] (x ∷ xs) none also = absurd (omega (arith, also))
    empty (x ∷ xs) other none also = absurd (omega (arith, none))

    by_length : (k < length bytes) ⊎ (length bytes ≤ k) → drop (min k (length bytes)) bytes ≡ drop k bytes
    by_length (inl short) = ap (λ k. drop k bytes) (omega (arith, short))
    by_length (inr long) = empty (drop (min k (length bytes)) bytes) (drop k bytes) (omega (arith, long, length-drop (min k (length bytes)) bytes)) (omega (arith, long, length-drop k bytes))

pub on_page : (pages : Pages) (batch : Batch) (number from : ℕ) (bytes all : List ℕ) → number < batch.past - batch.first → from ≡ min (number * whole_page pages) (length bytes)
    → IsBatch pages batch bytes all → AreOnPage pages (batch.first + number) (drop from bytes) all
on_page pages batch number from bytes all here is are =
    let whole = whole_page pages in
    let size = batch_size pages batch in
    let on = size_on pages (batch.first + number) in
    let start = number * whole in
    let inside = page_inside pages batch number here in
    let there : List ℕ = drop (batch.first * whole) all in
    let left = size - start in
    let split : size ≡ start + left = omega (arith, inside) in
    let few : on ≤ left = omega (arith, inside) in
    let place : batch.first * whole + start ≡ (batch.first + number) * whole = sym (add-mul batch.first number whole) in
    ap (λ k. take on (drop k bytes)) is ∙ ap (take on) (drop-min start bytes) ∙ ap (λ (bytes : List ℕ). take on (drop start bytes)) (are ∙ ap (λ k. take k there) split)
    ∙ ap (take on) (drop-take start left there) ∙ take-take on left (drop start there) few ∙ ap (take on) (drop-drop start (batch.first * whole) all ∙ ap (λ k. drop k all) place)

-- ---- the bytes of a batch

-- those that were read behind the pages before
pub is_part : (pages : Pages) (batch : Batch) (before part : List ℕ) → length before ≡ batch.first * whole_page pages → length part ≤ batch_size pages batch → IsBatch pages batch part (before ++ part)
is_part pages batch before part long few =
    sym (ap (take (batch_size pages batch)) (ap (λ k. drop k (before ++ part)) (sym long) ∙ drop-append_seam before part) ∙ take_all (batch_size pages batch) part few)

-- those of a file
pub is_read : (pages : Pages) (batch : Batch) (at count : ℕ) (file : Option (List ℕ)) (old new : List ℕ) → at ≡ place_of pages batch.first → length old ≡ batch_size pages batch
    → Fills file at old new count → IsBatch pages batch (take count new) (bytes_from pages.at file)
is_read pages batch at count file old new place room fills =
    let size = batch_size pages batch in
    fills.front ∙ ap (λ k. take k (bytes_from at file)) (fills.count_is ∙ ap (λ k. min k (length (bytes_from at file))) room) ∙ take_min size (bytes_from at file)
    ∙ ap (take size) (ap (λ at. bytes_from at file) place ∙ bytes_behind pages.at (batch.first * whole_page pages) file)

-- ---- the pages of a batch, in order

module _ (pages : Pages) (batch : Batch) (all old : List ℕ) (read : List (Result (Vec ℕ Global) PagesStop)) (stands : HasComeTo pages batch all old read) where
  -- what comes of a page
  told : (number : ℕ) (result : Result (Vec ℕ Global) PagesStop) → number < length read → slice_index_or read number (Err NoMemory) ≡ result → AnswersOn pages (batch.first + number) all result
  told number result here same = subst (AnswersOn pages (batch.first + number) all) same (stands.each number (omega (arith, here, stands.many)))

  -- one more is added
  pub one_added : (number : ℕ) (words : Vec ℕ Global) (list new : List ℕ) → number < length read → slice_index_or read number (Err NoMemory) ≡ Ok words
      → AreRead pages all (batch.first + number) list → new ≡ list ++ words.items → AreRead pages all (batch.first + (number + 1)) new
  one_added number words list new here same added next =
      let page = told number (Ok words) here same in
      one_more pages (batch.first + number) (batch.first + (number + 1)) all list new (omega arith) added (page.0, next ∙ ap (λ (words : List ℕ). list ++ words) page.1)

  -- one stops it
  pub stopped : (number : ℕ) (stop : PagesStop) (list : List ℕ) → number < length read → slice_index_or read number (Err NoMemory) ≡ Err stop
      → AreRead pages all (batch.first + number) list → AddsUpTo {T = Vec ℕ Global} pages batch.past all ⊥ (λ words. words.items) (Err stop)
  stopped number stop list here same added = by_stop stop (told number (Err stop) here same) (stands.faultless number (omega (arith, here, stands.many))) same
    where
      inside : batch.first + number < page_count pages
      inside = omega (arith, here, stands.many, stands.there)

      by_stop : (stop : PagesStop) → AnswersOn pages (batch.first + number) all (Err stop) → (slice_index_or read number (Err NoMemory) ≡ Err ReadFault → ⊥)
          → slice_index_or read number (Err NoMemory) ≡ Err stop → AddsUpTo {T = Vec ℕ Global} pages batch.past all ⊥ (λ words. words.items) (Err stop)
      by_stop (BadPage flaw) page never is = flaw-is pages all list (batch.first + number) flaw inside added page
      by_stop ReadFault page never is = never is
      by_stop NoMemory page never is = tt

-- ---- batch after batch

-- a batch is no longer than so many whole pages
pub batch_fits : (pages : Pages) (batch : Batch) → batch.first < batch.past → batch_size pages batch ≤ (batch.past - batch.first) * whole_page pages
batch_fits pages batch rises =
    let one : batch.past - batch.first ≡ suc (batch.past - 1 - batch.first) = omega (arith, rises) in
    let all : (batch.past - batch.first) * whole_page pages ≡ (batch.past - 1 - batch.first) * whole_page pages + whole_page pages = ap (λ k. k * whole_page pages) one ∙ suc-mul (batch.past - 1 - batch.first) (whole_page pages) in
    omega (arith, all, page_fits pages (batch.past - 1))

-- room for so many whole pages has room for a batch of no more
pub has_room : (pages : Pages) (batch : Batch) (most room : ℕ) → batch.first < batch.past → batch.past ≤ batch.first + most → room ≡ most * whole_page pages → batch_size pages batch ≤ room
has_room pages batch most room rises few is =
    let le : batch.past - batch.first ≤ most = omega (arith, few) in
    let up = mul-le-mul_right (whole_page pages) le in
    omega (arith, up, is, batch_fits pages batch rises)

-- pages that are right and have others behind them are there whole
pub long_after : (pages : Pages) (past : ℕ) (all words : List ℕ) → 0 < pages.size → length all ≤ past * whole_page pages → AreRead pages all past words → past < page_count pages → length all ≡ past * whole_page pages
long_after pages zero all words some few read more = omega (arith, few)
long_after pages (suc page) all words some few read more =
    let whole = whole_page pages in
    let there : List ℕ = drop (page * whole) all in
    let last : flaw_on pages all page ≡ None = (none_or (first_flaw pages all page) (flaw_on pages all page) read.right).1 in
    let ends = leb-true (size_on pages page) (length there) (is_well _ _ _ (none_or _ _ last).0) in
    let full : size_on pages page ≡ whole = ap (page_size pages.version) (is_whole pages page some more) in
    omega (arith, few, ends, full, suc-mul page whole, length-drop (page * whole) all)

-- before the first batch nothing is read
pub stands_first : (pages : Pages) (all words : List ℕ) (read : List (Result (Vec ℕ Global) PagesStop)) → words ≡ [] → read ≡ [] → HasComeTo pages (record { first = 0; past = 0 }) all words read
stands_first pages all words read none no_page = record {
  rises = omega arith;
  there = omega arith;
  many = ap (λ (read : List (Result (Vec ℕ Global) PagesStop)). length read) no_page;
  before = record { right = refl; words = none };
  each = λ number here. absurd (omega (arith, here));
  faultless = λ number here. absurd (omega (arith, here));
}

-- what comes of a batch stands behind the pages before
pub stands_next : (pages : Pages) (batch : Batch) (bytes all words : List ℕ) (read : List (Result (Vec ℕ Global) PagesStop)) → AnswersEach pages batch bytes read → IsBatch pages batch bytes all
    → AreRead pages all batch.first words → HasComeTo pages batch all words read
stands_next pages batch bytes all words read answers is before = record {
  rises = omega (arith, answers.some);
  there = answers.there;
  many = answers.many;
  before = before;
  each = λ number here. answers.each number here all is;
  faultless = answers.faultless;
}

-- so it does for some bytes, which are no longer than these pages
abbrev pub Reaches : Pages → Batch → List ℕ → List (Result (Vec ℕ Global) PagesStop) → Type 0
Reaches pages batch words read = (all : List ℕ) × (length all ≤ batch.past * whole_page pages) × HasComeTo pages batch all words read

pub reaches_next : (pages : Pages) (batch : Batch) (told : Bool) (file : Option (List ℕ)) (all words : List ℕ) (read : List (Result (Vec ℕ Global) PagesStop)) → 0 < pages.size
    → length all ≤ batch.first * whole_page pages → AreRead pages all batch.first words → HasReadBatch pages batch told file read → Reaches pages batch words read
reaches_next pages batch told file all words read some few before has =
    let bytes = has.bytes in
    let whole = whole_page pages in
    let rises = has.answers.some in
    let long = long_after pages batch.first all words some few before (omega (arith, rises, has.answers.there)) in
    let fits = batch_fits pages batch rises in
    let sum : batch.past * whole ≡ batch.first * whole + (batch.past - batch.first) * whole = ap (λ k. k * whole) (omega (arith, rises)) ∙ add-mul batch.first (batch.past - batch.first) whole in (
      all ++ bytes,
      omega (arith, long, has.has.few, fits, sum, length-append all bytes),
      stands_next pages batch bytes (all ++ bytes) words read has.answers (is_part pages batch all bytes long has.has.few) (read-front pages batch.first all bytes words long before),
    )

-- where a batch stops the reading, all pages are answered
pub answers_stop : (T : Type 0) (pages : Pages) (past : ℕ) (all : List ℕ) (fault : Type 0) (words_of : T → List ℕ) (stop : PagesStop) → AddsUpTo pages past all fault words_of (Err stop)
    → AnswersPages pages all (Err stop)
answers_stop T pages past all fault words_of (BadPage flaw) told = told
answers_stop T pages past all fault words_of ReadFault told = tt
answers_stop T pages past all fault words_of NoMemory told = tt

-- so they are where the words of all were added
pub answers_all : (pages : Pages) (past : ℕ) (all : List ℕ) (result : Result (Vec ℕ Global) PagesStop) → past ≡ page_count pages → AddsUpTo pages past all ⊥ (λ (words : Vec ℕ Global). words.items) result
    → AnswersPages pages all result
answers_all pages past all (Ok words) is read = (ap (first_flaw pages all) (sym is) ∙ read.right, read.words ∙ ap (first_words pages all) is)
answers_all pages past all (Err stop) is told = answers_stop (Vec ℕ Global) pages past all ⊥ (λ words. words.items) stop told

-- a fault of the files says what it is said to
pub fault_says : (T : Type 0) (pages : Pages) (past : ℕ) (all : List ℕ) (fault : Type 0) (words_of : T → List ℕ) (result : Result T PagesStop) → AddsUpTo pages past all fault words_of result
    → result ≡ Err ReadFault → fault
fault_says T pages past all fault words_of result told is = subst (AddsUpTo pages past all fault words_of) is told

-- what stops the adding stops what goes on with it
pub stop_told : (T U : Type 0) (pages : Pages) (past : ℕ) (all : List ℕ) (fault : Type 0) (words_of : T → List ℕ) (also_of : U → List ℕ) (stop : PagesStop)
    → AddsUpTo pages past all ⊥ words_of (Err stop) → AddsUpTo pages past all fault also_of (Err stop)
stop_told T U pages past all fault words_of also_of (BadPage flaw) told = told
stop_told T U pages past all fault words_of also_of ReadFault told = absurd told
stop_told T U pages past all fault words_of also_of NoMemory told = tt
