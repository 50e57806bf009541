-- Pages that are read together and looked at by workers, a page each.
use Rattle.std.specs.Prelude.{◌≡◌, ◌≤◌, ◌<◌, ◌+◌, ◌-◌, ◌*◌, ℕ, Bool, IsTrue, Option, List, take, drop, length, slice_index_or, None, Some, Result, Ok, Err, Vec, ⊤}
use Rattle.std.specs.Global.{Global}
use Rattle.outside_log.specs.Files.{bytes_from}
use Rattle.word_pages.specs.Pages.{page_size}
use Rattle.database_file.specs.declared.batch.Batch.{Batch}
use Rattle.database_file.specs.declared.pages.Pages.{Pages}
use Rattle.database_file.specs.declared.pages.PagesStop.{PagesStop}
use Rattle.database_file.specs.declared.pages.PagesStop.TheVariants.{ReadFault, BadPage, NoMemory}
use Rattle.database_file.specs.Pages.{ArePages, first_flaw, first_words, flaw_in, flaw_on, page_count, page_words, whole_page, words_on}

-- how many bytes a page has
abbrev pub size_on : Pages → ℕ → ℕ
size_on pages page = page_size pages.version (words_on pages page)

-- how many bytes a batch has: all its pages are whole ones but perhaps the last
abbrev pub batch_size : Pages → Batch → ℕ
batch_size pages batch =
    (batch.past - 1 - batch.first) * whole_page pages + size_on pages (batch.past - 1)

-- these begin with what there is of a page, where `all` are the bytes of all pages
abbrev pub AreOnPage : Pages → ℕ → List ℕ → List ℕ → Type 0
AreOnPage pages page bytes all =
    take (size_on pages page) bytes ≡ take (size_on pages page) (drop (page * whole_page pages) all)

-- these are what there is of a batch
abbrev pub IsBatch : Pages → Batch → List ℕ → List ℕ → Type 0
IsBatch pages batch bytes all =
    bytes ≡ take (batch_size pages batch) (drop (batch.first * whole_page pages) all)

-- a page has no flaw and these are its words, or this is its first flaw; memory may be refused
abbrev pub AnswersOn : Pages → ℕ → List ℕ → Result (Vec ℕ Global) PagesStop → Type 0
AnswersOn pages page all (Ok words) =
    (flaw_on pages all page ≡ None) × (words.items ≡ page_words pages all page)
AnswersOn pages page all (Err (BadPage flaw)) = flaw_on pages all page ≡ Some flaw
AnswersOn pages page all (Err _) = ⊤

-- so it is for each page of a batch, and none is a fault of the files
pub record AnswersEach (pages : Pages) (batch : Batch) (bytes : List ℕ)
    (read : List (Result (Vec ℕ Global) PagesStop)) : Type 0 where
  pub some : batch.first < batch.past
  pub there : batch.past ≤ page_count pages
  pub many : length read ≡ batch.past - batch.first
  pub each :
      (number : ℕ) → number < batch.past - batch.first → (all : List ℕ)
      → IsBatch pages batch bytes all
      → AnswersOn pages (batch.first + number) all (slice_index_or read number (Err NoMemory))
  pub faultless : (number : ℕ) → number < batch.past - batch.first
      → slice_index_or read number (Err NoMemory) ≡ Err ReadFault → ⊥

-- workers can look at the pages of a batch whose bytes these are, and have room for what comes of each
pub record CanBeLookedAt (pages : Pages) (batch : Batch) (bytes : List ℕ)
    (room : List (Result (Vec ℕ Global) PagesStop)) : Type 0 where
  pub pages_are : ArePages pages
  pub some : batch.first < batch.past
  pub there : batch.past ≤ page_count pages
  pub few : length bytes ≤ batch_size pages batch
  pub enough : length room ≡ batch.past - batch.first

-- these bytes of a batch were read, and are what there is of it where all answers were faithful
pub record HasBytes (pages : Pages) (batch : Batch) (told : Bool) (file : Option (List ℕ))
    (bytes : List ℕ) : Type 0 where
  pub few : length bytes ≤ batch_size pages batch
  pub is_batch : IsTrue told → IsBatch pages batch bytes (bytes_from pages.at file)

-- a batch of a file was read, and these come of its pages
pub record HasReadBatch (pages : Pages) (batch : Batch) (told : Bool) (file : Option (List ℕ))
    (read : List (Result (Vec ℕ Global) PagesStop)) : Type 0 where
  pub bytes : List ℕ
  pub has : HasBytes pages batch told file bytes
  pub answers : AnswersEach pages batch bytes read

-- the first n pages have no flaw, and these are their words
pub record AreRead (pages : Pages) (bytes : List ℕ) (n : ℕ) (list : List ℕ) : Type 0 where
  pub right : first_flaw pages bytes n ≡ None
  pub words : list ≡ first_words pages bytes n

-- the pages before a batch are read, and these come of its own pages, where `all` are the bytes of all pages
pub record HasComeTo (pages : Pages) (batch : Batch) (all words : List ℕ)
    (read : List (Result (Vec ℕ Global) PagesStop)) : Type 0 where
  pub rises : batch.first ≤ batch.past
  pub there : batch.past ≤ page_count pages
  pub many : length read ≡ batch.past - batch.first
  pub before : AreRead pages all batch.first words
  pub each : (number : ℕ) → number < batch.past - batch.first
      → AnswersOn pages (batch.first + number) all (slice_index_or read number (Err NoMemory))
  pub faultless : (number : ℕ) → number < batch.past - batch.first
      → slice_index_or read number (Err NoMemory) ≡ Err ReadFault → ⊥

-- The words of the pages before the one with this number were added to what was read, or this is the first flaw of all pages. A fault of the
-- files says `fault`.
abbrev pub AddsUpTo : {T : Type 0} → Pages → ℕ → List ℕ → Type 0 → (T → List ℕ)
    → Result T PagesStop → Type 0
AddsUpTo pages past all fault words_of (Ok x) = AreRead pages all past (words_of x)
AddsUpTo pages past all fault words_of (Err (BadPage flaw)) = flaw_in pages all ≡ Some flaw
AddsUpTo pages past all fault words_of (Err ReadFault) = fault
AddsUpTo pages past all fault words_of (Err NoMemory) = ⊤
