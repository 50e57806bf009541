-- Pages of words that follow one another in a file.
use Rattle.std.specs.Prelude.{◌≡◌, ◌<◌, ℕ, zero, suc, ◌+◌, ◌-◌, ◌*◌, ◌/◌, ◌^◌, min, pos, ◌≤ℤ◌, List, [], ◌++◌, drop, Option, None, Some, Result, Ok, Err, Vec, ⊤}
use Rattle.std.specs.Global.{Global}
use Rattle.std.specs.Option.{option_or}
use Rattle.word_pages.specs.declared.flaws.Flaw.{Flaw}
use Rattle.word_pages.specs.Words.{words_in_bytes}
use Rattle.word_pages.specs.Sealed.{binding_of}
use Rattle.word_pages.specs.Pages.{page_size, page_flaw, pages_in}
use Rattle.database_file.specs.declared.pages.Pages.{Pages}
use Rattle.database_file.specs.declared.pages.PagesStop.{PagesStop}
use Rattle.database_file.specs.declared.pages.PagesStop.TheVariants.{BadPage}

-- how many pages there are
abbrev pub page_count : Pages → ℕ
page_count pages = pages_in pages.size pages.count

-- how many batches of 256 the pages make at most; 65,536 stands for all above
abbrev pub most_batches : Pages → ℕ
most_batches pages = min (page_count pages / 256) 65535 + 1

-- how many bytes a page has that isn't shorter than others
abbrev pub whole_page : Pages → ℕ
whole_page pages = page_size pages.version pages.size

-- how many words the page with this number has, counted from 0
abbrev pub words_on : Pages → ℕ → ℕ
words_on pages page = min pages.size (pages.count - page * pages.size)

-- at which place of the file it begins
abbrev pub place_of : Pages → ℕ → ℕ
place_of pages page = pages.at + page * whole_page pages

-- its words, where these are the bytes of the pages
abbrev pub page_words : Pages → List ℕ → ℕ → List ℕ
page_words pages bytes page =
    words_in_bytes pages.version (words_on pages page) (drop (page * whole_page pages) bytes)

-- what it is bound to
abbrev pub binding_on : Pages → ℕ → List ℕ
binding_on pages page = binding_of pages.version pages.digest page

-- its first flaw
abbrev pub flaw_on : Pages → List ℕ → ℕ → Option Flaw
flaw_on pages bytes page = page_flaw pages.version (binding_on pages page) pages.bound
    (words_on pages page) (place_of pages page) (drop (page * whole_page pages) bytes)

-- the words of the first n pages
abbrev pub first_words : Pages → List ℕ → ℕ → List ℕ
first_words pages bytes zero = []
first_words pages bytes (suc n) = first_words pages bytes n ++ page_words pages bytes n

-- the first flaw of these
abbrev pub first_flaw : Pages → List ℕ → ℕ → Option Flaw
first_flaw pages bytes zero = None
first_flaw pages bytes (suc n) = option_or (first_flaw pages bytes n) (flaw_on pages bytes n)

-- the words of all pages, and their first flaw
abbrev pub words_listed : Pages → List ℕ → List ℕ
words_listed pages bytes = first_words pages bytes (page_count pages)

abbrev pub flaw_in : Pages → List ℕ → Option Flaw
flaw_in pages bytes = first_flaw pages bytes (page_count pages)

-- pages have words, within a bound that words can have, and end where a place still can be told
pub record ArePages (pages : Pages) : Type 0 where
  pub some : 0 < pages.size
  pub few : pages.size < 2 ^ 32
  pub from : pos 0 ≤ℤ pages.bound
  pub to : pages.bound ≤ℤ pos (2 ^ 36)
  pub words : pages.count < 2 ^ 60
  pub places : place_of pages (page_count pages) < 2 ^ 63

-- where these are the bytes of the pages, these are their words and they have no flaw, or this is their first flaw
abbrev pub AnswersPages : Pages → List ℕ → Result (Vec ℕ Global) PagesStop → Type 0
AnswersPages pages bytes (Ok words) =
    (flaw_in pages bytes ≡ None) × (words.items ≡ words_listed pages bytes)
AnswersPages pages bytes (Err (BadPage flaw)) = flaw_in pages bytes ≡ Some flaw
AnswersPages pages bytes (Err _) = ⊤
