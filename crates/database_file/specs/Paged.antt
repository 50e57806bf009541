-- Words that are looked up in a file page by page.
use Rattle.std.specs.Prelude.{◌≡◌, ◌<◌, ◌⊎◌, ℕ, ◌*◌, ◌+◌, ◌/◌, ◌%◌, ℤ, neg_ℤ, Bool, false, IsTrue, List, length, take, slice_index, slice_index_or, Contains, Option, None, Some, Result, Ok, Err, Vec, ⊤}
use Rattle.std.specs.Global.{Global}
use Rattle.std.specs.Option.{option_map}
use Rattle.std.specs.Borrow.{GName}
use Rattle.position_rank.specs.Placement.{Placement}
use Rattle.position_rank.specs.LiveRanks.{live_rank_of}
use Rattle.directed_fixed.specs.declared.bounds.End.{End}
use Rattle.directed_fixed.specs.declared.bounds.End.TheVariants.{Lower, Upper}
use Rattle.cube_actions.specs.Stakes.{bound_of}
use Rattle.outside_log.specs.Files.{Contents, bytes_from}
use Rattle.outside_log.specs.Log.{Event, standing}
use Rattle.outside_log.specs.Readings.{is_faithful}
use Rattle.hyper_outside.specs.declared.outside.LookStop.{LookStop}
use Rattle.hyper_outside.specs.declared.outside.LookStop.TheVariants as looks
use Rattle.turn_rule.specs.Turn.{Words}
use Rattle.turn_rule.specs.Looks.{AreStakesOf, Damage, Notes, Source, all_told}
use Rattle.word_pages.specs.declared.flaws.Flaw.{Flaw}
use Rattle.word_pages.specs.Flaws.{LieWithin, unpacked}
use Rattle.interval_words.specs.Numbers.{word_of}
use Rattle.base_head.specs.Heads.{FileHead, stakes_of}
use Rattle.base_head.specs.Headers.{IsHeader, digest_place, front_length}
use Rattle.base_head.specs.declared.header.Header.{Header}
use Rattle.database_file.specs.declared.kept.Spot.{Spot}
use Rattle.database_file.specs.declared.pages.Pages.{Pages}
use Rattle.database_file.specs.declared.pages.PagesStop.{PagesStop}
use Rattle.database_file.specs.declared.pages.PagesStop.TheVariants.{BadPage, NoMemory}
use Rattle.database_file.specs.Pages.{flaw_on, page_words, words_on}
use Rattle.database_file.specs.Faults.{pages_behind}
use Rattle.database_file.specs.PagedFiles.{PagedFile}

-- the page on which the words of a position stand
abbrev pub page_of : Placement → ℕ
page_of p = live_rank_of p / 1024

-- the number of a state on its page, in a game of so many kinds
abbrev pub state_on_page : ℕ → Placement → ℕ → ℕ
state_on_page kinds p k = live_rank_of p % 1024 * kinds + k

-- the bytes of the pages of a file with this header
abbrev pub page_bytes : Header → Option (List ℕ) → List ℕ
page_bytes header file = bytes_from (front_length header) file

-- the digest of its head, and the pages that are bound to it
abbrev pub digest_told : Header → Option (List ℕ) → List ℕ
digest_told header file = take 32 (bytes_from (digest_place header) file)

abbrev pub pages_told : Header → Option (List ℕ) → Pages
pages_told header file = pages_behind header (digest_told header file)

-- the first flaw of a position's page
abbrev pub flaw_at : Header → Option (List ℕ) → Placement → Option Flaw
flaw_at header file p = flaw_on (pages_told header file) (page_bytes header file) (page_of p)

-- the word of a state that its page has
abbrev pub word_at : Header → Option (List ℕ) → Words
word_at header file end p k =
    unpacked (slice_index (page_words (pages_told header file) (page_bytes header file) (page_of p))
    (word_of end (state_on_page header.kinds p k)))

-- what the bound alone tells
abbrev pub bound_end : ℤ → End → ℤ
bound_end bound Lower = neg_ℤ bound
bound_end bound Upper = bound

-- what a page without a flaw tells, and otherwise what the bound alone does
abbrev pub told_unless : Option Flaw → ℤ → ℤ → ℤ
told_unless None word opening = word
told_unless (Some flaw) word opening = opening

-- the words of the file on every page that is right, and the opening pair on the others
abbrev pub told_words : Header → Option (List ℕ) → Words
told_words header file end p k =
    told_unless (flaw_at header file p) (word_at header file end p k)
    (bound_end (bound_of header.name) end)

-- notes of these words, and all is told
abbrev pub told_notes : Header → Option (List ℕ) → Notes
told_notes header file = all_told (told_words header file)

abbrev pub damage_of : Flaw → Damage
damage_of flaw = record { fault = flaw.fault; at = flaw.at }

-- Where the words of a file with this header are looked up: a state is damaged where its page has a flaw, by the first one.
abbrev pub paged_source : Header → Option (List ℕ) → Source
paged_source header file = record {
  checkers = header.checkers;
  kinds = header.kinds;
  bound = bound_of header.name;
  sure = false;
  floor = told_words header file;
  damage = λ p k. option_map damage_of (flaw_at header file p);
}

-- words of the head's game are looked up there
pub record IsSourceOfHead (source : Source) (head : FileHead) : Type 0 where
  pub checkers : source.checkers ≡ head.checkers
  pub stakes : AreStakesOf source (stakes_of head)

-- as many words as the page with this number has, in pairs within the bound, the lower word at most the upper one
pub record IsPage (pages : Pages) (page : ℕ) (words : List ℕ) : Type 0 where
  pub long : length words ≡ words_on pages page
  pub within : LieWithin pages.bound words

-- where these are the bytes of the pages, the page has no flaw, and these are its words
pub record IsPageOf (pages : Pages) (bytes : List ℕ) (page : ℕ) (words : List ℕ) : Type 0 where
  pub right : flaw_on pages bytes page ≡ None
  pub holds : words ≡ page_words pages bytes page

-- pages that are kept, each by its number
abbrev pub Kept : Type 0
Kept = List (ℕ × Vec ℕ Global)

abbrev pub ArePagesKept : Pages → Kept → Type 0
ArePagesKept pages kept =
    (page : ℕ × Vec ℕ Global) → Contains kept page → IsPage pages page.0 page.1.items

-- a header and the head that it begins, a digest, an index of the positions of so many checkers, and
-- kept pages
pub record IsPagedFile (header : Header) (head : FileHead) (digest : List ℕ) (index : ℕ)
    (kept : Kept) : Type 0 where
  pub valid : IsHeader header
  pub checkers : head.checkers ≡ header.checkers
  pub name : head.name ≡ header.name
  pub rounds : head.rounds ≡ header.rounds
  pub indexed : index ≡ header.checkers
  pub right : ArePagesKept (pages_behind header digest) kept

-- what is kept further was kept before, or it is the words that come of one of the pages from this one on
abbrev pub KeepsRead : ℕ → List (Result (Vec ℕ Global) PagesStop) → Kept → Kept → Type 0
KeepsRead first read old new = (page : ℕ × Vec ℕ Global) → Contains new page
    → Contains old page
    ⊎ ((number : ℕ) × (number < length read) × (page.0 ≡ first + number)
    × (slice_index_or read number (Err NoMemory) ≡ Ok page.1))

-- where the file is told, each page that is kept is one of its right pages
abbrev pub AreOfFile : Pages → Bool → Option (List ℕ) → Kept → Type 0
AreOfFile pages told file kept =
    IsTrue told → (page : ℕ × Vec ℕ Global) → Contains kept page
    → IsPageOf pages (bytes_from pages.at file) page.0 page.1.items

-- what stands under the name has the digest that was read, and is what the kept pages are of, where
-- each call was answered what stood there
pub record KeepsPagesOf (base : PagedFile) (log : List Event) : Type 0 where
  pub digest : IsTrue (is_faithful log)
      → base.digest ≡ digest_told base.header (standing log base.name)
  pub pages : AreOfFile (pages_behind base.header base.digest) (is_faithful log)
      (standing log base.name) base.kept

-- where its words are looked up
abbrev pub paged_source_of : PagedFile → Contents → Source
paged_source_of base held = paged_source base.header (held base.name)

-- its words
abbrev pub words_of_pages : PagedFile → Contents → Words
words_of_pages base held = told_words base.header (held base.name)

-- these words, and whether they are told
abbrev pub notes_of : PagedFile → Bool → Contents → Notes
notes_of base told held = record { words = words_of_pages base held; told = told }

-- where these are the bytes of the pages, these are the words of one and it has no flaw, or this is its first flaw; a fault of the files or
-- of memory says nothing
abbrev pub AnswersOnePage : Pages → List ℕ → ℕ → Result (Vec ℕ Global) PagesStop → Type 0
AnswersOnePage pages bytes page (Ok words) = IsPageOf pages bytes page words.items
AnswersOnePage pages bytes page (Err (BadPage flaw)) = flaw_on pages bytes page ≡ Some flaw
AnswersOnePage pages bytes page (Err _) = ⊤

-- where these are the bytes of the pages, this is the word of the state on a page without a flaw, or this is the page's first flaw; a fault of
-- the files or of memory says nothing
abbrev pub AnswersWord : Pages → List ℕ → Spot → Result ℤ PagesStop → Type 0
AnswersWord pages bytes spot (Ok word) =
    (flaw_on pages bytes spot.page ≡ None)
    × (word ≡ unpacked (slice_index (page_words pages bytes spot.page)
    (word_of spot.end spot.state)))
AnswersWord pages bytes spot (Err (BadPage flaw)) = flaw_on pages bytes spot.page ≡ Some flaw
AnswersWord pages bytes spot (Err _) = ⊤

-- where a word of a state stands
abbrev pub spot_of : ℕ → Placement → ℕ → End → Spot
spot_of kinds p k end = record { page = page_of p; state = state_on_page kinds p k; end = end }

-- this is the file's word of a state on a page without a flaw, or this is the page's first flaw; a fault of the files or of memory says
-- nothing
abbrev pub AnswersLook : Header → Option (List ℕ) → End → Placement → ℕ → Result ℤ LookStop → Type 0
AnswersLook header file end p k (Ok word) =
    (flaw_at header file p ≡ None) × (word ≡ word_at header file end p k)
AnswersLook header file end p k (Err (looks.BadPage fault at)) =
    flaw_at header file p ≡ Some (record { fault = fault; at = at })
AnswersLook header file end p k (Err _) = ⊤

-- What no look-up changes: of the base all but the pages that are kept, what calls were made before the first look-up, and which base and which
-- files are lent.
pub record PagedStays : Type 0 where
  pub header : Header
  pub head : FileHead
  pub digest : List ℕ
  pub name : List ℕ
  pub most : ℕ
  pub from : List Event
  pub base : GName
  pub lent : GName
