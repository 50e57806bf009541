-- Pages that are made together before they are appended.
use Rattle.std.specs.Prelude.{◌≡◌, ◌<◌, ◌+◌, ◌*◌, ℕ, List, take, drop, length, slice_index_or}
use Rattle.arrayvec.specs.ArrayVec.{ArrayVec}
use Rattle.word_pages.specs.declared.version.Version.{Version}
use Rattle.word_pages.specs.Sealed.{binding_of}
use Rattle.word_pages.specs.Pages.{page_text}

-- the words of a page
abbrev pub on_page_of : ℕ → List ℕ → ℕ → List ℕ
on_page_of size words page = take size (drop (page * size) words)

-- these are pages that follow one another, the first of which has this number
abbrev pub ArePageTexts : Version → List ℕ → ℕ → List ℕ → ℕ → List (ArrayVec ℕ) → Type 0
ArePageTexts version digest size words first texts =
    (number : ℕ) (other : ArrayVec ℕ) → number < length texts
    → (slice_index_or texts number other).items
    ≡ page_text version (binding_of version digest (first + number))
    (on_page_of size words (first + number))
