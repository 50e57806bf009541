-- Pages: the bytes of words, followed by a digest of what the page is bound to and of them.
use Rattle.std.specs.Prelude.{ℕ, zero, suc, ◌+◌, ◌-◌, ◌*◌, ◌/◌, ◌<◌, nat_le, ℤ, List, [], ◌++◌, length, take, drop, slice_index, Option}
use Rattle.std.specs.Option.{option_or}
use Rattle.hyper_outside.specs.declared.outside.PageFault.TheVariants.{Short, PageDigest}
use Rattle.word_pages.specs.declared.version.Version.{Version}
use Rattle.word_pages.specs.declared.flaws.Flaw.{Flaw}
use Rattle.word_pages.specs.Words.{word_size, words_bytes, words_in_bytes}
use Rattle.word_pages.specs.Sealed.{sealed_under, is_sealed_under, binding_of}
use Rattle.word_pages.specs.Flaws.{flaw_unless, pairs_flaw}

-- each of these is a byte
abbrev pub AreBytes : List ℕ → Type 0
AreBytes bytes = (k : ℕ) → slice_index bytes k < 256

-- a page of words that is bound to these bytes
abbrev pub page_text : Version → List ℕ → List ℕ → List ℕ
page_text version binding words = sealed_under binding (words_bytes version words)

-- how many bytes a page of so many words has
abbrev pub page_size : Version → ℕ → ℕ
page_size version count = word_size version * count + 32

-- The first flaw of the page of so many words that is bound to these bytes and is to stand at this
-- place of the file, where `bytes` are those from there on. Those behind the page don't matter.
abbrev pub page_flaw : Version → List ℕ → ℤ → ℕ → ℕ → List ℕ → Option Flaw
page_flaw version binding bound count at bytes =
    option_or (flaw_unless (nat_le (page_size version count) (length bytes)) Short
    (at + length bytes))
    (option_or
    (flaw_unless (is_sealed_under binding (take (page_size version count) bytes)) PageDigest
    (at + word_size version * count))
    (pairs_flaw version bound at (words_in_bytes version count bytes)))

-- so many pages of `size` words each, one after the other, the last one shorter where the words
-- don't fill it; the first has this number, in a file whose head has this digest
abbrev pub first_pages : Version → List ℕ → ℕ → ℕ → ℕ → List ℕ → List ℕ
first_pages version digest size number zero words = []
first_pages version digest size number (suc n) words =
    page_text version (binding_of version digest number) (take size words)
    ++ first_pages version digest size (suc number) n (drop size words)

-- how many pages so many words take
abbrev pub pages_in : ℕ → ℕ → ℕ
pages_in size count = (count + (size - 1)) / size

-- words in pages of `size` words each, the first page with this number
abbrev pub pages_from : Version → List ℕ → ℕ → ℕ → List ℕ → List ℕ
pages_from version digest size number words =
    first_pages version digest size number (pages_in size (length words)) words

-- words in pages of `size` words each
abbrev pub pages_text : Version → List ℕ → ℕ → List ℕ → List ℕ
pages_text version digest size words = pages_from version digest size 0 words
