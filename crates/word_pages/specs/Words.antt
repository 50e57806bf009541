-- Words as bytes. Each takes as many bytes as the version of the file says, the highest first.
use Rattle.std.specs.Prelude.{ℕ, zero, suc, ◌^◌, ◌<◌, List, [], ◌∷◌, drop, flat_map}
use Rattle.byteorder.specs.Endian.{big_bytes, big_number}
use Rattle.word_pages.specs.declared.version.Version.{Version}
use Rattle.word_pages.specs.declared.version.Version.TheVariants.{One, Two, Three}

-- how many bytes a word takes
abbrev pub word_size : Version → ℕ
word_size One = 8
word_size Two = 5
word_size Three = 5

-- a word is low enough for them
abbrev pub Fits : Version → ℕ → Type 0
Fits version word = word < 256 ^ word_size version

-- the bytes of a word, and those of words, one after the other
abbrev pub word_text : Version → ℕ → List ℕ
word_text version word = big_bytes (word_size version) word

abbrev pub words_bytes : Version → List ℕ → List ℕ
words_bytes version words = flat_map (word_text version) words

-- the first n numbers of so many bytes each
abbrev pub numbers_of : ℕ → ℕ → List ℕ → List ℕ
numbers_of size zero bytes = []
numbers_of size (suc n) bytes = big_number size bytes ∷ numbers_of size n (drop size bytes)

-- the first n words that bytes hold
abbrev pub words_in_bytes : Version → ℕ → List ℕ → List ℕ
words_in_bytes version n bytes = numbers_of (word_size version) n bytes
