-- What is wrong with pairs and with pages, and at which place of the file. Words come in pairs, the lower one first.
use Rattle.std.specs.Prelude.{ℕ, ◌+◌, ◌*◌, ◌^◌, ◌<◌, ◌&&◌, Bool, not, if◌then◌else◌, nat_lt, int_le, ℤ, pos, neg_ℤ, ◌-ℤ◌, List, [], ◌∷◌, length, slice_index, Option, Some, None}
use Rattle.std.specs.Option.{option_or}
use Rattle.directed_fixed.specs.Bounds.{Bounds, IsWithin}
use Rattle.hyper_outside.specs.declared.outside.PageFault.{PageFault}
use Rattle.hyper_outside.specs.declared.outside.PageFault.TheVariants.{Word, Crossed}
use Rattle.word_pages.specs.declared.version.Version.{Version}
use Rattle.word_pages.specs.declared.flaws.Flaw.{Flaw}
use Rattle.word_pages.specs.Words.{word_size}

-- the value that a word stands for
abbrev pub unpacked : ℕ → ℤ
unpacked word = pos word -ℤ pos (2 ^ 36)

-- the word's value lies within the bound on both sides of 0
abbrev pub is_in_range : ℤ → ℕ → Bool
is_in_range bound word = int_le (neg_ℤ bound) (unpacked word) && int_le (unpacked word) bound

-- nothing where all is well, else this fault here
abbrev pub flaw_unless : Bool → PageFault → ℕ → Option Flaw
flaw_unless well fault at = if well then None else Some (record { fault = fault; at = at })

-- the first flaw of a pair that stands at this place of the file
abbrev pub pair_flaw : Version → ℤ → ℕ → ℕ → ℕ → Option Flaw
pair_flaw version bound at lower upper =
    option_or (flaw_unless (is_in_range bound lower) Word at)
    (option_or (flaw_unless (is_in_range bound upper) Word (at + word_size version))
    (flaw_unless (not (nat_lt upper lower)) Crossed at))

-- the first flaw of pairs, the first of which stands at this place
abbrev pub pairs_flaw : Version → ℤ → ℕ → List ℕ → Option Flaw
pairs_flaw version bound at [] = None
pairs_flaw version bound at (word ∷ []) = None
pairs_flaw version bound at (lower ∷ upper ∷ words) = option_or
    (pair_flaw version bound at lower upper)
    (pairs_flaw version bound (at + 2 * word_size version) words)

-- the pair with this number, counted from 0
abbrev pub pair_in_words : List ℕ → ℕ → Bounds
pair_in_words words k = record {
  lower = unpacked (slice_index words (2 * k));
  upper = unpacked (slice_index words (2 * k + 1));
}

-- each pair lies within the bound, the lower word at most the upper one
abbrev pub LieWithin : ℤ → List ℕ → Type 0
LieWithin bound words = (k : ℕ) → 2 * k + 1 < length words → IsWithin bound (pair_in_words words k)
