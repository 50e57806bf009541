-- The head's part of a file: the header, the starts, and the digest of both.
use Rattle.std.specs.Prelude.{ℕ, ◌*◌, ◌^◌, ℤ, pos, ◌+ℤ◌, nat_abs, List, [], ◌∷◌, ◌++◌, flat_map, take, drop, Option, Some, Result, if◌then◌else◌}
use Rattle.std.specs.Option.{option_map}
use Rattle.sha2.specs.Sha256.{sha256}
use Rattle.directed_fixed.specs.Bounds.{Bounds}
use Rattle.hyper_outside.specs.declared.outside.PageFault.{PageFault}
use Rattle.hyper_outside.specs.declared.outside.PageFault.TheVariants as pages
use Rattle.cube_actions.specs.declared.name.StakesName.{StakesName}
use Rattle.cube_actions.specs.declared.name.StakesName.TheVariants.{Match}
use Rattle.cube_actions.specs.Stakes.{point_units}
use Rattle.word_pages.specs.declared.flaws.Flaw.{Flaw}
use Rattle.word_pages.specs.declared.version.Version.{Version}
use Rattle.word_pages.specs.Flaws.{pairs_flaw, unpacked}
use Rattle.word_pages.specs.Sealed.{sealed, is_sealed}
use Rattle.word_pages.specs.Words.{words_bytes, words_in_bytes}
use Rattle.base_head.specs.Faults.{checked}
use Rattle.base_head.specs.Heads.{FileHead}
use Rattle.base_head.specs.Headers.{digest_place, front_length, header_text}
use Rattle.base_head.specs.declared.fault.BadFile.{BadFile}
use Rattle.base_head.specs.declared.fault.FileFault.{FileFault}
use Rattle.base_head.specs.declared.fault.FileFault.TheVariants as faults
use Rattle.base_head.specs.declared.header.Header.{Header}

-- the word that stands for a value
abbrev pub counted_word : ℤ → ℕ
counted_word value = nat_abs (value +ℤ pos (2 ^ 36))

-- the words of pairs, of each the lower one and then the upper one
abbrev pub words_of_pair : Bounds → List ℕ
words_of_pair pair = counted_word pair.lower ∷ counted_word pair.upper ∷ []

abbrev pub words_of_pairs : List Bounds → List ℕ
words_of_pairs pairs = flat_map words_of_pair pairs

-- the header, and the pairs of the starts in the order of the ladder
abbrev pub head_text : Version → FileHead → List ℕ
head_text version head =
    header_text version head ++ words_bytes version (words_of_pairs head.starts.pairs)

-- their digest, to which the pages are bound
abbrev pub head_digest : Version → FileHead → List ℕ
head_digest version head = sha256 (head_text version head)

-- both
abbrev pub front_text : Version → FileHead → List ℕ
front_text version head = sealed (head_text version head)

-- the digest that stands in a file with this header, behind the starts
abbrev pub digest_in : Header → List ℕ → List ℕ
digest_in header bytes = take 32 (drop (digest_place header) bytes)

-- the pairs that words stand for
abbrev pub pairs_of_words : List ℕ → List Bounds
pairs_of_words [] = []
pairs_of_words (word ∷ []) = []
pairs_of_words (lower ∷ upper ∷ words) =
    record { lower = unpacked lower; upper = unpacked upper } ∷ pairs_of_words words

-- the words of the starts, which follow the header
abbrev pub start_words : Header → List ℕ → List ℕ
start_words header bytes = words_in_bytes header.version (2 * header.starts) (drop 64 bytes)

-- the starts of stakes that aren't a match have the length 1
abbrev pub starts_length : StakesName → ℕ → ℕ
starts_length (Match score) match_length = match_length
starts_length _ match_length = 1

-- the head that header and starts say
abbrev pub head_in : Header → List ℕ → FileHead
head_in header bytes = record {
  checkers = header.checkers;
  name = header.name;
  rounds = header.rounds;
  starts = record {
    match_length = starts_length header.name header.match_length;
    pairs = pairs_of_words (start_words header bytes);
  };
}

-- what is wrong with words is wrong with their file
abbrev pub fault_of : PageFault → FileFault
fault_of pages.Short = faults.Short
fault_of pages.PageDigest = faults.PageDigest
fault_of pages.Word = faults.Word
fault_of pages.Crossed = faults.Crossed

abbrev pub bad_of : Flaw → BadFile
bad_of flaw = record { fault = fault_of flaw.fault; at = flaw.at }

-- What is wrong first behind a header: the digest, or a pair of the starts. In a match a value is at most one point.
abbrev pub starts_fault : Header → List ℕ → Option BadFile
starts_fault header bytes =
    if is_sealed (take (front_length header) bytes)
    then option_map bad_of (pairs_flaw header.version (point_units 1) 64 (start_words header bytes))
    else Some (record { fault = faults.HeadDigest; at = digest_place header })

-- the head, or what is wrong first behind the header
abbrev pub starts_read : Header → List ℕ → Result FileHead BadFile
starts_read header bytes = checked (starts_fault header bytes) (head_in header bytes)
