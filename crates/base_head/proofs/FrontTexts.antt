-- Nothing is wrong with a front exactly where it is that of a version and a head, which then is read.
use Rattle.std.proofs.Common.{◌≡◌, ◌∙◌, ℕ, ◌+◌, ◌-◌, ◌*◌, ◌≤◌, ◌≤ℤ◌, ◌↔◌, All, nat_lt, Bool, true, false, not, if◌then◌else◌, List, [], ◌∷◌, ◌++◌, length, take, drop, None, Some, Option, length-append, length-drop, append_assoc, refl, sym, ap, ap₂, subst, arith}
use Rattle.std.proofs.Math.Nat.{mul_assoc, mul_left_comm}
use Rattle.std.proofs.Math.Seq.{take-add, drop-append_seam}
use Rattle.std.proofs.lemmas.Bool.Decides.{nat_tests}
use Rattle.std.proofs.lemmas.List.{drop-take, length-take-le, take-append-drop, take-take}
use Rattle.std.specs.Option.{option_map, option_or}
use Rattle.std.specs.Str.{bytes_eq}
use Rattle.sha2.specs.Sha256.{sha256}
use Rattle.directed_fixed.specs.Bounds.{Bounds, IsWithin}
use Rattle.directed_fixed.specs.declared.word.TheConstants.{WORD_OFFSET}
use Rattle.cube_actions.specs.declared.name.StakesName.{StakesName}
use Rattle.cube_actions.specs.declared.name.StakesName.TheVariants.{Unlimited, Match}
use Rattle.cube_actions.specs.Stakes.{point_units}
use Rattle.cube_actions.specs.Starts.{AreStarts, StartPairs}
use Rattle.word_pages.specs.declared.flaws.Flaw.{Flaw}
use Rattle.word_pages.specs.declared.version.Version.{Version}
use Rattle.word_pages.specs.Flaws.{pairs_flaw}
use Rattle.word_pages.specs.Pages.{AreBytes}
use Rattle.word_pages.specs.Sealed.{is_sealed, sealed}
use Rattle.word_pages.specs.Words.{Fits, word_size, words_in_bytes, words_bytes}
use Rattle.word_pages.proofs.Back.{text-words_of, words_of-text}
use Rattle.word_pages.proofs.PageTexts.{is_sealed-sealed}
use Rattle.word_pages.proofs.Seals.{is_sealed-exactly, length-sealed}
use Rattle.word_pages.proofs.Texts.{length-cells, length-words_of}
use Rattle.word_pages.proofs.Within.{none-within, within-fit, within-none}
use Rattle.base_head.specs.declared.fault.BadFile.{BadFile}
use Rattle.base_head.specs.declared.fault.FileFault.TheVariants as faults
use Rattle.base_head.specs.declared.fields.Fields.{Fields}
use Rattle.base_head.specs.declared.header.Header.{Header}
use Rattle.base_head.specs.Faults.{check, first_wrong}
use Rattle.base_head.specs.Fronts.{bad_of, digest_in, front_text, head_digest, head_in, head_text, pairs_of_words, start_words, starts_fault, starts_length, words_of_pairs}
use Rattle.base_head.specs.FrontTexts.{IsFront, front_fault}
use Rattle.base_head.specs.Heads.{AreStartsOf, FileHead, HasText, IsHead, no_starts}
use Rattle.base_head.specs.Headers.{IsHeader, IsLengthOf, IsSince, digest_place, file_length, front_length, header_of, length_if_match, magic, pair_size, spelled, starts_told, text_length}
use Rattle.base_head.specs.HeaderFaults.{field_checks, fields_of, header_fault, header_in, length_checks, opening_checks}
use Rattle.base_head.proofs.Checked.{none_or}
use Rattle.base_head.proofs.FieldChecks.{after-fields, all-header}
use Rattle.base_head.proofs.HeaderBytes.{AreBytes-drop, opening-right, spelled-back, version-numbers, version-right, wrong-then}
use Rattle.base_head.proofs.HeaderRead.{fields-spelled, header-same, numbers-pass, numbers_of}
use Rattle.base_head.proofs.RightFields.{none-header}
use Rattle.base_head.proofs.StartsRead.{even-pairs, starts-go}
use Rattle.base_head.proofs.StartWords.{pairs-back, pairs-within, words-back, words-within}
use Rattle.base_head.proofs.WordPairs.{length-words}

-- ---- the size

pub length-right : (size whole : ℕ) → first_wrong (length_checks size whole) ≡ None → size ≡ whole
length-right size whole none =
    let short = wrong-then (nat_lt size whole) _ _ none in
    let long = wrong-then (nat_lt whole size) _ _ short.1 in
    same size whole short.0 long.0
  where
    same : (a b : ℕ) → nat_lt a b ≡ false → nat_lt b a ≡ false → a ≡ b
    same a b one other = grind (arith, nat_tests)

length-pass : (size whole : ℕ) → size ≡ whole → first_wrong (length_checks size whole) ≡ None
length-pass size whole is = ap (λ (size : ℕ). first_wrong (length_checks size whole)) is ∙ never whole
  where
    never : (whole : ℕ) → first_wrong (length_checks whole whole) ≡ None
    never whole = let e : nat_lt whole whole ≡ false = grind (arith, nat_tests) in rw e refl

-- so many bytes do the words of the starts take
starts-size : (h : Header) → word_size h.version * (2 * h.starts) ≡ pair_size h.version * h.starts
starts-size h = mul_left_comm (word_size h.version) 2 h.starts ∙ sym (mul_assoc 2 (word_size h.version) h.starts)

-- ---- a front without a fault

-- the header of the head that a header says
header-again : (h : Header) (bytes : List ℕ) → IsHeader h → header_of h.version (head_in h bytes) ≡ h
header-again h bytes is =
    let length_is = by_name h.name h.match_length is.fitting in
    let starts = even-pairs h.starts (start_words h bytes) (length-words_of h.version (2 * h.starts) _) in
    λ i. record {
      version = h.version;
      checkers = h.checkers;
      name = h.name;
      match_length = length_is i;
      kinds = sym is.kinds i;
      rounds = h.rounds;
      starts = starts i;
      positions = sym is.positions i;
    }
  where
    by_name : (name : StakesName) (match_length : ℕ) → IsLengthOf name match_length → length_if_match name (starts_length name match_length) ≡ match_length
    by_name (Unlimited rule) match_length is = sym is
    by_name (Match score) match_length is = refl

none-are : (pairs : List Bounds) → record { match_length = 1; pairs = pairs } ≡ no_starts → AreStarts (record { match_length = 1; pairs = pairs })
none-are pairs go = subst AreStarts (sym go) (record { from = omega arith; to = omega arith; room = omega arith; within = λ k d lt. absurd (omega (arith, lt)) })

starts-are : (name : StakesName) (match_length : ℕ) (pairs : List Bounds) → IsLengthOf name match_length → AreStartsOf name (record { match_length = starts_length name match_length; pairs = pairs })
    → All (IsWithin (point_units 1)) pairs → AreStarts (record { match_length = starts_length name match_length; pairs = pairs })
starts-are (Match score) match_length pairs is go within = record { from = is.from; to = is.to; room = omega (arith, go.listed, go.held); within = within }
starts-are (Unlimited rule) match_length pairs is go within = none-are pairs go

record RightFront (oldest : Version) (h : Header) (bytes : List ℕ) : Type 0 where
  since : IsSince oldest h.version
  valid : IsHeader h
  size : length bytes ≡ file_length h
  spelled_is : spelled h ≡ take 64 bytes
  sealed_is : is_sealed (take (front_length h) bytes) ≡ true
  none : pairs_flaw h.version (point_units 1) 64 (start_words h bytes) ≡ None

starts-none : (h : Header) (bytes : List ℕ) → starts_fault h bytes ≡ None → (is_sealed (take (front_length h) bytes) ≡ true) × (pairs_flaw h.version (point_units 1) 64 (start_words h bytes) ≡ None)
starts-none h bytes none = by_test (is_sealed (take (front_length h) bytes)) (pairs_flaw h.version (point_units 1) 64 (start_words h bytes)) none
  where
    by_test : (b : Bool) (flaw : Option Flaw) → (if b then option_map bad_of flaw else Some (record { fault = faults.HeadDigest; at = digest_place h })) ≡ None → (b ≡ true) × (flaw ≡ None)
    by_test true None none = (refl, refl)
    by_test true (Some flaw) none = absurd (grind (arith, none))
    by_test false flaw none = absurd (grind (arith, none))

right-front : (oldest : Version) (bytes : List ℕ) → AreBytes bytes → front_fault oldest (length bytes) bytes ≡ None → RightFront oldest (header_in (fields_of bytes)) bytes
right-front oldest bytes are none =
    let h = header_in (fields_of bytes) in
    let parts = none_or (header_fault oldest (length bytes) bytes) (starts_fault h bytes) none in
    let checks = all-header oldest (length bytes) bytes parts.0 in
    let begins = opening-right (length bytes) bytes checks.0 in
    let starts = starts-none h bytes parts.1 in
    record {
      since = omega (arith, version-numbers oldest (fields_of bytes) checks.1, (version-right oldest (fields_of bytes) checks.1).0);
      valid = none-header oldest (fields_of bytes) checks.1;
      size = length-right (length bytes) (file_length h) checks.2;
      spelled_is = spelled-back oldest bytes begins.0 are begins.1 checks.1;
      sealed_is = starts.0;
      none = starts.1;
    }

-- the bytes up to the digest are header and starts
front-bytes : (oldest : Version) (h : Header) (bytes : List ℕ) → AreBytes bytes → RightFront oldest h bytes → take (digest_place h) bytes ≡ spelled h ++ words_bytes h.version (words_of_pairs (head_in h bytes).starts.pairs)
front-bytes oldest h bytes are right =
    let n = pair_size h.version * h.starts in
    let words : List ℕ = start_words h bytes in
    let room : word_size h.version * (2 * h.starts) ≤ length (drop 64 bytes) = omega (arith, right.size, starts-size h, length-drop 64 bytes) in
    let text : words_bytes h.version words ≡ take n (drop 64 bytes) = text-words_of h.version (2 * h.starts) (drop 64 bytes) room (AreBytes-drop 64 bytes are) ∙ ap (λ (k : ℕ). take k (drop 64 bytes)) (starts-size h) in
    let pairs : words_of_pairs (pairs_of_words words) ≡ words = words-back h.starts words (length-words_of h.version (2 * h.starts) (drop 64 bytes)) in
    take-add 64 n bytes ∙ ap₂ (λ (first : List ℕ) (rest : List ℕ). first ++ rest) (sym right.spelled_is) (sym text ∙ ap (words_bytes h.version) (sym pairs))

-- the front is that of the head
front-is : (oldest : Version) (h : Header) (bytes : List ℕ) → AreBytes bytes → RightFront oldest h bytes → take (front_length h) bytes ≡ sealed (spelled h ++ words_bytes h.version (words_of_pairs (head_in h bytes).starts.pairs))
front-is oldest h bytes are right =
    let k = front_length h in
    let d = digest_place h in
    let front : List ℕ = take k bytes in
    let count : length front ≡ k = length-take-le k bytes (omega (arith, right.size)) in
    let before : length front - 32 ≡ d = omega (arith, count) in
    let first : take (length front - 32) front ≡ take d bytes = ap (λ (n : ℕ). take n front) before ∙ take-take d k bytes (omega arith) in
    (is_sealed-exactly [] front).0 right.sealed_is ∙ ap sealed (first ∙ front-bytes oldest h bytes are right)

head-is : (oldest : Version) (h : Header) (bytes : List ℕ) → RightFront oldest h bytes → IsHead (head_in h bytes)
head-is oldest h bytes right =
    let valid = right.valid in
    let words : List ℕ = start_words h bytes in
    let go = starts-go h.name h.match_length h.starts (pairs_of_words words) valid.fitting valid.starts (even-pairs h.starts words (length-words_of h.version (2 * h.starts) (drop 64 bytes))) in
    record {
      some = valid.some;
      few = valid.few;
      begun = valid.begun;
      ended = valid.ended;
      valid = starts-are h.name h.match_length (pairs_of_words words) valid.fitting go (pairs-within words (none-within h.version (point_units 1) 64 words right.none));
      starts = go;
    }

-- a front without a fault is that of a version that is read and a head
pub front-of : (oldest : Version) (bytes : List ℕ) → AreBytes bytes → front_fault oldest (length bytes) bytes ≡ None
    → (version : Version) × (head : FileHead) × IsSince oldest version × IsFront version head bytes × (length bytes ≡ text_length version head)
front-of oldest bytes are none =
    let h = header_in (fields_of bytes) in
    let right = right-front oldest bytes are none in
    let head : FileHead = head_in h bytes in
    let again : header_of h.version head ≡ h = header-again h bytes right.valid in (
      h.version,
      head,
      right.since,
      record {
        valid = head-is oldest h bytes right;
        takes = right.valid.takes;
        text = ap (λ (h : Header). take (front_length h) bytes) again ∙ front-is oldest h bytes are right ∙ ap (λ (header : Header). sealed (spelled header ++ words_bytes h.version (words_of_pairs head.starts.pairs))) (sym again);
      },
      right.size ∙ ap file_length (sym again),
    )

-- ---- the front of a version and a head

-- heads have headers
pub header-valid : (version : Version) (head : FileHead) → IsHead head → HasText version head → IsHeader (header_of version head)
header-valid version head is takes = record {
  takes = takes;
  some = is.some;
  few = is.few;
  fitting = fitting head.name head.starts is.valid is.starts;
  kinds = refl;
  begun = is.begun;
  ended = is.ended;
  starts = before head.name head.starts is.starts;
  positions = refl;
}
  where
    fitting : (name : StakesName) (starts : StartPairs) → AreStarts starts → AreStartsOf name starts → IsLengthOf name (length_if_match name starts.match_length)
    fitting (Unlimited rule) starts valid go = refl
    fitting (Match score) starts valid go = record { from = valid.from; to = valid.to; listed = go.listed }

    before : (name : StakesName) (starts : StartPairs) → AreStartsOf name starts → length starts.pairs ≡ starts_told (length_if_match name starts.match_length) name
    before (Unlimited rule) starts go = ap (λ (starts : StartPairs). length starts.pairs) go
    before (Match score) starts go = go.held

-- it is as long as its header says
pub length-front : (version : Version) (head : FileHead) → length (front_text version head) ≡ front_length (header_of version head)
length-front version head =
    let h = header_of version head in
    let words : List ℕ = words_of_pairs head.starts.pairs in
    let header : length (spelled h) ≡ 64 = refl in
    let cells : length (words_bytes version words) ≡ word_size version * (2 * h.starts) = length-cells (word_size version) words ∙ ap (λ (n : ℕ). word_size version * n) (length-words head.starts.pairs) in
    let both = length-append (spelled h) (words_bytes version words) in
    let all = length-sealed [] (spelled h ++ words_bytes version words) in
    omega (arith, header, cells, both, all, starts-size h)

-- what stands behind the header
behind : Version → FileHead → List ℕ → List ℕ
behind version head bytes =
    words_bytes version (words_of_pairs head.starts.pairs)
    ++ (sha256 (spelled (header_of version head) ++ words_bytes version (words_of_pairs head.starts.pairs)) ++ drop (front_length (header_of version head)) bytes)

parts-of : (version : Version) (head : FileHead) (bytes : List ℕ) → IsFront version head bytes → bytes ≡ spelled (header_of version head) ++ behind version head bytes
unfolding behind
parts-of version head bytes is =
    let k = front_length (header_of version head) in
    let header : List ℕ = spelled (header_of version head) in
    let words : List ℕ = words_bytes version (words_of_pairs head.starts.pairs) in
    let digest : List ℕ = sha256 (header ++ words) in
    sym (take-append-drop k bytes)
    ∙ ap (λ (front : List ℕ). front ++ drop k bytes) is.text
    ∙ append_assoc (header ++ words) digest (drop k bytes)
    ∙ append_assoc header words (digest ++ drop k bytes)

-- the header is read
pub header-read : (version : Version) (head : FileHead) (bytes : List ℕ) → IsFront version head bytes → header_in (fields_of bytes) ≡ header_of version head
header-read version head bytes is =
    let h = header_of version head in
    ap (λ (bytes : List ℕ). header_in (fields_of bytes)) (parts-of version head bytes is)
    ∙ ap header_in (fields-spelled h (behind version head bytes) (header-valid version head is.valid is.takes)) ∙ header-same h

-- so are the words of the starts
words-read : (version : Version) (head : FileHead) (bytes : List ℕ) → IsFront version head bytes → start_words (header_of version head) bytes ≡ words_of_pairs head.starts.pairs
unfolding behind
words-read version head bytes is =
    let h = header_of version head in
    let words : List ℕ = words_of_pairs head.starts.pairs in
    let more : List ℕ = sha256 (spelled h ++ words_bytes version words) ++ drop (front_length h) bytes in
    let rest : drop 64 bytes ≡ words_bytes version words ++ more = ap (drop 64) (parts-of version head bytes is) in
    let within = words-within head.starts.pairs is.valid.valid.within in
    let fit : All (Fits version) words = within-fit version (point_units 1) (length head.starts.pairs) words low (length-words head.starts.pairs) within in
    ap₂ (λ (n : ℕ) (bytes : List ℕ). words_in_bytes version n bytes) (sym (length-words head.starts.pairs)) rest ∙ words_of-text version words more fit
  where
    low : point_units 1 ≤ℤ WORD_OFFSET
    low = record { le = tt }

-- and the head
pub head-read : (version : Version) (head : FileHead) (bytes : List ℕ) → IsFront version head bytes → head_in (header_of version head) bytes ≡ head
head-read version head bytes is =
    let words = words-read version head bytes is in
    let pairs : pairs_of_words (start_words (header_of version head) bytes) ≡ head.starts.pairs = ap pairs_of_words words ∙ pairs-back head.starts.pairs is.valid.valid.within in
    let same = by_name head.name head.starts is.valid.starts in
    λ i. record { checkers = head.checkers; name = head.name; rounds = head.rounds; starts = record { match_length = same i; pairs = pairs i } }
  where
    by_name : (name : StakesName) (starts : StartPairs) → AreStartsOf name starts → starts_length name (length_if_match name starts.match_length) ≡ starts.match_length
    by_name (Unlimited rule) starts go = sym (ap (λ (starts : StartPairs). starts.match_length) go)
    by_name (Match score) starts go = refl

-- and its digest
pub digest-read : (version : Version) (head : FileHead) (bytes : List ℕ) → IsFront version head bytes → digest_in (header_of version head) bytes ≡ head_digest version head
digest-read version head bytes is =
    let h = header_of version head in
    let k = front_length h in
    let d = digest_place h in
    let text : List ℕ = head_text version head in
    let long = length-front version head in
    let count : length text ≡ d = omega (arith, long, length-sealed [] text) in
    let parts : k ≡ d + 32 = omega arith in
    sym (drop-take d 32 bytes)
    ∙ ap (λ (n : ℕ). drop d (take n bytes)) (sym parts)
    ∙ ap₂ (λ (n : ℕ) (front : List ℕ). drop n front) (sym count) is.text
    ∙ drop-append_seam text (head_digest version head)

-- nothing is wrong with the starts
starts-pass : (version : Version) (head : FileHead) (bytes : List ℕ) → IsFront version head bytes → starts_fault (header_of version head) bytes ≡ None
starts-pass version head bytes is =
    let h = header_of version head in
    let sealed_is : is_sealed (take (front_length h) bytes) ≡ true = ap is_sealed is.text ∙ is_sealed-sealed [] (spelled h ++ words_bytes version (words_of_pairs head.starts.pairs)) in
    let none : pairs_flaw version (point_units 1) 64 (start_words h bytes) ≡ None =
    ap (pairs_flaw version (point_units 1) 64) (words-read version head bytes is) ∙ within-none version (point_units 1) 64 (words_of_pairs head.starts.pairs) (words-within head.starts.pairs is.valid.valid.within) in
    ap₂ (λ (b : Bool) (flaw : Option Flaw). if b then option_map bad_of flaw else Some (record { fault = faults.HeadDigest; at = digest_place h })) sealed_is none

opening-pass : (h : Header) (rest : List ℕ) (size : ℕ) → 64 ≤ size → first_wrong (opening_checks size (spelled h ++ rest)) ≡ None
opening-pass h rest size long =
    let e : nat_lt size 64 ≡ false = grind (arith, nat_tests) in
    ap (λ (b : Bool). if b then Some (record { fault = faults.Short; at = size }) else first_wrong (check faults.Magic 0 (not (bytes_eq (take 8 (spelled h ++ rest)) magic)) ∷ [])) e

-- nor with the header, where the size is right
header-pass : (oldest version : Version) (head : FileHead) (bytes : List ℕ) → IsSince oldest version → IsFront version head bytes → length bytes ≡ text_length version head → header_fault oldest (length bytes) bytes ≡ None
header-pass oldest version head bytes since is size =
    let h = header_of version head in
    let valid = header-valid version head is.valid is.takes in
    let rest = behind version head bytes in
    let parts = parts-of version head bytes is in
    let opening : first_wrong (opening_checks (length bytes) bytes) ≡ None = ap (λ (b : List ℕ). first_wrong (opening_checks (length bytes) b)) parts ∙ opening-pass h rest (length bytes) (omega (arith, size)) in
    let fields : fields_of bytes ≡ numbers_of h = ap fields_of parts ∙ fields-spelled h rest valid in
    after-fields oldest (length bytes) bytes opening (ap (λ (f : Fields). first_wrong (field_checks oldest f)) fields ∙ numbers-pass oldest h valid since)
    ∙ length-pass (length bytes) (file_length (header_in (fields_of bytes))) (size ∙ ap file_length (sym (header-read version head bytes is)))

-- nothing is wrong with the front of a text of the right size
pub front-right : (oldest version : Version) (head : FileHead) (bytes : List ℕ) → IsSince oldest version → IsFront version head bytes → length bytes ≡ text_length version head → front_fault oldest (length bytes) bytes ≡ None
front-right oldest version head bytes since is size =
    ap₂ (λ (header : Option BadFile) (starts : Option BadFile). option_or header starts) (header-pass oldest version head bytes since is size)
    (ap (λ (h : Header). starts_fault h bytes) (header-read version head bytes is) ∙ starts-pass version head bytes is)

pub front-exactly : (oldest : Version) (bytes : List ℕ) → AreBytes bytes
    → (front_fault oldest (length bytes) bytes ≡ None) ↔ ((version : Version) × (head : FileHead) × IsSince oldest version × IsFront version head bytes × (length bytes ≡ text_length version head))
front-exactly oldest bytes are = (front-of oldest bytes are, λ front. front-right oldest front.0 front.1 bytes front.2 front.3 front.4)
