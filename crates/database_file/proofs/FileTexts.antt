-- Nothing is wrong with bytes exactly where they are a text, which then is what the file holds.
use Rattle.std.proofs.Common.{◌≡◌, ◌∙◌, ℕ, ◌+◌, ◌*◌, ◌<◌, ◌≤◌, ℤ, nat_lt, Bool, false, if◌then◌else◌, All, List, [], ◌∷◌, ◌++◌, length, take, drop, Option, None, Some, append-nil, length-append, refl, sym, ap, ap₂, subst, arith}
use Rattle.std.proofs.Math.Nat.{mul_assoc}
use Rattle.std.proofs.Math.Seq.{drop-append_seam, take-append_seam}
use Rattle.std.proofs.lemmas.Bool.Decides.{nat_tests}
use Rattle.std.proofs.lemmas.List.{take-append-drop, take-append-le}
use Rattle.std.specs.Option.{option_map}
use Rattle.cube_actions.specs.Stakes.{bound_of}
use Rattle.interval_words.specs.Core as core
use Rattle.interval_words.specs.WordLists.{AreRight, WordList, list_of}
use Rattle.turn_rule.specs.declared.game.Game.{Game}
use Rattle.word_pages.specs.declared.flaws.Flaw.{Flaw}
use Rattle.word_pages.specs.declared.version.Version.{Version}
use Rattle.word_pages.specs.declared.version.Version.TheVariants.{One, Two, Three}
use Rattle.word_pages.specs.Flaws.{LieWithin}
use Rattle.word_pages.specs.Pages.{AreBytes, pages_in, pages_text}
use Rattle.word_pages.specs.Words.{Fits, word_size}
use Rattle.word_pages.proofs.PageTexts.{length-pages}
use Rattle.word_pages.proofs.Within.{or_none, within-fit}
use Rattle.base_head.specs.declared.fault.FileFault.TheVariants as faults
use Rattle.base_head.specs.declared.header.Header.{Header}
use Rattle.base_head.specs.Faults.{check, first_wrong}
use Rattle.base_head.specs.Fronts.{bad_of, digest_in, front_text, head_digest, head_in, starts_fault}
use Rattle.base_head.specs.FrontTexts.{IsFront, front_fault}
use Rattle.base_head.specs.Heads.{FileHead}
use Rattle.base_head.specs.Headers.{IsHeader, IsSince, file_length, front_length, header_of, text_length}
use Rattle.base_head.specs.HeaderFaults.{header_fault}
use Rattle.base_head.proofs.Checked.{none_or}
use Rattle.base_head.proofs.FrontTexts.{digest-read, front-of, front-right, head-read, header-read, header-valid, length-front}
use Rattle.database_file.specs.Bases.{IsBaseFrom, base_with, words_of_file}
use Rattle.database_file.specs.Faults.{ends_before, fault_from, front_fault_from, header_of_file, pages_behind, pages_in_file, short_fault, starts_wrong, whole}
use Rattle.database_file.specs.FileBases.{FileBase}
use Rattle.database_file.specs.Pages.{flaw_in, words_listed}
use Rattle.database_file.specs.Texts.{IsText, game_in, words_a_page}
use Rattle.database_file.proofs.Bases.{bound-named, pages-valid, words-many}
use Rattle.database_file.proofs.FrontBytes.{header_of-front, none-before}
use Rattle.database_file.proofs.PageLists.{pages-right}
use Rattle.database_file.proofs.RightFiles.{words-some, pages-same, right-file, same-cells}
use Rattle.database_file.proofs.Words.{right-within}

-- ---- bytes without a fault

pub front-none : (oldest : Version) (bytes : List ℕ) → fault_from oldest (whole bytes) ≡ None → front_fault oldest (length bytes) bytes ≡ None
front-none oldest bytes right =
    let before = none_or (short_fault (whole bytes)) _ (none_or (front_fault_from oldest (whole bytes)) _ right).0 in
    let parts = none_or (header_fault oldest (length bytes) bytes) (starts_wrong (header_of_file bytes) bytes) before.1 in
    let starts = none_or (ends_before (front_length (header_of_file bytes)) bytes) (starts_fault (header_of_file bytes) bytes) parts.1 in
    or_none _ _ parts.0 starts.1

pub text-of : (oldest : Version) (bytes : List ℕ) → AreBytes bytes → fault_from oldest (whole bytes) ≡ None → (version : Version) × (head : FileHead) × (words : WordList) × IsSince oldest version × IsText version head words bytes
text-of oldest bytes are right =
    let front = front-of oldest bytes are (front-none oldest bytes right) in
    let version = front.0 in
    let head = front.1 in
    let begins = front.3 in
    let list : List ℕ = words_of_file bytes in
    let h = header_of version head in
    let header : header_of_file bytes ≡ h = header-read version head bytes begins in
    let head_is : head_in (header_of_file bytes) bytes ≡ head = ap (λ (h : Header). head_in h bytes) header ∙ head-read version head bytes begins in
    let file = right-file oldest bytes are right in
    let digest : digest_in (header_of_file bytes) bytes ≡ head_digest version head = ap (λ (h : Header). digest_in h bytes) header ∙ digest-read version head bytes begins in
    let words : list_of (game_in (head_in (header_of_file bytes) bytes)) (header_of_file bytes).rounds list ≡ list_of (game_in head) head.rounds list =
    ap₂ (λ (head : FileHead) (h : Header). list_of (game_in head) h.rounds list) head_is header in
    let pages : drop (front_length h) bytes ≡ pages_text version (head_digest version head) (words_a_page h.kinds) list =
    subst (λ (h : Header). drop (front_length h) bytes ≡ pages_text h.version (head_digest version head) (words_a_page h.kinds) list) header
    (file.0 ∙ ap (λ (digest : List ℕ). pages_text (header_of_file bytes).version digest (words_a_page (header_of_file bytes).kinds) list) digest) in (
      version,
      head,
      list_of (game_in head) head.rounds list,
      front.2,
      record {
        valid = begins.valid;
        takes = begins.takes;
        fitting = record { game = refl; rounds = refl };
        right = subst AreRight words file.1;
        text = sym (take-append-drop (front_length h) bytes) ∙ ap₂ (λ (front : List ℕ) (pages : List ℕ). front ++ pages) begins.text pages;
      },
    )

-- ---- texts

begins-with : (version : Version) (head : FileHead) (words : WordList) (bytes : List ℕ) → IsText version head words bytes
    → IsFront version head bytes × (drop (front_length (header_of version head)) bytes ≡ pages_text version (head_digest version head) (words_a_page (header_of version head).kinds) words.list)
begins-with version head words bytes is =
    let front : List ℕ = front_text version head in
    let pages : List ℕ = pages_text version (head_digest version head) (words_a_page (header_of version head).kinds) words.list in
    let k = front_length (header_of version head) in
    let count = length-front version head in (
      record {
        valid = is.valid;
        takes = is.takes;
        text = ap₂ (λ (n : ℕ) (bytes : List ℕ). take n bytes) (sym count) is.text ∙ take-append_seam front pages;
      },
      ap₂ (λ (n : ℕ) (bytes : List ℕ). drop n bytes) (sym count) is.text ∙ drop-append_seam front pages,
    )

record TextPages (version : Version) (head : FileHead) (list : List ℕ) : Type 0 where
  valid : IsHeader (header_of version head)
  some : 0 < words_a_page (header_of version head).kinds
  many : length list ≡ 2 * (header_of version head).kinds * (header_of version head).positions
  fit : All (Fits version) list
  within : LieWithin (bound_of head.name) list

text-pages : (version : Version) (head : FileHead) (words : WordList) (bytes : List ℕ) → IsText version head words bytes → TextPages version head words.list
text-pages version head words bytes is =
    let h = header_of version head in
    let valid = header-valid version head is.valid is.takes in
    let pages = pages-valid h (head_digest version head) valid in
    let same = head-read version head bytes (begins-with version head words bytes is).0 in
    let count : length words.list ≡ 2 * h.kinds * h.positions =
    is.right.long ∙ ap core.words_in (is.fitting.game ∙ ap game_in (sym same)) ∙ sym (words-many h bytes valid) in
    let within : LieWithin (bound_of head.name) words.list =
    subst (λ (bound : ℤ). LieWithin bound words.list) (ap (λ (game : Game). game.stakes.bound) is.fitting.game ∙ bound-named head.name head.starts) (right-within words is.right) in
    record {
      valid = valid;
      some = pages.some;
      many = count;
      fit = within-fit version (bound_of head.name) (h.kinds * h.positions) words.list pages.to (count ∙ mul_assoc 2 h.kinds h.positions) within;
      within = within;
    }

-- how long they are
length-text : (version : Version) (head : FileHead) (words : WordList) (bytes : List ℕ) → IsText version head words bytes → length bytes ≡ text_length version head
length-text version head words bytes is =
    let h = header_of version head in
    let size = words_a_page h.kinds in
    let front : List ℕ = front_text version head in
    let text : List ℕ = pages_text version (head_digest version head) size words.list in
    let pages = text-pages version head words bytes is in
    let all : length bytes ≡ length front + length text = ap (λ (bytes : List ℕ). length bytes) is.text ∙ length-append front text in
    let cells : word_size version * length words.list ≡ 2 * word_size version * h.kinds * h.positions = ap (λ (n : ℕ). word_size version * n) pages.many ∙ same-cells (word_size version) h.kinds h.positions in
    let many : pages_in size (length words.list) ≡ pages_in 1024 h.positions = ap (λ (n : ℕ). pages_in size n) pages.many ∙ pages-same (2 * h.kinds) h.positions (words-some h.kinds pages.some) in
    omega (arith, all, length-front version head, length-pages version (head_digest version head) size words.list pages.some, cells, many)

-- nothing is wrong with them
before-none : (oldest : Version) (bytes : List ℕ) → length bytes ≡ file_length (header_of_file bytes) → front_fault oldest (length bytes) bytes ≡ None → front_fault_from oldest (whole bytes) ≡ None
before-none oldest bytes size right =
    let h = header_of_file bytes in
    let parts = none_or (header_fault oldest (length bytes) bytes) (starts_fault h bytes) right in
    let long : nat_lt (length bytes) 64 ≡ false = not_less (length bytes) (file_length h) size (omega arith) in
    let short : first_wrong (check faults.Short (length bytes) (nat_lt (length bytes) 64) ∷ []) ≡ None = ap (λ (b : Bool). if b then Some (record { fault = faults.Short; at = length bytes }) else None) long in
    or_none _ _ (or_none _ _ short (none-before 64 bytes (omega (arith, size))))
    (or_none _ _ parts.0 (or_none _ _ (none-before (front_length h) bytes (omega (arith, size))) parts.1))
  where
    not_less : (a b : ℕ) → a ≡ b → 64 ≤ b → nat_lt a 64 ≡ false
    not_less a b same long = grind (arith, nat_tests)

-- the words are read from their pages
pages-read : (version : Version) (head : FileHead) (words : WordList) (bytes : List ℕ) → IsText version head words bytes
    → (flaw_in (pages_in_file bytes) (drop (front_length (header_of_file bytes)) bytes) ≡ None) × (words_of_file bytes ≡ words.list)
pages-read version head words bytes is =
    let h = header_of version head in
    let begins = begins-with version head words bytes is in
    let pages = text-pages version head words bytes is in
    let digest : List ℕ = head_digest version head in
    let text : List ℕ = pages_text version digest (words_a_page h.kinds) words.list in
    let there : drop (front_length h) bytes ≡ text ++ [] = begins.1 ∙ sym (append-nil text) in
    let read = pages-right (pages_behind h digest) (h.kinds * 1024) words.list [] pages.some (mul_assoc 2 h.kinds 1024) pages.many pages.fit pages.within in
    subst (λ (h : Header). (flaw_in (pages_behind h (digest_in h bytes)) (drop (front_length h) bytes) ≡ None) × (words_listed (pages_behind h (digest_in h bytes)) (drop (front_length h) bytes) ≡ words.list)) (sym (header-read version head bytes begins.0))
    (subst (λ (digest : List ℕ). (flaw_in (pages_behind h digest) (drop (front_length h) bytes) ≡ None) × (words_listed (pages_behind h digest) (drop (front_length h) bytes) ≡ words.list)) (sym (digest-read version head bytes begins.0))
    (subst (λ (bytes : List ℕ). (flaw_in (pages_behind h digest) bytes ≡ None) × (words_listed (pages_behind h digest) bytes ≡ words.list)) (sym there) read))

-- what a file with a text holds
pub base-of : (oldest version : Version) (head : FileHead) (words : WordList) (bytes : List ℕ) → IsSince oldest version → IsText version head words bytes → IsBaseFrom oldest (whole bytes) (record { head = head; words = words })
base-of oldest version head words bytes since is =
    let begins = (begins-with version head words bytes is).0 in
    let header : header_of_file bytes ≡ header_of version head = header-read version head bytes begins in
    let head_is : head_in (header_of_file bytes) bytes ≡ head = ap (λ (h : Header). head_in h bytes) header ∙ head-read version head bytes begins in
    let size = length-text version head words bytes is in
    let read = pages-read version head words bytes is in
    let words_are : words ≡ list_of (game_in head) head.rounds words.list = λ i. record { game = is.fitting.game i; rounds = is.fitting.rounds i; list = words.list } in
    record {
      right = or_none _ _ (before-none oldest bytes (size ∙ ap file_length (sym header)) (front-right oldest version head bytes since begins size)) (ap (λ (flaw : Option Flaw). option_map bad_of flaw) read.0);
      holds = ap (λ (words : WordList). record { head = head; words = words }) words_are ∙ ap₂ (λ (head : FileHead) (list : List ℕ). base_with head list) (sym head_is) (sym read.1);
    }

-- bytes that are loaded as a base are a text of it
pub text-loaded : (oldest : Version) (bytes : List ℕ) (base : FileBase) → AreBytes bytes → IsBaseFrom oldest (whole bytes) base → (version : Version) × IsSince oldest version × IsText version base.head base.words bytes
text-loaded oldest bytes base are is =
    let text = text-of oldest bytes are is.right in
    let same : record { head = text.1; words = text.2 } ≡ base = (base-of oldest text.0 text.1 text.2 bytes text.3 text.4).holds ∙ sym is.holds in
    (text.0, text.3, subst (λ (base : FileBase). IsText text.0 base.head base.words bytes) same text.4)

-- a version that isn't before the latest is the latest
pub latest : (version : Version) → IsSince Three version → version ≡ Three
latest One since = absurd (omega (arith, since))
latest Two since = absurd (omega (arith, since))
latest Three since = refl

pub text-latest : (bytes : List ℕ) → AreBytes bytes → fault_from Three (whole bytes) ≡ None → (head : FileHead) × (words : WordList) × IsText Three head words bytes
text-latest bytes are right =
    let text = text-of Three bytes are right in (text.1, text.2, subst (λ (version : Version). IsText version text.1 text.2 bytes) (latest text.0 text.3) text.4)

-- every version is one since the first
pub since-first : (version : Version) → IsSince One version
since-first One = omega arith
since-first Two = omega arith
since-first Three = omega arith

-- ---- one text

-- bytes are the text of one version, head and words alone
pub text-one : (version other : Version) (head other_head : FileHead) (words other_words : WordList) (bytes : List ℕ) → IsText version head words bytes → IsText other other_head other_words bytes
    → (version ≡ other) × (head ≡ other_head) × (words ≡ other_words)
text-one version other head other_head words other_words bytes is also =
    let one = base-of One version head words bytes (since-first version) is in
    let two = base-of One other other_head other_words bytes (since-first other) also in
    let base = one.holds ∙ sym two.holds in
    let header = sym (header-read version head bytes (begins-with version head words bytes is).0) ∙ header-read other other_head bytes (begins-with other other_head other_words bytes also).0 in
    (ap (λ (h : Header). h.version) header, ap (λ (base : FileBase). base.head) base, ap (λ (base : FileBase). base.words) base)

none-left : (rest : List ℕ) → length rest ≡ 0 → rest ≡ []
none-left [] is = refl
none-left (byte ∷ rest) is = absurd (omega (arith, is))

-- nothing stands behind a text that would make it another
pub text-ends : (version other : Version) (head other_head : FileHead) (words other_words : WordList) (bytes rest : List ℕ) → IsText version head words bytes → IsText other other_head other_words (bytes ++ rest) → rest ≡ []
text-ends version other head other_head words other_words bytes rest is also =
    let size = length-text version head words bytes is in
    let longer = length-text other other_head other_words (bytes ++ rest) also in
    let long : 64 ≤ length bytes = omega (arith, size) in
    let there = header-read version head bytes (begins-with version head words bytes is).0 in
    let here = header-read other other_head (bytes ++ rest) (begins-with other other_head other_words (bytes ++ rest) also).0 in
    let same : header_of_file (bytes ++ rest) ≡ header_of_file bytes =
    sym (header_of-front 64 (bytes ++ rest) (omega arith)) ∙ ap header_of_file (take-append-le 64 bytes rest long) ∙ header_of-front 64 bytes (omega arith) in
    let lengths = ap file_length (sym here ∙ same ∙ there) in
    none-left rest (omega (arith, size, longer, lengths, length-append bytes rest))
