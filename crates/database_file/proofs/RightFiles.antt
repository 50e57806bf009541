-- Files of which nothing is wrong.
use Rattle.std.proofs.Common.{◌≡◌, ◌∙◌, ℕ, suc, ◌+◌, ◌*◌, ◌-◌, ◌<◌, ◌≤◌, List, length, drop, Option, None, Some, length-drop, refl, sym, ap, subst, arith}
use Rattle.std.proofs.Math.Nat.{div-eq_of_lt-le, div-mul-le_self, lt-div-mul-add, mul-add, mul-le-mul_left, mul_assoc, mul_left_comm, suc-mul}
use Rattle.std.specs.Option.{option_map}
use Rattle.interval_words.specs.WordLists.{AreRight, list_of}
use Rattle.word_pages.specs.declared.flaws.Flaw.{Flaw}
use Rattle.word_pages.specs.Flaws.{LieWithin}
use Rattle.word_pages.specs.Pages.{AreBytes, pages_in, pages_text}
use Rattle.word_pages.specs.declared.version.Version.{Version}
use Rattle.word_pages.specs.Words.{word_size}
use Rattle.base_head.specs.Fronts.{bad_of, digest_in, head_in}
use Rattle.base_head.specs.Headers.{file_length, front_length}
use Rattle.base_head.specs.HeaderFaults.{header_fault}
use Rattle.base_head.proofs.Checked.{none_or}
use Rattle.base_head.proofs.FieldChecks.{all-header}
use Rattle.base_head.proofs.FrontTexts.{length-right}
use Rattle.database_file.specs.Pages.{flaw_in, page_count}
use Rattle.database_file.specs.Texts.{game_in, words_a_page}
use Rattle.database_file.specs.Faults.{fault_from, header_of_file, pages_in_file, short_fault, starts_wrong, whole}
use Rattle.database_file.specs.Bases.{words_of_file}
use Rattle.database_file.proofs.Bases.{bound-named, pages-valid, words-many, words-right}
use Rattle.database_file.proofs.FrontBytes.{right-header}
use Rattle.database_file.proofs.PageLists.{AreBytes-drop, length-words_in, pages-back, words-within}

-- as many pages as the positions take
pub pages-same : (m positions : ℕ) → 0 < m → pages_in (m * 1024) (m * positions) ≡ pages_in 1024 positions
pages-same m positions some =
    let q = pages_in 1024 positions in
    let low = div-mul-le_self (positions + 1023) 1024 in
    let high = lt-div-mul-add {a = positions + 1023} {b = 1024} (omega arith) in
    let times : q * (m * 1024) ≡ m * (q * 1024) = mul_left_comm q m 1024 in
    let under : m * (q * 1024) ≤ m * (positions + 1023) = mul-le-mul_left m low in
    let over : m * (positions + 1024) ≤ m * (q * 1024 + 1024) = mul-le-mul_left m (omega (arith, high)) in
    let one : (q + 1) * (m * 1024) ≡ q * (m * 1024) + m * 1024 = more q (m * 1024) in
    div-eq_of_lt-le {k = q} (m * 1024) {m = m * positions + (m * 1024 - 1)} (omega (arith, times, under, some, mul-add m positions 1023)) (omega (arith, times, over, one, some, mul-add m positions 1024, mul-add m (q * 1024) 1024))
  where
    more : (q n : ℕ) → (q + 1) * n ≡ q * n + n
    more q n = ap (λ k. k * n) (suc_is q) ∙ suc-mul q n
      where
        suc_is : (q : ℕ) → q + 1 ≡ suc q
        suc_is q = omega arith

pub words-some : (kinds : ℕ) → 0 < 2 * kinds * 1024 → 0 < 2 * kinds
words-some kinds some = omega (arith, some)

-- so many bytes do the words take
pub same-cells : (size kinds positions : ℕ) → size * (2 * kinds * positions) ≡ 2 * size * kinds * positions
same-cells size kinds positions = sym (mul_assoc size (2 * kinds) positions) ∙ ap (λ n. n * positions) (mul_left_comm size 2 kinds ∙ sym (mul_assoc 2 size kinds))

-- where nothing is wrong, the bytes behind the starts are the pages of the words, which are right
pub right-file : (oldest : Version) (bytes : List ℕ) → AreBytes bytes → fault_from oldest (whole bytes) ≡ None
    → (drop (front_length (header_of_file bytes)) bytes ≡ pages_text (header_of_file bytes).version (digest_in (header_of_file bytes) bytes) (words_a_page (header_of_file bytes).kinds) (words_of_file bytes))
    × AreRight (list_of (game_in (head_in (header_of_file bytes) bytes)) (header_of_file bytes).rounds (words_of_file bytes))
right-file oldest bytes are right =
    let h = header_of_file bytes in
    let pages = pages_in_file bytes in
    let k = front_length h in
    let rest : List ℕ = drop k bytes in
    let front = none_or (short_fault (whole bytes)) _ (none_or _ _ right).0 in
    let behind = none_or (header_fault oldest (length bytes) bytes) (starts_wrong h bytes) front.1 in
    let valid = right-header oldest (length bytes) bytes behind.0 in
    let size = length-right (length bytes) (file_length h) (all-header oldest (length bytes) bytes behind.0).2 in
    let some = (pages-valid h (digest_in h bytes) valid).some in
    let two : 2 * h.kinds * h.positions ≡ 2 * (h.kinds * h.positions) = mul_assoc 2 h.kinds h.positions in
    let many : page_count pages ≡ pages_in 1024 h.positions = pages-same (2 * h.kinds) h.positions (words-some h.kinds some) in
    let cells : word_size h.version * (2 * h.kinds * h.positions) ≡ 2 * word_size h.version * h.kinds * h.positions = same-cells (word_size h.version) h.kinds h.positions in
    let long : length rest ≡ word_size pages.version * pages.count + 32 * page_count pages = length-drop k bytes ∙ omega (arith, size, many, cells) in
    let no_flaw : flaw_in pages rest ≡ None = mapped_none (flaw_in pages rest) (none_or _ _ right).1 in
    let head = head_in h bytes in
    let within = words-within pages rest (h.kinds * 1024) (h.kinds * h.positions) (mul_assoc 2 h.kinds 1024) two no_flaw in (
      pages-back pages rest some (AreBytes-drop k bytes are) long no_flaw,
      words-right (game_in head) h.rounds (words_of_file bytes) (length-words_in pages rest some ∙ words-many h bytes valid)
          (subst (λ bound. LieWithin bound (words_of_file bytes)) (sym (bound-named head.name head.starts)) within),
    )
  where
    mapped_none : (flaw : Option Flaw) → option_map bad_of flaw ≡ None → flaw ≡ None
    mapped_none None none = refl
    mapped_none (Some flaw) none = absurd (grind (arith, none))
