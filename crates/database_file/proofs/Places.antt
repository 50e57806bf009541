-- Pages that stand where they belong.
use Rattle.std.proofs.Common.{◌≡◌, ◌≢◌, ◌∙◌, ◌⊎◌, inl, inr, ℕ, ◌-◌, ◌*◌, ◌<◌, ◌≤◌, ◌^◌, Bool, true, false, List, [], ◌++◌, length, take, drop, Option, None, Some, refl, sym, ap, subst, arith}
use Rattle.std.proofs.Math.Nat.{mul-le-mul_left}
use Rattle.std.proofs.Math.Seq.{take-append_seam}
use Rattle.std.proofs.lemmas.Bool.{false≢true}
use Rattle.std.proofs.lemmas.List.{drop-drop, take-take}
use Rattle.std.proofs.lemmas.Slice.Eq.{bytes_eq-Decides}
use Rattle.std.specs.Option.{option_map}
use Rattle.std.specs.Str.{bytes_eq}
use Rattle.sha2.specs.Sha256.{sha256}
use Rattle.sha2.proofs.Facts256.{length-sha256}
use Rattle.word_pages.specs.declared.flaws.Flaw.{Flaw}
use Rattle.word_pages.specs.declared.version.Version.{Version}
use Rattle.word_pages.specs.declared.version.Version.TheVariants.{Three}
use Rattle.word_pages.specs.Pages.{AreBytes, page_size}
use Rattle.word_pages.specs.Sealed.{AreTwins, binding_of, is_sealed_under}
use Rattle.word_pages.proofs.Bound.{binding-one, page-sealed, sealed-twice}
use Rattle.word_pages.proofs.Seals.{length-sealed}
use Rattle.base_head.specs.declared.header.Header.{Header}
use Rattle.base_head.specs.Fronts.{bad_of, digest_in, front_text, head_digest, head_text}
use Rattle.base_head.specs.HeaderFaults.{header_fault}
use Rattle.base_head.specs.Headers.{digest_place, front_length, header_of}
use Rattle.base_head.proofs.Checked.{none_or}
use Rattle.base_head.proofs.FrontTexts.{digest-read, front-of, header-read, length-front}
use Rattle.database_file.specs.declared.pages.Pages.{Pages}
use Rattle.database_file.specs.Faults.{fault_from, front_fault_from, header_of_file, pages_in_file, short_fault, starts_wrong, whole}
use Rattle.database_file.specs.Pages.{ArePages, binding_on, flaw_in, page_count, place_of, whole_page, words_on}
use Rattle.database_file.specs.Places.{digested, head_part, page_part}
use Rattle.database_file.proofs.Bases.{pages-valid}
use Rattle.database_file.proofs.FileTexts.{front-none, latest}
use Rattle.database_file.proofs.FrontBytes.{right-header}
use Rattle.database_file.proofs.PageLists.{each_right}

-- ---- the head

record HeadDigest (bytes : List ℕ) : Type 0 where
  version : (header_of_file bytes).version ≡ Three
  digest : digest_in (header_of_file bytes) bytes ≡ sha256 (head_part bytes)

-- the digest that stands in a file of version 3 without a fault is that of header and starts
head-digest : (bytes : List ℕ) → AreBytes bytes → fault_from Three (whole bytes) ≡ None → HeadDigest bytes
head-digest bytes are right =
    let front = front-of Three bytes are (front-none Three bytes right) in
    let version = front.0 in
    let head = front.1 in
    let is = front.3 in
    let h = header_of version head in
    let d = digest_place h in
    let k = front_length h in
    let text : List ℕ = head_text version head in
    let header : header_of_file bytes ≡ h = header-read version head bytes is in
    let count : length text ≡ d = omega (arith, length-front version head, length-sealed [] text) in
    let part : take d bytes ≡ text =
    sym (take-take d k bytes (omega arith)) ∙ ap (take d) is.text ∙ ap (λ (n : ℕ). take n (front_text version head)) (sym count) ∙ take-append_seam text (head_digest version head) in
    record {
      version = ap (λ (h : Header). h.version) header ∙ latest version front.2;
      digest = subst (λ (h : Header). digest_in h bytes ≡ sha256 (take (digest_place h) bytes)) (sym header) (digest-read version head bytes is ∙ ap sha256 (sym part));
    }

-- ---- a page

-- a page of a file without a fault is sealed
part-sealed : (bytes : List ℕ) (page : ℕ) → fault_from Three (whole bytes) ≡ None → page < page_count (pages_in_file bytes) → is_sealed_under (binding_on (pages_in_file bytes) page) (page_part bytes page) ≡ true
part-sealed bytes page right there =
    let pages = pages_in_file bytes in
    let rest : List ℕ = drop pages.at bytes in
    let none : flaw_in pages rest ≡ None = mapped_none (flaw_in pages rest) (none_or (front_fault_from Three (whole bytes)) _ right).1 in
    let flaw = each_right pages rest (page_count pages) none page there in
    let sealed = (page-sealed pages.version (binding_on pages page) pages.bound (words_on pages page) (place_of pages page) (drop (page * whole_page pages) rest) flaw).1 in
    subst (λ (there : List ℕ). is_sealed_under (binding_on pages page) (take (page_size pages.version (words_on pages page)) there) ≡ true) (drop-drop (page * whole_page pages) pages.at bytes) sealed
  where
    mapped_none : (flaw : Option Flaw) → option_map bad_of flaw ≡ None → flaw ≡ None
    mapped_none None none = refl
    mapped_none (Some flaw) none = absurd (grind (arith, none))

-- its number takes no more than 8 bytes
number-low : (pages : Pages) (page : ℕ) → ArePages pages → page < page_count pages → page < 2 ^ 64
number-low pages page are there =
    let some : 1 ≤ whole_page pages = omega arith in
    let few : page_count pages * 1 ≤ page_count pages * whole_page pages = mul-le-mul_left (page_count pages) some in
    omega (arith, few, are.places, there)

pages-are : (bytes : List ℕ) → fault_from Three (whole bytes) ≡ None → ArePages (pages_in_file bytes)
pages-are bytes right =
    let front = none_or (short_fault (whole bytes)) _ (none_or (front_fault_from Three (whole bytes)) _ right).0 in
    let behind = none_or (header_fault Three (length bytes) bytes) (starts_wrong (header_of_file bytes) bytes) front.1 in
    pages-valid (header_of_file bytes) (digest_in (header_of_file bytes) bytes) (right-header Three (length bytes) bytes behind.0)

-- ---- two of them

same-or-other : (one other : List ℕ) → (one ≡ other) ⊎ (one ≢ other)
same-or-other one other = by_test (bytes_eq one other) refl
  where
    by_test : (b : Bool) → bytes_eq one other ≡ b → (one ≡ other) ⊎ (one ≢ other)
    by_test true is = inl ((bytes_eq-Decides one other).0 is)
    by_test false is = inr (λ same. false≢true (sym is ∙ (bytes_eq-Decides one other).1 same))

module _ (bytes other : List ℕ) (page other_page : ℕ) (are : AreBytes bytes) (are_too : AreBytes other) (right : fault_from Three (whole bytes) ≡ None) (right_too : fault_from Three (whole other) ≡ None)
    (there : page < page_count (pages_in_file bytes)) (there_too : other_page < page_count (pages_in_file other)) (same : page_part bytes page ≡ page_part other other_page) where
  abbrev pub Outcome : Type 0
  Outcome = ((page ≡ other_page) × (head_part bytes ≡ head_part other)) ⊎ (AreTwins (head_part bytes) (head_part other) ⊎ AreTwins (digested bytes page) (digested other other_page))

  by_heads : digest_in (header_of_file bytes) bytes ≡ digest_in (header_of_file other) other → page ≡ other_page → (head_part bytes ≡ head_part other) ⊎ (head_part bytes ≢ head_part other) → Outcome
  by_heads digests numbers (inl heads) = inl (numbers, heads)
  by_heads digests numbers (inr differ) =
      inr (inl (record { differ = differ; same = sym (head-digest bytes are right).digest ∙ digests ∙ (head-digest other are_too right_too).digest }))

  by_bindings : (binding_on (pages_in_file bytes) page ≡ binding_on (pages_in_file other) other_page) ⊎ (binding_on (pages_in_file bytes) page ≢ binding_on (pages_in_file other) other_page) → Outcome
  by_bindings (inl bindings) =
      let head = head-digest bytes are right in
      let head_too = head-digest other are_too right_too in
      let digest = digest_in (header_of_file bytes) bytes in
      let digest_too = digest_in (header_of_file other) other in
      let long : length digest ≡ length digest_too =
      ap (λ (d : List ℕ). length d) head.digest ∙ length-sha256 (head_part bytes) ∙ sym (ap (λ (d : List ℕ). length d) head_too.digest ∙ length-sha256 (head_part other)) in
      let is : binding_of Three digest page ≡ binding_of Three digest_too other_page =
      sym (ap (λ (v : Version). binding_of v digest page) head.version) ∙ bindings ∙ ap (λ (v : Version). binding_of v digest_too other_page) head_too.version in
      let one = binding-one digest digest_too page other_page long (number-low (pages_in_file bytes) page (pages-are bytes right) there) (number-low (pages_in_file other) other_page (pages-are other right_too) there_too) is in
      by_heads one.0 one.1 (same-or-other (head_part bytes) (head_part other))
  by_bindings (inr differ) =
      let binding = binding_on (pages_in_file bytes) page in
      let binding_too = binding_on (pages_in_file other) other_page in
      let sealed_too = subst (λ (part : List ℕ). is_sealed_under binding_too part ≡ true) (sym same) (part-sealed other other_page right_too there_too) in
      let twins = sealed-twice binding binding_too (page_part bytes page) (part-sealed bytes page right there) sealed_too differ in
      inr (inr (subst (λ (part : List ℕ). AreTwins (digested bytes page) (binding_too ++ take (length part - 32) part)) same twins))

  pub places : Outcome
  places = by_bindings (same-or-other (binding_on (pages_in_file bytes) page) (binding_on (pages_in_file other) other_page))
