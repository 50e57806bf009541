-- The word of a state among those of all pages.
use Rattle.std.proofs.Common.{◌≡◌, ◌∙◌, ℕ, ◌+◌, ◌*◌, ◌/◌, ◌%◌, ◌<◌, ℤ, true, List, drop, slice_index, Option, None, Some, refl, sym, ap, arith}
use Rattle.std.proofs.Math.Nat.{div-add-mod, mul-add, mul_assoc, mul_comm, mul_left_comm}
use Rattle.std.proofs.lemmas.Int.{ints}
use Rattle.std.proofs.lemmas.List.{get_or-drop, get_or-take}
use Rattle.std.specs.Option.{option_map}
use Rattle.position_rank.specs.Placement.{Placement}
use Rattle.position_rank.specs.LiveRanks.{live_rank_of}
use Rattle.directed_fixed.specs.declared.bounds.End.{End}
use Rattle.directed_fixed.specs.declared.bounds.End.TheVariants.{Lower, Upper}
use Rattle.directed_fixed.specs.Bounds.{IsNoLooser}
use Rattle.outside_log.specs.Files.{Contents}
use Rattle.turn_rule.specs.States.{IsStateOf}
use Rattle.turn_rule.specs.Looks.{Damage, IsAnswer}
use Rattle.word_pages.specs.declared.flaws.Flaw.{Flaw}
use Rattle.interval_words.specs.Numbers.{state_of, value_of, word_of, words_of}
use Rattle.base_head.specs.declared.header.Header.{Header}
use Rattle.base_head.specs.Fronts.{digest_in}
use Rattle.base_head.specs.Headers.{IsHeader, front_length}
use Rattle.database_file.specs.declared.pages.Pages.{Pages}
use Rattle.database_file.specs.Pages.{page_count, page_words, words_listed, words_on}
use Rattle.database_file.specs.Faults.{pages_behind}
use Rattle.database_file.specs.PagedFiles.{PagedFile}
use Rattle.database_file.specs.Paged.{damage_of, flaw_at, notes_of, page_of, paged_source_of, state_on_page, word_at}
use Rattle.database_file.proofs.Bases.{pages-valid}
use Rattle.database_file.proofs.PageLists.{page-part}
use Rattle.database_file.proofs.PagedLooks.{told-right}
use Rattle.database_file.proofs.PagedWords.{state-stands}

-- a word of a page stands behind those of the pages before
among-all : (pages : Pages) (bytes : List ℕ) (page i : ℕ) → 0 < pages.size → page < page_count pages → i < words_on pages page
    → slice_index (page_words pages bytes page) i ≡ slice_index (words_listed pages bytes) (page * pages.size + i)
among-all pages bytes page i some there inside =
    ap (λ (words : List ℕ). slice_index words i) (sym (page-part pages bytes page some there))
    ∙ get_or-take pages.size (drop (page * pages.size) (words_listed pages bytes)) i 0 (omega (arith, inside))
    ∙ get_or-drop (page * pages.size) (words_listed pages bytes) i 0

-- the number of a state among all, by that of its page and that on the page
number-split : (kinds rank k : ℕ) → rank / 1024 * (2 * kinds * 1024) + 2 * (rank % 1024 * kinds + k) ≡ 2 * (rank * kinds + k)
number-split kinds rank k =
    let q = rank / 1024 in
    let r = rank % 1024 in
    let whole : rank * kinds ≡ kinds * (1024 * q) + kinds * r = mul_comm rank kinds ∙ ap (λ n. kinds * n) (sym (div-add-mod rank 1024)) ∙ mul-add kinds (1024 * q) r in
    let page : q * (2 * kinds * 1024) ≡ 2 * (kinds * (1024 * q)) =
    mul_left_comm q (2 * kinds) 1024 ∙ ap (λ n. 2 * kinds * n) (mul_comm q 1024) ∙ mul_assoc 2 kinds (1024 * q) in
    omega (arith, whole, page, mul_comm r kinds)

place : (end : End) (size before state number : ℕ) → before * size + 2 * state ≡ 2 * number → before * size + word_of end state ≡ word_of end number
place Lower size before state number same = same
place Upper size before state number same = omega (arith, same)

inside : (end : End) (state count : ℕ) → 2 * state + 1 < count → word_of end state < count
inside Lower state count less = omega (arith, less)
inside Upper state count less = less

pub word-among : (header : Header) (bytes : List ℕ) (end : End) (p : Placement) (k : ℕ) → IsHeader header → IsStateOf header.checkers header.kinds p k
    → word_at header (Some bytes) end p k ≡ words_of header.kinds (words_listed (pages_behind header (digest_in header bytes)) (drop (front_length header) bytes)) end p k
unfolding value_of state_of
word-among header bytes end p k valid is =
    let pages = pages_behind header (digest_in header bytes) in
    let rest : List ℕ = drop (front_length header) bytes in
    let stands = state-stands header (digest_in header bytes) valid p k is in
    let state = state_on_page header.kinds p k in
    ap value_of (among-all pages rest (page_of p) (word_of end state) (pages-valid header (digest_in header bytes) valid).some stands.0 (inside end state (words_on pages (page_of p)) stands.1)
    ∙ ap (slice_index (words_listed pages rest)) (place end pages.size (page_of p) state (live_rank_of p * header.kinds + k) (number-split header.kinds (live_rank_of p) k)))

-- no looser one way and the other is the same
same-both : (end : End) (a b : ℤ) → IsNoLooser end a b → IsNoLooser end b a → a ≡ b
same-both Lower a b one other = omega (arith, ints, one, other)
same-both Upper a b one other = omega (arith, ints, one, other)

pub answer-exact : (base : PagedFile) (held : Contents) (end : End) (p : Placement) (k : ℕ) (value : ℤ) → IsAnswer end (paged_source_of base held) (notes_of base true held) p k value
    → (flaw_at base.header (held base.name) p ≡ None) × (value ≡ word_at base.header (held base.name) end p k)
answer-exact base held end p k value answer =
    let right = no-flaw (flaw_at base.header (held base.name) p) (answer.right refl) in
    (right, same-both end _ _ (answer.floor refl) (answer.notes refl) ∙ told-right base.header (held base.name) end p k right)
  where
    no-flaw : (flaw : Option Flaw) → option_map damage_of flaw ≡ None → flaw ≡ None
    no-flaw None none = refl
    no-flaw (Some flaw) some = absurd (grind (arith, some))

pub damage-is : (flaw : Option Flaw) (damage : Damage) → option_map damage_of flaw ≡ Some damage → flaw ≡ Some (record { fault = damage.fault; at = damage.at })
damage-is None damage is = absurd (grind (arith, is))
damage-is (Some flaw) damage is = ap (λ (damage : Option Damage). option_map flaw_of damage) is
  where
    flaw_of : Damage → Flaw
    flaw_of damage = record { fault = damage.fault; at = damage.at }
