-- The words of pages, where they are looked up by states.
use Rattle.std.proofs.Common.{◌≡◌, ◌∙◌, ℕ, suc, ◌+◌, ◌*◌, ◌-◌, ◌/◌, ◌%◌, ◌<◌, ◌≤◌, min, sum, List, [], length, drop, Option, None, Some, refl, sym, ap, subst, arith}
use Rattle.std.proofs.Math.Nat.{div-add-mod, le-div_iff_mul-le, mod-lt, mul-add, mul-le-mul_left, mul-le-mul_right, mul_assoc, mul_comm, mul_left_comm, suc-mul}
use Rattle.std.proofs.lemmas.Int.{ints}
use Rattle.position_rank.specs.Placement.{Placement}
use Rattle.position_rank.specs.LiveRanks.{live_rank_of, live_positions}
use Rattle.position_rank.proofs.LiveLaws.{live-rank-in}
use Rattle.directed_fixed.specs.declared.bounds.End.TheVariants.{Lower, Upper}
use Rattle.directed_fixed.specs.Bounds.{IsWithin}
use Rattle.cube_actions.specs.Stakes.{bound_of}
use Rattle.cube_actions.specs.Names.{names_of}
use Rattle.cube_actions.specs.declared.name.StakesName.{StakesName}
use Rattle.outside_log.specs.Files.{Contents}
use Rattle.turn_rule.specs.States.{AreWithinOf, IsStateOf}
use Rattle.word_pages.specs.declared.flaws.Flaw.{Flaw}
use Rattle.word_pages.specs.Pages.{pages_in}
use Rattle.word_pages.proofs.Texts.{length-words_of}
use Rattle.base_head.specs.declared.header.Header.{Header}
use Rattle.base_head.specs.Headers.{IsHeader}
use Rattle.database_file.specs.Pages.{page_count, whole_page, words_on}
use Rattle.database_file.specs.Faults.{pages_behind}
use Rattle.database_file.specs.Paged.{IsPagedFile, IsSourceOfHead, bound_end, digest_told, flaw_at, page_bytes, page_of, pages_told, paged_source_of, state_on_page, told_unless, told_words, word_at}
use Rattle.database_file.specs.PagedFiles.{PagedFile}
use Rattle.database_file.proofs.Bases.{bound-named, kinds-named, pages-valid}
use Rattle.database_file.proofs.PageLists.{page-within}
use Rattle.database_file.proofs.RightFiles.{pages-same}

-- a number below so many is on one of the pages of 1,024, and its words stand on that page
on-page : (kinds positions rank k : ℕ) → rank < positions → k < kinds
    → (rank / 1024 < pages_in (2 * kinds * 1024) (2 * kinds * positions))
    × (2 * (rank % 1024 * kinds + k) + 1 < min (2 * kinds * 1024) (2 * kinds * positions - rank / 1024 * (2 * kinds * 1024)))
on-page kinds positions rank k below kind =
    let m = 2 * kinds in
    let q = rank / 1024 in
    let r = rank % 1024 in
    let split = div-add-mod rank 1024 in
    let low = mod-lt rank {m = 1024} (omega arith) in
    let same = pages-same m positions (omega (arith, kind)) in
    let one = (le-div_iff_mul-le {k = 1024} {x = suc q} {y = positions + (1024 - 1)} (omega arith)).1 (omega (arith, split, below)) in
    let next : (r + 1) * kinds ≡ r * kinds + kinds = more r kinds in
    let full : (r + 1) * kinds ≤ 1024 * kinds = mul-le-mul_right kinds (omega (arith, low)) in
    let twice : m * (r + 1) ≡ 2 * ((r + 1) * kinds) = mul_assoc 2 kinds (r + 1) ∙ ap (λ n. 2 * n) (mul_comm kinds (r + 1)) in
    let whole : m * 1024 ≡ 2 * (1024 * kinds) = mul_assoc 2 kinds 1024 ∙ ap (λ n. 2 * n) (mul_comm kinds 1024) in
    let before : q * (m * 1024) ≡ m * (1024 * q) = mul_left_comm q m 1024 ∙ ap (λ n. m * n) (mul_comm q 1024) in
    let up : m * (1024 * q + (r + 1)) ≤ m * positions = mul-le-mul_left m (omega (arith, split, below)) in
    let parts = mul-add m (1024 * q) (r + 1) in (
      subst (λ n. q < n) (sym same) (omega (arith, one)),
      omega (arith, next, full, twice, whole, before, up, parts, kind),
    )
  where
    more : (r n : ℕ) → (r + 1) * n ≡ r * n + n
    more r n = ap (λ k. k * n) (suc_is r) ∙ suc-mul r n
      where
        suc_is : (r : ℕ) → r + 1 ≡ suc r
        suc_is r = omega arith

-- a state of a header's game stands on one of its pages
pub state-stands : (header : Header) (digest : List ℕ) → IsHeader header → (p : Placement) (k : ℕ) → IsStateOf header.checkers header.kinds p k
    → (page_of p < page_count (pages_behind header digest)) × (2 * state_on_page header.kinds p k + 1 < words_on (pages_behind header digest) (page_of p))
state-stands header digest valid p k is =
    let many : live_positions (sum p.mover) ≡ header.positions = ap live_positions is.many ∙ sym valid.positions in
    on-page header.kinds header.positions (live_rank_of p) k (subst (λ n. live_rank_of p < n) many (live-rank-in p is.position is.live)) is.kind

-- what is told of each state lies within the bound, the lower end at most the upper one
pub told-within : (header : Header) (file : Option (List ℕ)) → IsHeader header → AreWithinOf header.checkers header.kinds (bound_of header.name) (told_words header file)
told-within header file valid p k is = by_flaw (flaw_at header file p) refl
  where
    by_flaw : (flaw : Option Flaw) → flaw_at header file p ≡ flaw → IsWithin (bound_of header.name) (record {
      lower = told_unless flaw (word_at header file Lower p k) (bound_end (bound_of header.name) Lower);
      upper = told_unless flaw (word_at header file Upper p k) (bound_end (bound_of header.name) Upper);
    })
    by_flaw None right =
        let pages = pages_told header file in
        let stands = (state-stands header (digest_told header file) valid p k is).1 in
        let long = length-words_of header.version (words_on pages (page_of p)) (drop (page_of p * whole_page pages) (page_bytes header file)) in
        page-within pages (page_bytes header file) (page_of p) right (state_on_page header.kinds p k) (omega (arith, stands, long))
    by_flaw (Some flaw) wrong =
        let from = (pages-valid header [] valid).from in
        record { from = omega (arith, ints); in_order = omega (arith, ints, from); to = omega (arith, ints) }

-- the words of the head's game are looked up in its file
pub source-of-head : (base : PagedFile) (index : ℕ) (held : Contents) → IsPagedFile base.header base.head base.digest index base.kept → IsSourceOfHead (paged_source_of base held) base.head
source-of-head base index held is = record {
  checkers = sym is.checkers;
  stakes = record {
    kinds = is.valid.kinds ∙ ap (λ (name : StakesName). length (names_of name)) (sym is.name) ∙ kinds-named base.head.name base.head.starts;
    bound = ap bound_of (sym is.name) ∙ sym (bound-named base.head.name base.head.starts);
  };
}
