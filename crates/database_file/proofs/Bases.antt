-- A head with words.
use Rattle.std.proofs.Common.{ℤ, pos, ◌≤ℤ◌, ◌≡◌, ◌∙◌, ℕ, ◌+◌, ◌-◌, ◌*◌, ◌<◌, ◌≤◌, List, length, refl, sym, ap, ap₂, arith}
use Rattle.std.proofs.Math.Nat.{div-mul-le_self, mul-add, mul-le-mul, mul-le-mul_left, mul-le-mul_right, mul_assoc, mul_comm, mul_left_comm}
use Rattle.directed_fixed.specs.declared.word.TheConstants.{WORD_OFFSET}
use Rattle.directed_fixed.specs.Bounds.{IsWithin}
use Rattle.cube_actions.specs.declared.name.MoneyRule.TheVariants.{Cubeless}
use Rattle.cube_actions.specs.declared.name.StakesName.{StakesName}
use Rattle.cube_actions.specs.declared.name.StakesName.TheVariants.{Unlimited, Match}
use Rattle.cube_actions.specs.Stakes.{bound_of}
use Rattle.cube_actions.specs.Starts.{StartPairs}
use Rattle.turn_rule.specs.declared.game.Game.{Game}
use Rattle.word_pages.specs.Flaws.{LieWithin}
use Rattle.interval_words.specs.Core.{words_in}
use Rattle.interval_words.specs.Numbers.{states_in, value_of}
use Rattle.interval_words.specs.WordLists.{AreRight, list_of, pair_at}
use Rattle.std.proofs.lemmas.Int.{ints}
use Rattle.std.proofs.lemmas.List.{length-map}
use Rattle.cube_actions.specs.Matches.{match_kind}
use Rattle.cube_actions.specs.MatchKinds.{match_kinds}
use Rattle.cube_actions.specs.Names.{name_of, names_of}
use Rattle.cube_actions.specs.Scores.{MatchScore}
use Rattle.word_pages.specs.declared.version.Version.{Version}
use Rattle.word_pages.specs.declared.version.Version.TheVariants.{One, Two, Three}
use Rattle.word_pages.specs.Words.{word_size}
use Rattle.base_head.specs.declared.header.Header.{Header}
use Rattle.base_head.specs.Fronts.{head_in}
use Rattle.base_head.specs.Headers.{IsHeader, front_length}
use Rattle.base_head.proofs.Counts.{header-kinds-few, header-positions-few}
use Rattle.database_file.specs.declared.pages.Pages.{Pages}
use Rattle.database_file.specs.Pages.{ArePages, page_count, place_of, whole_page}
use Rattle.database_file.specs.Faults.{pages_behind}
use Rattle.database_file.specs.Texts.{game_in, words_a_page}
use Rattle.database_file.proofs.FrontBytes.{front-low}
use Rattle.cube_actions.specs.Matches.{stakes_named}
use Rattle.base_head.specs.Heads.{stakes_of}

-- the bound of stakes is that of their name
pub bound-named : (name : StakesName) (starts : StartPairs) → (stakes_named name starts).bound ≡ bound_of name
bound-named (Unlimited rule) starts = refl
bound-named (Match score) starts = refl

-- pairs within the bound are the pairs of states
pairs-are : (bound : ℤ) (list : List ℕ) (state : ℕ) → LieWithin bound list → 2 * state + 1 < length list → IsWithin bound (pair_at list state)
unfolding value_of
pairs-are bound list state within there = within state there

pub words-right : (game : Game) (rounds : ℕ) (list : List ℕ) → length list ≡ words_in game → LieWithin game.stakes.bound list → AreRight (list_of game rounds list)
words-right game rounds list long within = record {
  long = long;
  within = λ state there. pairs-are game.stakes.bound list state within (omega (arith, there, long));
}

-- ---- the pages of a file

pages-low : (pages : Pages) → 0 < pages.size → place_of pages (page_count pages) ≤ pages.at + 40 * (pages.count + pages.size)
pages-low pages some =
    let n = page_count pages in
    let cover = div-mul-le_self (pages.count + (pages.size - 1)) pages.size in
    let whole : n * whole_page pages ≡ word_size pages.version * (n * pages.size) + n * 32 = mul-add n (word_size pages.version * pages.size) 32 ∙ ap (λ words. words + n * 32) (mul_left_comm n (word_size pages.version) pages.size) in
    let few : n * 1 ≤ n * pages.size = mul-le-mul_left n (omega (arith, some)) in
    let words : word_size pages.version * (n * pages.size) ≤ 8 * (n * pages.size) = mul-le-mul_right (n * pages.size) (word-low pages.version) in
    omega (arith, cover, whole, few, words)
  where
    word-low : (version : Version) → word_size version ≤ 8
    word-low One = omega arith
    word-low Two = omega arith
    word-low Three = omega arith

kinds-some : (score : MatchScore) → 0 < length (match_kinds score)
unfolding match_kinds
kinds-some score = omega arith

names-some : (name : StakesName) → 0 < length (names_of name)
names-some (Unlimited Cubeless) = omega arith
names-some (Unlimited _) = omega arith
names-some (Match score) = omega (arith, length-map (match_kinds score) name_of, kinds-some score)

-- each kind has a name
pub kinds-named : (name : StakesName) (starts : StartPairs) → length (names_of name) ≡ length (stakes_named name starts).kinds
kinds-named (Unlimited Cubeless) starts = refl
kinds-named (Unlimited _) starts = refl
kinds-named (Match score) starts = length-map (match_kinds score) name_of ∙ sym (length-map (match_kinds score) (match_kind starts score))

from-zero : (name : StakesName) → pos 0 ≤ℤ bound_of name
from-zero (Unlimited rule) = omega (arith, ints)
from-zero (Match score) = omega (arith, ints)

to-offset : (name : StakesName) → bound_of name ≤ℤ WORD_OFFSET
to-offset (Unlimited rule) = omega (arith, ints)
to-offset (Match score) = omega (arith, ints)

-- a file's header gives pages that can be read
pub pages-valid : (header : Header) (digest : List ℕ) → IsHeader header → ArePages (pages_behind header digest)
pages-valid header digest valid =
    let kinds = header-kinds-few header valid in
    let positions = header-positions-few header valid in
    let front : front_length header ≤ 368 = front-low header valid in
    let words : header.kinds * header.positions ≤ 14 * 10732176 = mul-le-mul kinds positions in
    let count : 2 * header.kinds * header.positions ≡ 2 * (header.kinds * header.positions) = mul_assoc 2 header.kinds header.positions in
    let some : 0 < words_a_page header.kinds = omega (arith, valid.kinds, names-some header.name) in
    let low = pages-low (pages_behind header digest) some in
    record {
      some = some;
      few = omega (arith, kinds);
      from = from-zero header.name;
      to = to-offset header.name;
      words = omega (arith, words, count);
      places = omega (arith, low, front, words, count, kinds);
    }

-- so many words does the game of a header's head have
pub words-many : (header : Header) (bytes : List ℕ) → IsHeader header → 2 * header.kinds * header.positions ≡ words_in (game_in (head_in header bytes))
unfolding states_in
words-many header bytes valid =
    let head = head_in header bytes in
    let kinds : header.kinds ≡ length (stakes_of head).kinds = valid.kinds ∙ kinds-named header.name head.starts in
    mul_assoc 2 header.kinds header.positions ∙ ap (λ n. 2 * n) (mul_comm header.kinds header.positions ∙ ap₂ (λ (positions : ℕ) (kinds : ℕ). positions * kinds) valid.positions kinds)
