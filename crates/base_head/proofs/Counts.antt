-- How many kinds, starts and positions there can be.
use Rattle.std.proofs.Common.{◌≤◌, ℕ, zero, suc, ◌*◌, Bool, List, length, arith}
use Rattle.std.proofs.Math.Nat.{mul-le-mul_left, mul-le-mul_right}
use Rattle.std.proofs.lemmas.List.{length-map}
use Rattle.std.proofs.lemmas.List.Sums.{length-filter, count_by-le-length}
use Rattle.std.proofs.lemmas.List.FromFn.{length-range_with_len}
use Rattle.std.specs.List.{filter, range_with_len}
use Rattle.position_rank.specs.LiveRanks.{is_live, live_below, live_positions, placement_at}
use Rattle.position_rank.specs.Ranks.{choose, layouts}
use Rattle.position_rank.proofs.RankLaws.{layouts-one, layouts-two, layouts-three}
use Rattle.cube_actions.specs.declared.name.MoneyRule.TheVariants.{Cubeless}
use Rattle.cube_actions.specs.declared.name.StakesName.{StakesName}
use Rattle.cube_actions.specs.declared.name.StakesName.TheVariants.{Unlimited, Match}
use Rattle.cube_actions.specs.Ladder.{in_order, ladder}
use Rattle.cube_actions.specs.MatchKinds.{can_come, every_kind, match_kinds}
use Rattle.cube_actions.specs.Names.{name_of, names_of}
use Rattle.cube_actions.specs.Scores.{MatchScore}
use Rattle.base_head.specs.declared.header.Header.{Header}
use Rattle.word_pages.specs.declared.version.Version.{Version}
use Rattle.word_pages.specs.declared.version.Version.TheVariants.{One, Two, Three}
use Rattle.word_pages.specs.Words.{word_size}
use Rattle.base_head.specs.Headers.{IsHeader, IsLengthOf, digest_place, pair_size, starts_told}

filter-few : {X : Type 0} (p : X → Bool) (xs : List X) → length (filter p xs) ≤ length xs
filter-few p xs = omega (arith, length-filter p xs, count_by-le-length p xs)

kinds-few : (score : MatchScore) → length (match_kinds score) ≤ 14
unfolding match_kinds
kinds-few score = filter-few (can_come score) every_kind

pub names-few : (name : StakesName) → length (names_of name) ≤ 14
names-few (Unlimited Cubeless) = omega arith
names-few (Unlimited _) = omega arith
names-few (Match score) = omega (arith, length-map (match_kinds score) name_of, kinds-few score)

one_to_five : (P : ℕ → Type 0) → P 1 → P 2 → P 3 → P 4 → P 5 → (n : ℕ) → 1 ≤ n → n ≤ 5 → P n
one_to_five P a b c d e zero from to = absurd (omega arith)
one_to_five P a b c d e (suc zero) from to = a
one_to_five P a b c d e (suc (suc zero)) from to = b
one_to_five P a b c d e (suc (suc (suc zero))) from to = c
one_to_five P a b c d e (suc (suc (suc (suc zero)))) from to = d
one_to_five P a b c d e (suc (suc (suc (suc (suc zero))))) from to = e
one_to_five P a b c d e (suc (suc (suc (suc (suc (suc n)))))) from to = absurd (omega arith)

pub ladder-few : (n : ℕ) → 1 ≤ n → n ≤ 5 → length (ladder n) ≤ 18
unfolding ladder in_order
ladder-few = one_to_five (λ n. length (ladder n) ≤ 18) (omega arith) (omega arith) (omega arith) (omega arith) (omega arith)

pub starts-few : (name : StakesName) (match_length : ℕ) → IsLengthOf name match_length → starts_told match_length name ≤ 17
starts-few (Unlimited rule) match_length is = omega arith
starts-few (Match score) match_length is = omega (arith, is.listed, ladder-few match_length is.from is.to)

squares-few : (layouts : ℕ) → layouts ≤ 3276 → layouts * layouts ≤ 10732176
squares-few layouts few =
    let one : layouts * layouts ≤ layouts * 3276 = mul-le-mul_left layouts few in
    omega (arith, one, few)

layouts-few : (checkers : ℕ) → checkers ≤ 3 → layouts checkers ≤ 3276
unfolding choose
layouts-few zero few = omega arith
layouts-few (suc zero) few = omega (arith, layouts-one)
layouts-few (suc (suc zero)) few = omega (arith, layouts-two)
layouts-few (suc (suc (suc zero))) few = omega (arith, layouts-three)
layouts-few (suc (suc (suc (suc n)))) few = absurd (omega arith)

below-few : (checkers n : ℕ) → live_below checkers n ≤ n
unfolding live_below
below-few checkers n = omega (arith, count_by-le-length (λ below. is_live (placement_at checkers below)) (range_with_len 0 n), length-range_with_len 0 n)

pub positions-few : (checkers : ℕ) → checkers ≤ 3 → live_positions checkers ≤ 10732176
positions-few checkers few = omega (arith, below-few checkers (layouts checkers * layouts checkers), squares-few (layouts checkers) (layouts-few checkers few))

pub header-starts-few : (header : Header) → IsHeader header → header.starts ≤ 17
header-starts-few header is = omega (arith, is.starts, starts-few header.name header.match_length is.fitting)

pub header-kinds-few : (header : Header) → IsHeader header → header.kinds ≤ 14
header-kinds-few header is = omega (arith, is.kinds, names-few header.name)

pub header-positions-few : (header : Header) → IsHeader header → header.positions ≤ 10732176
header-positions-few header is = omega (arith, is.positions, positions-few header.checkers is.few)

word_size-low : (version : Version) → word_size version ≤ 8
word_size-low One = omega arith
word_size-low Two = omega arith
word_size-low Three = omega arith

pub digest_place-low : (header : Header) → IsHeader header → digest_place header ≤ 336
digest_place-low header is =
    let word = word_size-low header.version in
    let size : 2 * word_size header.version ≤ 16 = omega (arith, word) in
    let pairs : 2 * word_size header.version * header.starts ≤ 16 * header.starts = mul-le-mul_right header.starts size in
    omega (arith, pairs, header-starts-few header is)

pub body-low : (header : Header) → IsHeader header → pair_size header.version * header.kinds * header.positions ≤ 2404007424
body-low header is =
    let word = word_size-low header.version in
    let size : 2 * word_size header.version ≤ 16 = omega (arith, word) in
    let kinds : 2 * word_size header.version * header.kinds ≤ 16 * header.kinds = mul-le-mul_right header.kinds size in
    let few : 2 * word_size header.version * header.kinds ≤ 224 = omega (arith, kinds, header-kinds-few header is) in
    let all : 2 * word_size header.version * header.kinds * header.positions ≤ 224 * header.positions = mul-le-mul_right header.positions few in
    omega (arith, all, header-positions-few header is)
