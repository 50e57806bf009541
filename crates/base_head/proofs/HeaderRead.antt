-- A header that was written is read again, and nothing is wrong with it.
use Rattle.std.proofs.Common.{◌≡◌, ◌∙◌, ℕ, ◌<◌, ◌≤◌, Bool, true, false, not, ◌&&◌, nat_le, nat_lt, ◌==◌, if◌then◌else◌, List, [], ◌∷◌, ◌++◌, length, drop, None, Some, Option, refl, sym, ap, subst, arith}
use Rattle.std.proofs.lemmas.Bool.Decides.{nat_tests}
use Rattle.byteorder.specs.Numbers.{big_number-reads_back}
use Rattle.cube_actions.specs.declared.name.MoneyRule.{MoneyRule}
use Rattle.cube_actions.specs.declared.name.MoneyRule.TheVariants.{Cubeless, Money, Jacoby, MoneyBeavers, JacobyBeavers}
use Rattle.cube_actions.specs.declared.name.StakesName.{StakesName}
use Rattle.cube_actions.specs.declared.name.StakesName.TheVariants.{Unlimited, Match}
use Rattle.cube_actions.specs.declared.phase.Phase.{Phase}
use Rattle.cube_actions.specs.declared.phase.Phase.TheVariants.{Normal, Crawford, Post}
use Rattle.cube_actions.specs.Ladder.{ladder}
use Rattle.cube_actions.specs.Names.{names_of}
use Rattle.cube_actions.specs.Scores.{MatchScore}
use Rattle.cube_actions.specs.Starts.{ladder_place}
use Rattle.position_rank.specs.LiveRanks.{live_positions}
use Rattle.word_pages.specs.declared.version.Version.{Version}
use Rattle.word_pages.specs.declared.version.Version.TheVariants.{One, Two, Three}
use Rattle.base_head.specs.declared.fault.BadFile.{BadFile}
use Rattle.base_head.specs.declared.fault.FileFault.TheVariants as faults
use Rattle.base_head.specs.declared.fields.Fields.{Fields}
use Rattle.base_head.specs.declared.header.Header.{Header}
use Rattle.base_head.specs.Faults.{first_wrong}
use Rattle.base_head.specs.Heads.{TakesStakes}
use Rattle.base_head.specs.Headers.{HasScore, IsHeader, IsLengthOf, IsSince, far_field, near_field, phase_field, phase_number, rule_number, spelled, stakes_number, starts_told, version_number}
use Rattle.base_head.specs.HeaderFaults.{checkers_check, count_checks, field_checks, fields_of, header_in, is_from_to, is_phase_at, is_phase_in, last_stakes, match_checks, name_in, name_numbered, number_at, other_checks, phase_numbered, rule_numbered, score_in, stakes_checks, version_check, version_in, version_numbered}
use Rattle.base_head.proofs.Counts.{header-kinds-few, header-positions-few, header-starts-few}
use Rattle.base_head.proofs.FieldChecks.{after-name}
use Rattle.base_head.proofs.Scores.{score-numbers}

-- ---- the numbers that are written

-- the numbers that say a header
pub numbers_of : Header → Fields
numbers_of h = record {
  version = version_number h.version;
  checkers = h.checkers;
  stakes = stakes_number h.name;
  near = near_field h.name;
  far = far_field h.name;
  phase = phase_field h.name;
  match_length = h.match_length;
  kinds = h.kinds;
  rounds = h.rounds;
  starts = h.starts;
  positions = h.positions;
  rest = 0;
}

version-low : (version : Version) → version_number version ≤ 3
version-low One = omega arith
version-low Two = omega arith
version-low Three = omega arith

-- a rule's number is at most 5 and not a match's, and stands for it
record NumbersRule (rule : MoneyRule) : Type 0 where
  low : rule_number rule ≤ 5
  apart : (rule_number rule == 3) ≡ false
  same : rule_numbered (rule_number rule) ≡ rule

numbers-rule : (rule : MoneyRule) → NumbersRule rule
numbers-rule Cubeless = record { low = omega arith; apart = refl; same = refl }
numbers-rule _ = record { low = omega arith; apart = refl; same = refl }

stakes-low : (name : StakesName) → stakes_number name ≤ 5
stakes-low (Unlimited rule) = (numbers-rule rule).low
stakes-low (Match score) = omega arith

phase-low : (phase : Phase) → phase_number phase ≤ 2
phase-low Normal = omega arith
phase-low Crawford = omega arith
phase-low Post = omega arith

record LowName (name : StakesName) (match_length : ℕ) : Type 0 where
  near : near_field name ≤ 5
  far : far_field name ≤ 5
  phase : phase_field name ≤ 2
  short : match_length ≤ 5

name-low : (name : StakesName) (match_length : ℕ) → IsLengthOf name match_length → LowName name match_length
name-low (Unlimited rule) match_length is = record { near = omega arith; far = omega arith; phase = omega arith; short = omega (arith, is) }
name-low (Match score) match_length is =
    let numbers = score-numbers match_length score is in
    record { near = omega (arith, numbers.in_order, numbers.to); far = numbers.to; phase = phase-low score.phase; short = is.to }

-- the bytes that say a header have its numbers
pub fields-spelled : (h : Header) (rest : List ℕ) → IsHeader h → fields_of (spelled h ++ rest) ≡ numbers_of h
unfolding numbers_of
fields-spelled h rest is =
    let bytes : List ℕ = spelled h ++ rest in
    let low = name-low h.name h.match_length is.fitting in
    let version : number_at 8 4 bytes ≡ version_number h.version = big_number-reads_back 4 (version_number h.version) (drop 12 bytes) (omega (arith, version-low h.version)) in
    let checkers : number_at 12 4 bytes ≡ h.checkers = big_number-reads_back 4 h.checkers (drop 16 bytes) (omega (arith, is.few)) in
    let stakes : number_at 16 4 bytes ≡ stakes_number h.name = big_number-reads_back 4 (stakes_number h.name) (drop 20 bytes) (omega (arith, stakes-low h.name)) in
    let near : number_at 20 4 bytes ≡ near_field h.name = big_number-reads_back 4 (near_field h.name) (drop 24 bytes) (omega (arith, low.near)) in
    let far : number_at 24 4 bytes ≡ far_field h.name = big_number-reads_back 4 (far_field h.name) (drop 28 bytes) (omega (arith, low.far)) in
    let phase : number_at 28 4 bytes ≡ phase_field h.name = big_number-reads_back 4 (phase_field h.name) (drop 32 bytes) (omega (arith, low.phase)) in
    let length : number_at 32 4 bytes ≡ h.match_length = big_number-reads_back 4 h.match_length (drop 36 bytes) (omega (arith, low.short)) in
    let kinds : number_at 36 4 bytes ≡ h.kinds = big_number-reads_back 4 h.kinds (drop 40 bytes) (omega (arith, header-kinds-few h is)) in
    let rounds : number_at 40 4 bytes ≡ h.rounds = big_number-reads_back 4 h.rounds (drop 44 bytes) (omega (arith, is.ended)) in
    let starts : number_at 44 4 bytes ≡ h.starts = big_number-reads_back 4 h.starts (drop 48 bytes) (omega (arith, header-starts-few h is)) in
    let positions : number_at 48 8 bytes ≡ h.positions = big_number-reads_back 8 h.positions (drop 56 bytes) (omega (arith, header-positions-few h is)) in
    let none : number_at 56 8 bytes ≡ 0 = big_number-reads_back 8 0 (drop 64 bytes) (omega arith) in
    λ i. record {
      version = version i;
      checkers = checkers i;
      stakes = stakes i;
      near = near i;
      far = far i;
      phase = phase i;
      match_length = length i;
      kinds = kinds i;
      rounds = rounds i;
      starts = starts i;
      positions = positions i;
      rest = none i;
    }

-- ---- the header that they say

version-same : (version : Version) → version_numbered (version_number version) ≡ version
version-same One = refl
version-same Two = refl
version-same Three = refl

phase-same : (phase : Phase) → phase_numbered (phase_number phase) ≡ phase
phase-same Normal = refl
phase-same Crawford = refl
phase-same Post = refl

name-same : (name : StakesName) → name_numbered (stakes_number name) (record { near = near_field name; far = far_field name; phase = phase_numbered (phase_field name) }) ≡ name
name-same (Unlimited Cubeless) = refl
name-same (Unlimited _) = refl
name-same (Match score) = ap (λ (phase : Phase). Match (record { near = score.near; far = score.far; phase = phase })) (phase-same score.phase)

pub header-same : (h : Header) → header_in (numbers_of h) ≡ h
unfolding numbers_of
header-same h =
    let version = version-same h.version in
    let name = name-same h.name in
    λ i. record {
      version = version i;
      checkers = h.checkers;
      name = name i;
      match_length = h.match_length;
      kinds = h.kinds;
      rounds = h.rounds;
      starts = h.starts;
      positions = h.positions;
    }

-- ---- nothing is wrong with them

pass : (right : Bool) (bad : BadFile) (rest : Option BadFile) → right ≡ true → rest ≡ None → (if not right then Some bad else rest) ≡ None
pass true bad rest is none = none
pass false bad rest is none = absurd (grind (arith, is))

both : (a b : Bool) → a ≡ true → b ≡ true → (a && b) ≡ true
both true b one two = two
both false b one two = absurd (grind (arith, one))

is-le : (a b : ℕ) → a ≤ b → nat_le a b ≡ true
is-le a b le = grind (arith, nat_tests)

is-lt : (a b : ℕ) → a < b → nat_lt a b ≡ true
is-lt a b lt = grind (arith, nat_tests)

is-eq : (a b : ℕ) → a ≡ b → (a == b) ≡ true
is-eq a b same = grind (arith, nat_tests)

from-to : (first last number : ℕ) → first ≤ number → number ≤ last → is_from_to first last number ≡ true
from-to first last number from to = both (nat_le first number) (nat_le number last) (is-le first number from) (is-le number last to)

version-passes : (oldest : Version) (h : Header) → IsSince oldest h.version → first_wrong (version_check oldest (numbers_of h) ∷ []) ≡ None
unfolding numbers_of
version-passes oldest h since =
    pass (is_from_to (version_number oldest) 3 (version_number h.version)) _ None (from-to (version_number oldest) 3 (version_number h.version) since (version-low h.version)) refl

checkers-pass : (h : Header) → IsHeader h → first_wrong (checkers_check (numbers_of h) ∷ []) ≡ None
unfolding numbers_of
checkers-pass h is = pass (is_from_to 1 3 h.checkers) _ None (from-to 1 3 h.checkers is.some is.few) refl

-- the number is one of the version's
last-same : (version : Version) (name : StakesName) → TakesStakes version name → stakes_number name ≤ last_stakes version
last-same Two name takes = stakes-low name
last-same Three name takes = stakes-low name
last-same One (Unlimited Cubeless) takes = omega arith
last-same One (Unlimited Money) takes = omega arith
last-same One (Unlimited Jacoby) takes = omega arith
last-same One (Unlimited MoneyBeavers) takes = absurd (grind (arith, takes refl))
last-same One (Unlimited JacobyBeavers) takes = absurd (grind (arith, takes refl))
last-same One (Match score) takes = omega arith

-- a match's score and length
match-passes : (f : Fields) (score : MatchScore) → f.near ≡ score.near → f.far ≡ score.far → f.phase ≡ phase_number score.phase → HasScore f.match_length score → first_wrong (match_checks f) ≡ None
match-passes f score near far phase has =
    let numbers = score-numbers f.match_length score has in
    let same : score_in f ≡ score = λ i. record { near = near i; far = far i; phase = (ap phase_numbered phase ∙ phase-same score.phase) i } in
    let fits : is_phase_at f.near f.far (phase_numbered f.phase) ≡ true = subst (λ (s : MatchScore). is_phase_at s.near s.far s.phase ≡ true) (sym same) numbers.fits in
    let listed = subst (λ (s : MatchScore). HasScore f.match_length s) (sym same) has in
    pass (is_from_to 1 5 f.near) _ _ (from-to 1 5 f.near (omega (arith, near, numbers.from)) (omega (arith, near, numbers.in_order, numbers.to)))
    (pass (is_from_to f.near 5 f.far) _ _ (from-to f.near 5 f.far (omega (arith, near, far, numbers.in_order)) (omega (arith, far, numbers.to)))
    (pass (is_phase_in f) _ _ (both (nat_le f.phase 2) (is_phase_at f.near f.far (phase_numbered f.phase)) (is-le f.phase 2 (omega (arith, phase, phase-low score.phase))) fits)
    (pass (is_from_to 1 5 f.match_length && nat_lt (ladder_place f.match_length (score_in f)) (length (ladder f.match_length))) _ None
    (both (is_from_to 1 5 f.match_length) _ (from-to 1 5 f.match_length has.from has.to) (is-lt _ _ listed.listed)) refl)))

other-passes : (f : Fields) → f.near ≡ 0 → f.far ≡ 0 → f.phase ≡ 0 → f.match_length ≡ 0 → first_wrong (other_checks f) ≡ None
other-passes f near far phase match_length =
    pass (f.near == 0) _ _ (is-eq f.near 0 near)
    (pass (f.far == 0) _ _ (is-eq f.far 0 far)
    (pass (f.phase == 0) _ _ (is-eq f.phase 0 phase)
    (pass (f.match_length == 0) _ None (is-eq f.match_length 0 match_length) refl)))

score-passes : (f : Fields) (name : StakesName) → f.stakes ≡ stakes_number name → f.near ≡ near_field name → f.far ≡ far_field name → f.phase ≡ phase_field name → IsLengthOf name f.match_length
    → first_wrong (if f.stakes == 3 then match_checks f else other_checks f) ≡ None
score-passes f (Match score) stakes near far phase is = ap (λ (n : ℕ). first_wrong (if n == 3 then match_checks f else other_checks f)) stakes ∙ match-passes f score near far phase is
score-passes f (Unlimited rule) stakes near far phase is =
    ap (λ (n : ℕ). first_wrong (if n == 3 then match_checks f else other_checks f)) stakes
    ∙ ap (λ (b : Bool). first_wrong (if b then match_checks f else other_checks f)) (numbers-rule rule).apart
    ∙ other-passes f near far phase is

stakes-pass : (h : Header) → IsHeader h → first_wrong (stakes_checks (numbers_of h)) ≡ None
unfolding numbers_of
stakes-pass h is =
    let f : Fields = numbers_of h in
    let last : f.stakes ≤ last_stakes (version_in f) = subst (λ (version : Version). stakes_number h.name ≤ last_stakes version) (sym (version-same h.version)) (last-same h.version h.name is.takes) in
    pass (nat_le f.stakes (last_stakes (version_in f))) _ _ (is-le f.stakes (last_stakes (version_in f)) last) (score-passes f h.name refl refl refl refl is.fitting)

counts-pass : (h : Header) → IsHeader h → first_wrong (count_checks (numbers_of h)) ≡ None
unfolding numbers_of
counts-pass h is =
    let f : Fields = numbers_of h in
    let name : name_in f ≡ h.name = name-same h.name in
    let kinds : f.kinds ≡ length (names_of (name_in f)) = is.kinds ∙ ap (λ (name : StakesName). length (names_of name)) (sym name) in
    let starts : f.starts ≡ starts_told f.match_length (name_in f) = is.starts ∙ ap (starts_told h.match_length) (sym name) in
    pass (f.kinds == length (names_of (name_in f))) _ _ (is-eq _ _ kinds)
    (pass (is_from_to 1 4096 f.rounds) _ _ (from-to 1 4096 f.rounds is.begun is.ended)
    (pass (f.starts == starts_told f.match_length (name_in f)) _ _ (is-eq _ _ starts)
    (pass (f.positions == live_positions f.checkers) _ _ (is-eq _ _ is.positions)
    (pass (f.rest == 0) (record { fault = faults.Head; at = 56 }) None refl refl))))

pub numbers-pass : (oldest : Version) (h : Header) → IsHeader h → IsSince oldest h.version → first_wrong (field_checks oldest (numbers_of h)) ≡ None
numbers-pass oldest h is since = after-name oldest (numbers_of h) (version-passes oldest h since) (checkers-pass h is) (stakes-pass h is) ∙ counts-pass h is
