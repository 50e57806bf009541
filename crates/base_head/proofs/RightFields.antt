-- What the numbers of a header are where nothing is wrong with them.
use Rattle.std.proofs.Common.{◌≡◌, ◌≤◌, ◌<◌, ◌⊎◌, inl, inr, subst, ℕ, zero, suc, Bool, true, false, None, length, nat_le, nat_lt, ◌==◌, if◌then◌else◌, refl, arith}
use Rattle.std.proofs.lemmas.Bool.Decides.{nat_tests}
use Rattle.position_rank.specs.LiveRanks.{live_positions}
use Rattle.cube_actions.specs.Names.{names_of}
use Rattle.cube_actions.specs.Ladder.{ladder}
use Rattle.cube_actions.specs.Starts.{ladder_place}
use Rattle.cube_actions.specs.Scores.{MatchScore}
use Rattle.word_pages.specs.declared.version.Version.{Version}
use Rattle.word_pages.specs.declared.version.Version.TheVariants.{One, Two, Three}
use Rattle.base_head.specs.Faults.{first_wrong}
use Rattle.base_head.specs.Heads.{plays_beavers}
use Rattle.base_head.specs.Headers.{HasScore, IsHeader, IsLengthOf, starts_told}
use Rattle.base_head.specs.HeaderFaults.{count_checks, field_checks, header_in, is_from_to, is_length_of, is_phase_at, is_phase_in, last_stakes, match_checks, name_in, name_numbered, other_checks, phase_numbered, score_in, stakes_checks, version_in}
use Rattle.base_head.specs.declared.fields.Fields.{Fields}
use Rattle.base_head.proofs.Checked.{both-right, right-if, right-then}
use Rattle.base_head.proofs.FieldChecks.{all-parts}

le-of : (a b : ℕ) → nat_le a b ≡ true → a ≤ b
le-of a b is = grind (arith, nat_tests)

lt-of : (a b : ℕ) → nat_lt a b ≡ true → a < b
lt-of a b is = grind (arith, nat_tests)

eq-of : (a b : ℕ) → (a == b) ≡ true → a ≡ b
eq-of a b is = grind (arith, nat_tests)

pub between : (first last number : ℕ) → is_from_to first last number ≡ true → (first ≤ number) × (number ≤ last)
between first last number is =
    let both = both-right (nat_le first number) (nat_le number last) is in (le-of first number both.0, le-of number last both.1)

pub record RightCounts (fields : Fields) : Type 0 where
  pub kinds : fields.kinds ≡ length (names_of (name_in fields))
  pub begun : 1 ≤ fields.rounds
  pub ended : fields.rounds ≤ 4096
  pub starts : fields.starts ≡ starts_told fields.match_length (name_in fields)
  pub positions : fields.positions ≡ live_positions fields.checkers
  pub rest : fields.rest ≡ 0

pub counts-right : (fields : Fields) → first_wrong (count_checks fields) ≡ None → RightCounts fields
counts-right fields none =
    let a = right-then (fields.kinds == length (names_of (name_in fields))) _ _ none in
    let b = right-then (is_from_to 1 4096 fields.rounds) _ _ a.1 in
    let c = right-then (fields.starts == starts_told fields.match_length (name_in fields)) _ _ b.1 in
    let d = right-then (fields.positions == live_positions fields.checkers) _ _ c.1 in
    let e = right-then (fields.rest == 0) _ _ d.1 in
    let rounds = between 1 4096 fields.rounds b.0 in
    record {
      kinds = eq-of _ _ a.0;
      begun = rounds.0;
      ended = rounds.1;
      starts = eq-of _ _ c.0;
      positions = eq-of _ _ d.0;
      rest = eq-of _ _ e.0;
    }

pub record RightMatch (fields : Fields) : Type 0 where
  pub from : 1 ≤ fields.near
  pub low : fields.near ≤ 5
  pub in_order : fields.near ≤ fields.far
  pub to : fields.far ≤ 5
  pub phase : fields.phase ≤ 2
  pub fits : is_phase_at fields.near fields.far (phase_numbered fields.phase) ≡ true
  pub has : HasScore fields.match_length (score_in fields)

pub record RightOther (fields : Fields) : Type 0 where
  pub near : fields.near ≡ 0
  pub far : fields.far ≡ 0
  pub phase : fields.phase ≡ 0
  pub match_length : fields.match_length ≡ 0

match-right : (fields : Fields) → first_wrong (match_checks fields) ≡ None → RightMatch fields
match-right fields none =
    let a = right-then (is_from_to 1 5 fields.near) _ _ none in
    let b = right-then (is_from_to fields.near 5 fields.far) _ _ a.1 in
    let c = right-then (is_phase_in fields) _ _ b.1 in
    let d = right-then (is_length_of fields.match_length (score_in fields)) _ _ c.1 in
    let near = between 1 5 fields.near a.0 in
    let far = between fields.near 5 fields.far b.0 in
    let phase = both-right (nat_le fields.phase 2) (is_phase_at fields.near fields.far (phase_numbered fields.phase)) c.0 in
    let has = both-right (is_from_to 1 5 fields.match_length) (nat_lt (ladder_place fields.match_length (score_in fields)) (length (ladder fields.match_length))) d.0 in
    let range = between 1 5 fields.match_length has.0 in
    record {
      from = near.0;
      low = near.1;
      in_order = far.0;
      to = far.1;
      phase = le-of fields.phase 2 phase.0;
      fits = phase.1;
      has = record { from = range.0; to = range.1; listed = lt-of _ _ has.1 };
    }

other-right : (fields : Fields) → first_wrong (other_checks fields) ≡ None → RightOther fields
other-right fields none =
    let a = right-then (fields.near == 0) _ _ none in
    let b = right-then (fields.far == 0) _ _ a.1 in
    let c = right-then (fields.phase == 0) _ _ b.1 in
    let d = right-then (fields.match_length == 0) _ _ c.1 in
    record { near = eq-of fields.near 0 a.0; far = eq-of fields.far 0 b.0; phase = eq-of fields.phase 0 c.0; match_length = eq-of fields.match_length 0 d.0 }

pub record RightStakes (fields : Fields) : Type 0 where
  pub last : fields.stakes ≤ last_stakes (version_in fields)
  pub matched : fields.stakes ≡ 3 → RightMatch fields
  pub other : (fields.stakes ≡ 3 → ⊥) → RightOther fields

is-3 : (n : ℕ) → n ≡ 3 → (n == 3) ≡ true
is-3 n is = grind (arith, nat_tests)

not-3 : (n : ℕ) → (n ≡ 3 → ⊥) → (n == 3) ≡ false
not-3 n isnt = elim (either (n == 3)) [ inl is ↦ absurd (isnt (eq-of n 3 is)) | inr never ↦ never ]
  where
    either : (b : Bool) → (b ≡ true) ⊎ (b ≡ false)
    either true = inl refl
    either false = inr refl

pub stakes-right : (fields : Fields) → first_wrong (stakes_checks fields) ≡ None → RightStakes fields
stakes-right fields none =
    let a = right-then (nat_le fields.stakes (last_stakes (version_in fields))) _ _ none in
    let chosen = λ (b : Bool) (is : (fields.stakes == 3) ≡ b). subst (λ (t : Bool). first_wrong (if t then match_checks fields else other_checks fields) ≡ None) is a.1 in
    record {
      last = le-of _ _ a.0;
      matched = λ is. match-right fields (chosen true (is-3 fields.stakes is));
      other = λ isnt. other-right fields (chosen false (not-3 fields.stakes isnt));
    }

-- ---- the header that they say

fits-length : (stakes : ℕ) (score : MatchScore) (match_length : ℕ) → stakes ≤ 5 → (stakes ≡ 3 → HasScore match_length score) → ((stakes ≡ 3 → ⊥) → match_length ≡ 0) → IsLengthOf (name_numbered stakes score) match_length
fits-length zero score match_length low matched other = other (λ is. absurd (omega (arith, is)))
fits-length (suc zero) score match_length low matched other = other (λ is. absurd (omega (arith, is)))
fits-length (suc (suc zero)) score match_length low matched other = other (λ is. absurd (omega (arith, is)))
fits-length (suc (suc (suc zero))) score match_length low matched other = matched refl
fits-length (suc (suc (suc (suc zero)))) score match_length low matched other = other (λ is. absurd (omega (arith, is)))
fits-length (suc (suc (suc (suc (suc zero))))) score match_length low matched other = other (λ is. absurd (omega (arith, is)))
fits-length (suc (suc (suc (suc (suc (suc n)))))) score match_length low matched other = absurd (omega (arith, low))

pub last-five : (version : Version) → last_stakes version ≤ 5
last-five One = omega arith
last-five Two = omega arith
last-five Three = omega arith

takes-name : (version : Version) (stakes : ℕ) (score : MatchScore) → stakes ≤ last_stakes version → version ≡ One → plays_beavers (name_numbered stakes score) ≡ false
takes-name version stakes score last one = no_beavers stakes (subst (λ (v : Version). stakes ≤ last_stakes v) one last)
  where
    no_beavers : (stakes : ℕ) → stakes ≤ 3 → plays_beavers (name_numbered stakes score) ≡ false
    no_beavers zero low = refl
    no_beavers (suc zero) low = refl
    no_beavers (suc (suc zero)) low = refl
    no_beavers (suc (suc (suc zero))) low = refl
    no_beavers (suc (suc (suc (suc n)))) low = absurd (omega (arith, low))

pub none-header : (oldest : Version) (fields : Fields) → first_wrong (field_checks oldest fields) ≡ None → IsHeader (header_in fields)
none-header oldest fields none =
    let parts = all-parts oldest fields none in
    let checkers = between 1 3 fields.checkers (right-if (is_from_to 1 3 fields.checkers) _ parts.1) in
    let stakes = stakes-right fields parts.2 in
    let counts = counts-right fields parts.3 in
    record {
      takes = takes-name (version_in fields) fields.stakes (score_in fields) stakes.last;
      some = checkers.0;
      few = checkers.1;
      fitting = fits-length fields.stakes (score_in fields) fields.match_length (omega (arith, stakes.last, last-five (version_in fields))) (λ is. (stakes.matched is).has) (λ isnt. (stakes.other isnt).match_length);
      kinds = counts.kinds;
      begun = counts.begun;
      ended = counts.ended;
      starts = counts.starts;
      positions = counts.positions;
    }
