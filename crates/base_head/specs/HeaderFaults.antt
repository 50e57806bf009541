-- What is wrong first with a header.
use Rattle.std.specs.Prelude.{ℕ, ◌==◌, nat_le, nat_lt, Bool, not, ◌&&◌, List, [], ◌∷◌, ◌++◌, length, take, drop, Option, Result, if◌then◌else◌}
use Rattle.std.specs.Str.{bytes_eq}
use Rattle.byteorder.specs.Endian.{big_number}
use Rattle.position_rank.specs.LiveRanks.{live_positions}
use Rattle.cube_actions.specs.declared.name.MoneyRule.{MoneyRule}
use Rattle.cube_actions.specs.declared.name.MoneyRule.TheVariants.{Cubeless, Money, Jacoby, MoneyBeavers, JacobyBeavers}
use Rattle.cube_actions.specs.declared.name.StakesName.{StakesName}
use Rattle.cube_actions.specs.declared.name.StakesName.TheVariants.{Unlimited, Match}
use Rattle.cube_actions.specs.declared.phase.Phase.{Phase}
use Rattle.cube_actions.specs.declared.phase.Phase.TheVariants.{Normal, Crawford, Post}
use Rattle.cube_actions.specs.Ladder.{ladder}
use Rattle.cube_actions.specs.Names.{names_of}
use Rattle.cube_actions.specs.Scores.{MatchScore}
use Rattle.cube_actions.specs.Starts.{ladder_place}
use Rattle.base_head.specs.Faults.{Check, check, first_wrong, checked}
use Rattle.base_head.specs.Headers.{magic, file_length, starts_told, version_number}
use Rattle.base_head.specs.declared.fault.BadFile.{BadFile}
use Rattle.base_head.specs.declared.fault.FileFault.TheVariants as faults
use Rattle.base_head.specs.declared.fields.Fields.{Fields}
use Rattle.base_head.specs.declared.header.Header.{Header}
use Rattle.word_pages.specs.declared.version.Version.{Version}
use Rattle.word_pages.specs.declared.version.Version.TheVariants.{One, Two, Three}

-- the number in so many bytes from a place on, the highest first
abbrev pub number_at : ℕ → ℕ → List ℕ → ℕ
number_at at size bytes = big_number size (drop at bytes)

-- the numbers of a header, by their places
abbrev pub fields_of : List ℕ → Fields
fields_of bytes = record {
  version = number_at 8 4 bytes;
  checkers = number_at 12 4 bytes;
  stakes = number_at 16 4 bytes;
  near = number_at 20 4 bytes;
  far = number_at 24 4 bytes;
  phase = number_at 28 4 bytes;
  match_length = number_at 32 4 bytes;
  kinds = number_at 36 4 bytes;
  rounds = number_at 40 4 bytes;
  starts = number_at 44 4 bytes;
  positions = number_at 48 8 bytes;
  rest = number_at 56 8 bytes;
}

-- the version that a number stands for, where it is 1 to 3
abbrev pub version_numbered : ℕ → Version
version_numbered number = if number == 1 then One else if number == 2 then Two else Three

abbrev pub version_in : Fields → Version
version_in fields = version_numbered fields.version

-- the phase that a number stands for, where it is at most 2
abbrev pub phase_numbered : ℕ → Phase
phase_numbered number = if number == 0 then Normal else if number == 1 then Crawford else Post

abbrev pub score_in : Fields → MatchScore
score_in fields = record {
  near = fields.near;
  far = fields.far;
  phase = phase_numbered fields.phase;
}

-- the rule that a number stands for, where it is at most 5 and not 3
abbrev pub rule_numbered : ℕ → MoneyRule
rule_numbered number =
    if number == 0 then Cubeless
    else if number == 1 then Money
    else if number == 2 then Jacoby
    else if number == 4 then MoneyBeavers
    else JacobyBeavers

-- the stakes that a number stands for, where it is at most 5
abbrev pub name_numbered : ℕ → MatchScore → StakesName
name_numbered number score = if number == 3 then Match score else Unlimited (rule_numbered number)

abbrev pub name_in : Fields → StakesName
name_in fields = name_numbered fields.stakes (score_in fields)

-- the header that the numbers say
abbrev pub header_in : Fields → Header
header_in fields = record {
  version = version_in fields;
  checkers = fields.checkers;
  name = name_in fields;
  match_length = fields.match_length;
  kinds = fields.kinds;
  rounds = fields.rounds;
  starts = fields.starts;
  positions = fields.positions;
}

abbrev pub is_from_to : ℕ → ℕ → ℕ → Bool
is_from_to first last number = nat_le first number && nat_le number last

-- version 1 has no stakes with beavers
abbrev pub last_stakes : Version → ℕ
last_stakes One = 3
last_stakes _ = 5

-- both sides need two points or more before the Crawford game, one side one and the other more in it, one side one after it
abbrev pub is_phase_at : ℕ → ℕ → Phase → Bool
is_phase_at near far Normal = nat_le 2 near
is_phase_at near far Crawford = near == 1 && nat_le 2 far
is_phase_at near far Post = near == 1

-- the number of the phase stands for one, which is one of the score's
abbrev pub is_phase_in : Fields → Bool
is_phase_in fields =
    nat_le fields.phase 2 && is_phase_at fields.near fields.far (phase_numbered fields.phase)

-- a match of one to five points, in which the score can come
abbrev pub is_length_of : ℕ → MatchScore → Bool
is_length_of match_length score = is_from_to 1 5 match_length
    && nat_lt (ladder_place match_length score) (length (ladder match_length))

-- what can be wrong with the score and length of a match
abbrev pub match_checks : Fields → List Check
match_checks fields =
    check faults.Head 20 (not (is_from_to 1 5 fields.near))
    ∷ check faults.Head 24 (not (is_from_to fields.near 5 fields.far))
    ∷ check faults.Head 28 (not (is_phase_in fields))
    ∷ check faults.Head 32 (not (is_length_of fields.match_length (score_in fields)))
    ∷ []

-- where there is no match, its four fields are 0
abbrev pub other_checks : Fields → List Check
other_checks fields =
    check faults.Head 20 (not (fields.near == 0))
    ∷ check faults.Head 24 (not (fields.far == 0))
    ∷ check faults.Head 28 (not (fields.phase == 0))
    ∷ check faults.Head 32 (not (fields.match_length == 0))
    ∷ []

-- stakes of number 3 are a match
abbrev pub stakes_checks : Fields → List Check
stakes_checks fields =
    check faults.Head 16 (not (nat_le fields.stakes (last_stakes (version_in fields))))
    ∷ (if fields.stakes == 3 then match_checks fields else other_checks fields)

-- what can be wrong with the numbers behind them
abbrev pub count_checks : Fields → List Check
count_checks fields =
    check faults.Head 36 (not (fields.kinds == length (names_of (name_in fields))))
    ∷ check faults.Head 40 (not (is_from_to 1 4096 fields.rounds))
    ∷ check faults.Head 44
    (not (fields.starts == starts_told fields.match_length (name_in fields)))
    ∷ check faults.Head 48 (not (fields.positions == live_positions fields.checkers))
    ∷ check faults.Head 56 (not (fields.rest == 0))
    ∷ []

-- the version is one of those that are read: `oldest` and the later ones
abbrev pub version_check : Version → Fields → Check
version_check oldest fields =
    check faults.Version 8 (not (is_from_to (version_number oldest) 3 fields.version))

abbrev pub checkers_check : Fields → Check
checkers_check fields = check faults.Head 12 (not (is_from_to 1 3 fields.checkers))

-- what can be wrong with the numbers of a header, in the order of their places
abbrev pub field_checks : Version → Fields → List Check
field_checks oldest fields =
    version_check oldest fields
    ∷ checkers_check fields
    ∷ (stakes_checks fields ++ count_checks fields)

-- every file has a header, which begins in the same way
abbrev pub opening_checks : ℕ → List ℕ → List Check
opening_checks size bytes =
    check faults.Short size (nat_lt size 64)
    ∷ check faults.Magic 0 (not (bytes_eq (take 8 bytes) magic))
    ∷ []

-- a file is as long as its header says
abbrev pub length_checks : ℕ → ℕ → List Check
length_checks size whole =
    check faults.Short size (nat_lt size whole) ∷ check faults.Long whole (nat_lt whole size) ∷ []

-- what can be wrong with a file of this size up to its starts, of which these are the first bytes
abbrev pub header_checks : Version → ℕ → List ℕ → List Check
header_checks oldest size bytes =
    opening_checks size bytes
    ++ (field_checks oldest (fields_of bytes)
    ++ length_checks size (file_length (header_in (fields_of bytes))))

-- what is wrong first with it, where the versions from `oldest` on are read
abbrev pub header_fault : Version → ℕ → List ℕ → Option BadFile
header_fault oldest size bytes = first_wrong (header_checks oldest size bytes)

-- the header, or what is wrong first
abbrev pub header_read : Version → ℕ → List ℕ → Result Header BadFile
header_read oldest size bytes =
    checked (header_fault oldest size bytes) (header_in (fields_of bytes))
