-- The first 64 bytes of a file.
use Rattle.std.specs.Prelude.{◌≡◌, ◌≤◌, ◌<◌, ◌+◌, ◌*◌, ℕ, List, ◌++◌, codes, length}
use Rattle.byteorder.specs.Endian.{big_bytes}
use Rattle.position_rank.specs.LiveRanks.{live_positions}
use Rattle.cube_actions.specs.declared.name.MoneyRule.{MoneyRule}
use Rattle.cube_actions.specs.declared.name.MoneyRule.TheVariants.{Cubeless, Money, Jacoby, MoneyBeavers, JacobyBeavers}
use Rattle.cube_actions.specs.declared.name.StakesName.{StakesName}
use Rattle.cube_actions.specs.declared.name.StakesName.TheVariants.{Unlimited, Match}
use Rattle.cube_actions.specs.declared.phase.Phase.{Phase}
use Rattle.cube_actions.specs.declared.phase.Phase.TheVariants.{Normal, Crawford, Post}
use Rattle.cube_actions.specs.Names.{names_of}
use Rattle.cube_actions.specs.Ladder.{ladder}
use Rattle.cube_actions.specs.Scores.{MatchScore}
use Rattle.cube_actions.specs.Starts.{ladder_place}
use Rattle.base_head.specs.Heads.{FileHead, TakesStakes}
use Rattle.word_pages.specs.Words.{word_size}
use Rattle.word_pages.specs.Pages.{pages_in}
use Rattle.base_head.specs.declared.header.Header.{Header}
use Rattle.word_pages.specs.declared.version.Version.{Version}
use Rattle.word_pages.specs.declared.version.Version.TheVariants.{One, Two, Three}

-- the eight bytes with which every file begins
abbrev pub magic : List ℕ
magic = codes "HYPGAMMN"

abbrev pub version_number : Version → ℕ
version_number One = 1
version_number Two = 2
version_number Three = 3

-- a version is the oldest that is read, or a later one
abbrev pub IsSince : Version → Version → Type 0
IsSince oldest version = version_number oldest ≤ version_number version

abbrev pub rule_number : MoneyRule → ℕ
rule_number Cubeless = 0
rule_number Money = 1
rule_number Jacoby = 2
rule_number MoneyBeavers = 4
rule_number JacobyBeavers = 5

abbrev pub stakes_number : StakesName → ℕ
stakes_number (Unlimited rule) = rule_number rule
stakes_number (Match score) = 3

abbrev pub phase_number : Phase → ℕ
phase_number Normal = 0
phase_number Crawford = 1
phase_number Post = 2

-- the points that the near side needs, 0 unless in a match
abbrev pub near_field : StakesName → ℕ
near_field (Match score) = score.near
near_field _ = 0

abbrev pub far_field : StakesName → ℕ
far_field (Match score) = score.far
far_field _ = 0

abbrev pub phase_field : StakesName → ℕ
phase_field (Match score) = phase_number score.phase
phase_field _ = 0

-- the length of the match, 0 unless in one
abbrev pub length_if_match : StakesName → ℕ → ℕ
length_if_match (Match score) match_length = match_length
length_if_match _ match_length = 0

abbrev pub length_field : FileHead → ℕ
length_field head = length_if_match head.name head.starts.match_length

-- what the header of a head says in a version
abbrev pub header_of : Version → FileHead → Header
header_of version head = record {
  version = version;
  checkers = head.checkers;
  name = head.name;
  match_length = length_field head;
  kinds = length (names_of head.name);
  rounds = head.rounds;
  starts = length head.starts.pairs;
  positions = live_positions head.checkers;
}

-- a match of one to five points, in which the score can come
pub record HasScore (match_length : ℕ) (score : MatchScore) : Type 0 where
  pub from : 1 ≤ match_length
  pub to : match_length ≤ 5
  pub listed : ladder_place match_length score < length (ladder match_length)

-- the length is one of a match that has the score, and 0 where there is no match
abbrev pub IsLengthOf : StakesName → ℕ → Type 0
IsLengthOf (Match score) match_length = HasScore match_length score
IsLengthOf _ match_length = match_length ≡ 0

-- how many scores come before this one, 0 unless in a match
abbrev pub starts_told : ℕ → StakesName → ℕ
starts_told match_length (Match score) = ladder_place match_length score
starts_told match_length _ = 0

-- what headers of heads say: the counts go with the stakes and the checkers
pub record IsHeader (header : Header) : Type 0 where
  pub takes : TakesStakes header.version header.name
  pub some : 1 ≤ header.checkers
  pub few : header.checkers ≤ 3
  pub fitting : IsLengthOf header.name header.match_length
  pub kinds : header.kinds ≡ length (names_of header.name)
  pub begun : 1 ≤ header.rounds
  pub ended : header.rounds ≤ 4096
  pub starts : header.starts ≡ starts_told header.match_length header.name
  pub positions : header.positions ≡ live_positions header.checkers

-- a field of four bytes, the highest first
abbrev pub field : ℕ → List ℕ
field number = big_bytes 4 number

-- the 64 bytes that say it
abbrev pub spelled : Header → List ℕ
spelled header =
    magic
    ++ field (version_number header.version)
    ++ field header.checkers
    ++ field (stakes_number header.name)
    ++ field (near_field header.name)
    ++ field (far_field header.name)
    ++ field (phase_field header.name)
    ++ field header.match_length
    ++ field header.kinds
    ++ field header.rounds
    ++ field header.starts
    ++ big_bytes 8 header.positions
    ++ big_bytes 8 0

abbrev pub header_text : Version → FileHead → List ℕ
header_text version head = spelled (header_of version head)

-- how many bytes a pair has, its lower word and its upper word
abbrev pub pair_size : Version → ℕ
pair_size version = 2 * word_size version

-- where the digest of header and starts stands
abbrev pub digest_place : Header → ℕ
digest_place header = 64 + pair_size header.version * header.starts

-- how many bytes come before the first page
abbrev pub front_length : Header → ℕ
front_length header = digest_place header + 32

-- how many bytes the whole file has: a page has 1,024 positions and the last one what is left, and a digest of 32 bytes follows the starts
-- and each page
abbrev pub file_length : Header → ℕ
file_length header = front_length header + pair_size header.version * header.kinds
    * header.positions + 32 * pages_in 1024 header.positions

abbrev pub text_length : Version → FileHead → ℕ
text_length version head = file_length (header_of version head)
