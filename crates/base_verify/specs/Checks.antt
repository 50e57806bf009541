-- What is told of some of the words.
use Rattle.std.specs.Prelude.{◌≡◌, ◌≤◌, ◌<◌, ◌*◌, ◌/◌, ◌+◌, ℕ, Option, Some, None, List, length, slice_index_or}
use Rattle.position_rank.specs.Placement.{Placement}
use Rattle.position_rank.specs.LiveRanks.{live_positions}
use Rattle.directed_fixed.specs.declared.bounds.End.{End}
use Rattle.directed_fixed.specs.declared.bounds.End.TheVariants.{Lower, Upper}
use Rattle.turn_rule.specs.Games.{kinds_of}
use Rattle.interval_words.specs.Numbers.{word_of}
use Rattle.interval_words.specs.WordLists.{WordList}
use Rattle.base_verify.specs.declared.finding.Finding.{Finding}
use Rattle.base_verify.specs.Findings.{WordHolds, IsFinding, HoldBetween, place_of_finding}

-- a finding in a state, of its upper word only where the lower one holds
pub record IsFindingOf (words : WordList) (p : Placement) (k : ℕ) (finding : Finding) : Type 0 where
  pub found : IsFinding words finding
  pub position : finding.position ≡ p
  pub kind : finding.kind ≡ k
  pub lower : finding.side ≡ Upper → WordHolds words Lower p k

-- nothing, where both words of a state hold, else a finding of the first that doesn't
abbrev pub TellsState : WordList → Placement → ℕ → Option Finding → Type 0
TellsState words p k None = (side : End) → WordHolds words side p k
TellsState words p k (Some finding) = IsFindingOf words p k finding

-- a finding between two places, before whose word each word from the first place on holds
pub record IsFirstBetween (words : WordList) (from to : ℕ) (finding : Finding) : Type 0 where
  pub found : IsFinding words finding
  pub after : from ≤ place_of_finding words finding
  pub inside : place_of_finding words finding < to
  pub before : HoldBetween words from (place_of_finding words finding)

-- nothing, where all words between two places hold, else the first finding there
abbrev pub TellsBetween : WordList → ℕ → ℕ → Option Finding → Type 0
TellsBetween words from to None = HoldBetween words from to
TellsBetween words from to (Some finding) = IsFirstBetween words from to finding

-- where the words of the positions from this live rank on begin
abbrev pub word_place : WordList → ℕ → ℕ
word_place words rank = word_of Lower (rank * kinds_of words.game)

-- the first live rank of a part, where so many parts share all positions
abbrev pub start_of : WordList → ℕ → ℕ → ℕ
start_of words parts number = live_positions words.game.checkers * number / parts

-- each of so many parts tells of the words of its positions
pub record ArePartsTold (words : WordList) (parts : ℕ) (told : List (Option Finding)) : Type 0 where
  pub many : length told ≡ parts
  pub each :
      (number : ℕ) → number < parts
      → TellsBetween words (word_place words (start_of words parts number))
      (word_place words (start_of words parts (number + 1)))
      (slice_index_or told number None)

-- nothing, where all words hold, else the first finding
abbrev pub TellsAll : WordList → Option Finding → Type 0
TellsAll words =
    TellsBetween words (word_place words 0) (word_place words (live_positions words.game.checkers))
