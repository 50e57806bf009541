-- Which words of a list aren't consistent, and which of them is the first.
use Rattle.std.specs.Prelude.{◌≡◌, ◌≤◌, ◌<◌, ◌⊎◌, ℕ, ℤ, ◌<ℤ◌, Result, Ok, Err}
use Rattle.position_rank.specs.Placement.{Placement}
use Rattle.position_rank.specs.LiveRanks.{live_rank_of}
use Rattle.directed_fixed.specs.declared.bounds.End.{End}
use Rattle.directed_fixed.specs.declared.bounds.End.TheVariants.{Lower, Upper}
use Rattle.directed_fixed.specs.Bounds.{IsNoLooser}
use Rattle.turn_rule.specs.Games.{kinds_of}
use Rattle.turn_rule.specs.Turn.{Words, turn}
use Rattle.turn_rule.specs.States.{IsState}
use Rattle.turn_rule.specs.Truth.{AreConsistent, AreEnclosing, AreEndsWithin, IsScoring}
use Rattle.turn_rule.specs.Exact.{Scoring}
use Rattle.interval_words.specs.Numbers.{state_of, word_of}
use Rattle.interval_words.specs.WordLists.{WordList, words_in_list}
use Rattle.base_verify.specs.declared.finding.Finding.{Finding}
use Rattle.base_verify.specs.declared.finding.VerifyStop.{VerifyStop}
use Rattle.base_verify.specs.declared.finding.VerifyStop.TheVariants.{Inconsistent, NoMemory}

-- one turn over the words of a list
abbrev pub turn_over : WordList → Words
turn_over words = turn words.game.stakes (words_in_list words)

-- A word holds where the turn over the words is no looser: a lower word is then at most the turn's, an upper one at least.
abbrev pub WordHolds : WordList → End → Placement → ℕ → Type 0
WordHolds words side p k = IsNoLooser side (turn_over words side p k) (words_in_list words side p k)

-- as this end of a pair, the first value is looser than the second
abbrev pub IsLooser : End → ℤ → ℤ → Type 0
IsLooser Lower a b = a <ℤ b
IsLooser Upper a b = b <ℤ a

-- a word of a state and what the turn over the words gives in its place, which is looser
pub record IsFinding (words : WordList) (finding : Finding) : Type 0 where
  pub state : IsState words.game finding.position finding.kind
  pub stored : finding.stored ≡ words_in_list words finding.side finding.position finding.kind
  pub computed : finding.computed ≡ turn_over words finding.side finding.position finding.kind
  pub looser : IsLooser finding.side finding.computed finding.stored

-- where a word stands among all words: by rising live rank of its position, then by its kind, the lower word before the upper one
abbrev pub told_at : WordList → End → Placement → ℕ → ℕ
told_at words side p k = word_of side (state_of (kinds_of words.game) p k)

-- where the word of a finding stands
abbrev pub place_of_finding : WordList → Finding → ℕ
place_of_finding words finding = told_at words finding.side finding.position finding.kind

-- one word comes before another: its position has the smaller live rank; or the same, and it is of the smaller kind; or it is the lower word
-- of the same state, and the other the upper one
abbrev pub WordComesBefore : End → Placement → ℕ → End → Placement → ℕ → Type 0
WordComesBefore side p k other q j =
    (live_rank_of p < live_rank_of q)
    ⊎ ((live_rank_of p ≡ live_rank_of q) × ((k < j) ⊎ ((k ≡ j) × (side ≡ Lower) × (other ≡ Upper))))

-- the words from one place to before another hold
abbrev pub HoldBetween : WordList → ℕ → ℕ → Type 0
HoldBetween words from to =
    (side : End) (p : Placement) (k : ℕ) → IsState words.game p k
    → from ≤ told_at words side p k → told_at words side p k < to → WordHolds words side p k

-- a finding before whose word each word holds
pub record IsFirstFinding (words : WordList) (finding : Finding) : Type 0 where
  pub found : IsFinding words finding
  pub before : HoldBetween words 0 (place_of_finding words finding)

-- What may be answered of words: that they are consistent, or the first finding. A lack of memory says nothing of them.
abbrev pub TellsConsistency : WordList → Result (Unit {0}) VerifyStop → Type 0
TellsConsistency words (Ok _) = AreConsistent words.game (words_in_list words)
TellsConsistency words (Err (Inconsistent finding)) = IsFirstFinding words finding
TellsConsistency words (Err NoMemory) = Unit {0}

-- In games of any number of turns the words enclose every state, however they are scored, where an unfinished end lies in the pair of its own
-- state.
abbrev pub AlwaysEnclose : WordList → Type 0
AlwaysEnclose words =
    (scoring : Scoring) → IsScoring words.game scoring
    → AreEndsWithin words.game (words_in_list words) scoring
    → (turns : ℕ) → AreEnclosing words.game scoring turns (words_in_list words)
