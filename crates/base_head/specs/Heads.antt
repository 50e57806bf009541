-- What a file of bounds is of: its head.
use Rattle.std.specs.Prelude.{◌≡◌, ◌≤◌, ◌<◌, ℕ, Bool, false, [], length}
use Rattle.cube_actions.specs.declared.name.StakesName.{StakesName}
use Rattle.cube_actions.specs.declared.name.StakesName.TheVariants.{Unlimited, Match}
use Rattle.cube_actions.specs.Ladder.{ladder}
use Rattle.cube_actions.specs.Matches.{stakes_named}
use Rattle.cube_actions.specs.Money.{has_beavers}
use Rattle.cube_actions.specs.Scores.{MatchScore}
use Rattle.cube_actions.specs.Stakes.{Terms}
use Rattle.cube_actions.specs.Starts.{StartPairs, AreStarts, ladder_place}
use Rattle.word_pages.specs.declared.version.Version.{Version}
use Rattle.word_pages.specs.declared.version.Version.TheVariants.{One}

-- the checkers of a side, the stakes' name, the rounds, and for a match what the scores before this one are worth
pub record FileHead : Type 0 where
  pub checkers : ℕ
  pub name : StakesName
  pub rounds : ℕ
  pub starts : StartPairs

-- the starts of stakes that aren't a match
abbrev pub no_starts : StartPairs
no_starts = record { match_length = 1; pairs = [] }

-- the score is one of the match, and there is a pair for exactly the scores before it
pub record AreStartsBefore (score : MatchScore) (starts : StartPairs) : Type 0 where
  pub listed : ladder_place starts.match_length score < length (ladder starts.match_length)
  pub held : length starts.pairs ≡ ladder_place starts.match_length score

abbrev pub AreStartsOf : StakesName → StartPairs → Type 0
AreStartsOf (Match score) starts = AreStartsBefore score starts
AreStartsOf (Unlimited rule) starts = starts ≡ no_starts

-- one to three checkers, 1 to 4,096 rounds, and the starts that go with the stakes
pub record IsHead (head : FileHead) : Type 0 where
  pub some : 1 ≤ head.checkers
  pub few : head.checkers ≤ 3
  pub begun : 1 ≤ head.rounds
  pub ended : head.rounds ≤ 4096
  pub valid : AreStarts head.starts
  pub starts : AreStartsOf head.name head.starts

-- the stakes of the words of a file
abbrev pub stakes_of : FileHead → Terms
stakes_of head = stakes_named head.name head.starts

abbrev pub plays_beavers : StakesName → Bool
plays_beavers (Unlimited rule) = has_beavers rule
plays_beavers (Match score) = false

-- version 1 has no stakes with beavers
abbrev pub TakesStakes : Version → StakesName → Type 0
TakesStakes version name = version ≡ One → plays_beavers name ≡ false

-- heads with beavers have no text of version 1
abbrev pub HasText : Version → FileHead → Type 0
HasText version head = TakesStakes version head.name
