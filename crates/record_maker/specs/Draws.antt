-- What the words of a generator give: dice, rolls and plays.
use Rattle.std.specs.Prelude.{◌≡◌, ◌≢◌, ℕ, zero, suc, ◌+◌, ◌%◌, ◌==◌, nat_lt, max, min, ◌↔◌, List, length, All, AllPairs, Contains, Some, slice_get, if◌then◌else◌}
use Rattle.rand_pcg.specs.Lcg.{Lcg, started, increment_of}
use Rattle.rand_pcg.specs.Pcg.{multiplier_64, pcg32}
use Rattle.position_rank.specs.Placement.{Placement}
use Rattle.roll_table.specs.Rolls.{Dice}
use Rattle.move_rules.specs.Order.{ends_of, plays_of, IsFirst, PlayComesBefore}
use Rattle.move_rules.specs.Sequences.{IsLegalEnd}
use Rattle.move_rules.specs.declared.play.Entry.{Entry}
use Rattle.game_record.specs.declared.player.Player.{Player}
use Rattle.game_record.specs.declared.player.Player.TheVariants.{A, B}

-- the generator of a number
abbrev pub drawn_words : ℕ → Lcg
drawn_words number = started 64 multiplier_64 number (increment_of 64 54)

-- the next word, and the words after it
abbrev pub word : Lcg → ℕ
word words = (pcg32 words).0

abbrev pub rest : Lcg → Lcg
rest words = (pcg32 words).1

-- a die is 1 plus a word modulo 6
abbrev pub die : Lcg → ℕ
die words = word words % 6 + 1

-- dice in either order
abbrev pub roll_of : ℕ → ℕ → Dice
roll_of a b = record { high = max a b; low = min a b }

-- a roll of two dice, and the words after it
abbrev pub two_dice : Lcg → Dice × Lcg
two_dice words = (roll_of (die words) (die (rest words)), rest (rest words))

-- who starts a game, with which roll, and the words after it
pub record Start : Type 0 where
  pub player : Player
  pub roll : Dice
  pub after : Lcg

abbrev pub starter : ℕ → ℕ → Player
starter a b = if nat_lt b a then A else B

-- of A's die and B's the higher starts, with both; equal dice are drawn again
abbrev pub started_by : ℕ → ℕ → Lcg → (Lcg → Start) → Start
started_by a b after again =
    if a == b then again after
    else record { player = starter a b; roll = roll_of a b; after = after }

-- the start of a game where equal dice are drawn at most so many times: behind them A starts with 21
unfoldable pub start_in : ℕ → Lcg → Start
start_in zero words = record { player = A; roll = roll_of 2 1; after = words }
start_in (suc draws) words =
    started_by (die words) (die (rest words)) (rest (rest words)) (start_in draws)

abbrev pub start_drawn : Lcg → Start
start_drawn words = start_in 32 words

-- the plays of a roll in their order: each legal end once, with the first legal sequence that leaves it
pub record ArePlays (position : Placement) (roll : Dice) (entries : List Entry) : Type 0 where
  pub ends : (end : Placement) → Contains (ends_of entries) end ↔ IsLegalEnd position roll end
  pub distinct : AllPairs (λ one another. one ≢ another) (ends_of entries)
  pub first : All (λ entry. IsFirst position roll entry.play.items entry.end) entries
  pub in_order : AllPairs PlayComesBefore (plays_of entries)

-- a word chooses the play whose number, counted from 0, is the word modulo the number of plays
abbrev pub IsChosen : Placement → Dice → ℕ → Entry → Type 0
IsChosen position roll chooser entry =
    (entries : List Entry) × ArePlays position roll entries
    × (slice_get entries (chooser % length entries) ≡ Some entry)
