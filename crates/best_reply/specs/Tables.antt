-- A table of both sides' pairs, and what a sweep of it finds on the way.
use Rattle.std.specs.Prelude.{◌≡◌, ◌≢◌, ◌<◌, ◌≤◌, ◌↔◌, ℕ, ◌*◌, ◌^◌, ℤ, pos, ◌*ℤ◌, List, length, map, All, AllPairs, Contains, Option, Some, None, slice_index_or, ◌+◌, sum}
use Rattle.std.specs.Int.{int_max}
use Rattle.position_rank.specs.Placement.{Placement, IsLive, swap}
use Rattle.position_rank.specs.LiveRanks.{live_rank_of}
use Rattle.roll_table.specs.Rolls.{Dice, IsRoll, all_rolls}
use Rattle.move_rules.specs.declared.play.Entry.{Entry}
use Rattle.move_rules.specs.Order.{PlayComesBefore, IsFirst, ends_of, plays_of}
use Rattle.move_rules.specs.Sequences.{IsLegalEnd}
use Rattle.move_rules.specs.Payoff.{points}
use Rattle.directed_fixed.specs.declared.bounds.End.{End}
use Rattle.directed_fixed.specs.declared.bounds.End.TheVariants.{Lower, Upper}
use Rattle.directed_fixed.specs.Bounds.{Bounds, IsWithinUnits, at}
use Rattle.directed_fixed.specs.Rounding.{outwards}
use Rattle.cube_actions.specs.declared.kind.Double.{Double}
use Rattle.cube_actions.specs.declared.kind.Taken.{Taken}
use Rattle.cube_actions.specs.Stakes.{Terms, kind_at, nothing}
use Rattle.turn_rule.specs.declared.game.Game.{Game}
use Rattle.turn_rule.specs.Games.{kinds_of}
use Rattle.turn_rule.specs.Turn.{Words, least, worth}
use Rattle.turn_rule.specs.States.{AreWithin, IsState, pair_of}
use Rattle.interval_words.specs.Numbers.{state_of}
use Rattle.interval_words.specs.WordLists.{WordList, states_of, words_in_list}
use Rattle.play_analyser.specs.Rankings.{IsBetter}
use Rattle.best_reply.specs.declared.left.Left.{Left}
use Rattle.best_reply.specs.Advised.{advised}
use Rattle.best_reply.specs.Policies.{Policy}
use Rattle.best_reply.specs.Replies.{sum_by}

-- how the play that left this won, or else the live rank of the other side's position
pub record IsRight (left : Left) : Type 0 where
  pub won : left.won ≡ points left.end
  pub rank : points left.end ≡ None → left.rank ≡ live_rank_of (swap left.end)
  pub small : left.rank < 2 ^ 24

abbrev pub ends_in : List Left → List Placement
ends_in lefts = map (λ (left : Left). left.end) lefts

-- a position, and a roll in it with the number of ways in which it comes
pub record RollAt : Type 0 where
  pub position : Placement
  pub roll : Dice
  pub times : ℕ

abbrev pub weighted_kept : RollAt → Dice × ℕ
weighted_kept at = (at.roll, at.times)

-- every roll of a position
pub record AreRollsKept (p : Placement) (kept : List RollAt) : Type 0 where
  pub rolls : map weighted_kept kept ≡ all_rolls
  pub position : All (λ at. at.position ≡ p) kept

-- what the legal plays of the roll leave, in the order in which plays are listed
pub record AreEndsOfPlays (at : RollAt) (ends : List Placement) : Type 0 where
  pub right : IsRoll at.roll
  pub entries : List Entry
  pub is : ends_of entries ≡ ends
  pub some : 0 < length ends
  pub legal : (q : Placement) → Contains ends q ↔ IsLegalEnd at.position at.roll q
  pub first : All (λ entry. IsFirst at.position at.roll entry.play.items entry.end) entries
  pub in_order : AllPairs PlayComesBefore (plays_of entries)

-- the same, each with how it won, or else with the rank of what comes
pub record AreRightLefts (at : RollAt) (lefts : List Left) : Type 0 where
  pub listed : AreEndsOfPlays at (ends_in lefts)
  pub right : All IsRight lefts

-- a pair for each state of a game of so many kinds, by its number
pub record StatePairs : Type 0 where
  pub kinds : ℕ
  pub pairs : List Bounds

abbrev pub words_by : StatePairs → Words
words_by bank end p k = at end (slice_index_or bank.pairs (state_of bank.kinds p k) nothing)

-- unless this ended the game, the other side has a live position of so many checkers
abbrev pub LeavesLive : ℕ → Placement → Type 0
LeavesLive checkers end = points end ≡ None → IsLive (swap end) × (sum (swap end).mover ≡ checkers)

-- unless this ended the game, the other side has a state of the game in this kind
abbrev pub LeavesStateOfGame : Game → ℕ → Placement → Type 0
LeavesStateOfGame game next end = points end ≡ None → IsState game (swap end) next

-- and these pairs have one for that
abbrev pub LeavesPair : StatePairs → ℕ → Placement → Type 0
LeavesPair bank next end =
    points end ≡ None → live_rank_of (swap end) * bank.kinds + next < length bank.pairs

-- the play at this place leaves more than each before it, and no other leaves more than it
pub record IsFirstBest (pair : Placement → Bounds) (lefts : List Left) (place : ℕ) : Type 0 where
  pub inside : place < length lefts
  pub before :
      (i : ℕ) (none : Left) → i < place
      → IsBetter (pair (slice_index_or lefts place none).end)
      (pair (slice_index_or lefts i none).end)
  pub none :
      (i : ℕ) (none : Left) → i < length lefts
      → IsBetter (pair (slice_index_or lefts i none).end)
      (pair (slice_index_or lefts place none).end) → ⊥

-- there is a pair for each state of the game
pub record IsBankOf (game : Game) (bank : StatePairs) : Type 0 where
  pub kinds : bank.kinds ≡ kinds_of game
  pub many : length bank.pairs ≡ states_of game

-- and each is within the bound, lower at most upper
pub record IsRightBank (game : Game) (bank : StatePairs) : Type 0 where
  pub full : IsBankOf game bank
  pub within : AreWithin game (words_by bank)

-- the policy that the words advise
abbrev pub policy_of : WordList → Policy
policy_of words = advised words.game.stakes (words_in_list words)

-- ---- sums over the 36 ways of two dice

-- both ends lie within 2 ^ 42 units
pub record IsSmallSum (sum : Bounds) : Type 0 where
  pub lower : IsWithinUnits (pos (2 ^ 42)) sum.lower
  pub upper : IsWithinUnits (pos (2 ^ 42)) sum.upper

-- of what the policy's plays leave
abbrev pub follow_sum : Policy → Terms → Words → Placement → ℕ → Bounds
follow_sum policy stakes u p k = record {
  lower = sum_by all_rolls (worth Lower (kind_at stakes k) u) (policy p k);
  upper = sum_by all_rolls (worth Upper (kind_at stakes k) u) (policy p k);
}

-- a 36th of a sum that counts so many times, rounded outwards
abbrev pub mean_pair : ℕ → Bounds → Bounds
mean_pair factor sum = record {
  lower = outwards Lower (pos factor *ℤ sum.lower);
  upper = outwards Upper (pos factor *ℤ sum.upper);
}

-- the least of a pass and of the other answers to a double, where each kind has this sum
abbrev pub doubled_from : End → (ℕ → Bounds) → Double → ℤ
doubled_from end sums double =
    least (at end double.pass)
    (map (λ (taken : Taken). at end (mean_pair taken.factor (sums taken.kind)))
    double.answers.items)

-- the better of rolling at once and of doubling
abbrev pub or_double_from : End → (ℕ → Bounds) → ℤ → Option Double → ℤ
or_double_from end sums plain None = plain
or_double_from end sums plain (Some double) = int_max plain (doubled_from end sums double)

-- what a state is worth before its turn
abbrev pub turn_from : Terms → (ℕ → Bounds) → ℕ → Bounds
turn_from stakes sums k = record {
  lower = or_double_from Lower sums (mean_pair 1 (sums k)).lower (kind_at stakes k).double;
  upper = or_double_from Upper sums (mean_pair 1 (sums k)).upper (kind_at stakes k).double;
}

-- an answer to a double counts at most four times, in one of so many kinds
pub record IsAnswerIn (kinds : ℕ) (taken : Taken) : Type 0 where
  pub kind : taken.kind < kinds
  pub factor : taken.factor ≤ 4

-- the sum of each kind
abbrev pub sums_in : List Bounds → ℕ → Bounds
sums_in sums k = slice_index_or sums k nothing

-- the kinds of a position have got these pairs, and no pair of another position has changed
pub record ArePairsPut (rank : ℕ) (pair : ℕ → Bounds) (old new : StatePairs) : Type 0 where
  pub kinds : new.kinds ≡ old.kinds
  pub many : length new.pairs ≡ length old.pairs
  pub put : (k : ℕ) → k < old.kinds
      → slice_index_or new.pairs (rank * old.kinds + k) nothing ≡ pair k
  pub rest :
      (other k : ℕ) → other ≢ rank → k < old.kinds
      → slice_index_or new.pairs (other * old.kinds + k) nothing
      ≡ slice_index_or old.pairs (other * old.kinds + k) nothing

-- there is a pair for each state, and those of the positions with a lower live rank than this one are these words
pub record IsFilledTo (game : Game) (target : Words) (rank : ℕ) (bank : StatePairs) : Type 0 where
  pub full : IsBankOf game bank
  pub so_far :
      (p : Placement) (k : ℕ) → IsState game p k → live_rank_of p < rank
      → pair_of (words_by bank) p k ≡ pair_of target p k
