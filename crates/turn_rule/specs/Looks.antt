-- Where words are looked up, and what a look-up may answer.
use Rattle.std.specs.Prelude.{◌≡◌, ℕ, ◌≤◌, ℤ, pos, ◌*ℤ◌, ◌↔◌, Bool, true, IsTrue, IsFalse, ◌⊎◌, List, [], ◌∷◌, length, All, AllPairs, Option, Some, None, Result, IfOk, IfErr}
use Rattle.std.specs.List.{Contains}
use Rattle.position_rank.specs.Placement.{Placement, swap}
use Rattle.roll_table.specs.Rolls.{Dice, IsRoll, all_rolls}
use Rattle.move_rules.specs.declared.play.Entry.{Entry}
use Rattle.move_rules.specs.Order.{PlayComesBefore, IsFirst, ends_of, plays_of}
use Rattle.move_rules.specs.Sequences.{IsLegalEnd}
use Rattle.move_rules.specs.Payoff.{points}
use Rattle.directed_fixed.specs.declared.bounds.End.{End}
use Rattle.directed_fixed.specs.declared.bounds.End.TheVariants.{Lower, Upper}
use Rattle.directed_fixed.specs.Bounds.{Bounds, IsNoLooser, IsWithin, IsWithinUnits, at}
use Rattle.cube_actions.specs.declared.kind.Double.{Double}
use Rattle.cube_actions.specs.declared.kind.Taken.{Taken}
use Rattle.cube_actions.specs.Stakes.{Terms, kind_at}
use Rattle.hyper_outside.specs.Causes.{Rose}
use Rattle.hyper_outside.specs.declared.outside.LookStop.{LookStop}
use Rattle.hyper_outside.specs.declared.outside.LookStop.TheVariants.{ReadFault, BadPage, NoMemory}
use Rattle.hyper_outside.specs.declared.outside.PageFault.{PageFault}
use Rattle.turn_rule.specs.Turn.{Words, roll_value, turn}
use Rattle.turn_rule.specs.States.{IsStateOf, AreWithinOf, AreNoLooserOf}

-- why the words of a state can't be had, and the place where that is told
pub record Damage : Type 0 where
  pub fault : PageFault
  pub at : ℕ

-- Where words of a game are looked up: for so many checkers a side, so many kinds and a bound of all values. It is sure where each look-up
-- is answered. Where answers are told, its floor has the loosest words that a look-up may see, and it says which states are damaged.
pub record Source : Type 0 where
  pub checkers : ℕ
  pub kinds : ℕ
  pub bound : ℤ
  pub sure : Bool
  pub floor : Words
  pub damage : Placement → ℕ → Option Damage

-- What is noted at a moment: the tightest words that a look-up may have seen until then, and whether what was answered is told. So it is
-- answered by the source's floor and damages.
pub record Notes : Type 0 where
  pub words : Words
  pub told : Bool

-- notes of these words, and all is told
abbrev pub all_told : Words → Notes
all_told u = record { words = u; told = true }

-- An answer is within the bound. Where it is told, it is at least as tight as the source's floor and no tighter than what is noted after it,
-- and the state isn't damaged.
pub record IsAnswer (end : End) (source : Source) (noted : Notes) (p : Placement) (k : ℕ)
    (value : ℤ) : Type 0 where
  pub within : IsWithinUnits source.bound value
  pub floor : IsTrue noted.told → IsNoLooser end value (source.floor end p k)
  pub notes : IsTrue noted.told → IsNoLooser end (noted.words end p k) value
  pub right : IsTrue noted.told → source.damage p k ≡ None

-- A sure source never stops. Another does at a fault of reading only where the count of faults rose, and at a bad page, where damages are
-- told, only with a damage that is meant.
abbrev pub MayStop : Source → Notes → ℕ → ℕ → (Damage → Type 0) → LookStop → Type 0
MayStop source noted before now meant ReadFault = IsFalse source.sure × Rose before now
MayStop source noted before now meant (BadPage fault at) =
    IsFalse source.sure × (IsTrue noted.told → meant (record { fault = fault; at = at }))
MayStop source noted before now meant NoMemory = IsFalse source.sure

-- What contracts see of a place of look-ups at one moment: where it looks, what is noted, and how often a call of the outside has failed.
pub record Seen : Type 0 where
  pub source : Source
  pub notes : Notes
  pub faults : ℕ

-- a state that a source's words may be looked up for
abbrev pub IsSourceState : Source → Placement → ℕ → Type 0
IsSourceState source p k = IsStateOf source.checkers source.kinds p k

-- in each state of a source, lower at most upper, and both within its bound
abbrev pub AreSourceWords : Source → Words → Type 0
AreSourceWords source u = AreWithinOf source.checkers source.kinds source.bound u

-- Notes after others: where the answers are told, so they were before, and no word is looser.
pub record AreLater (source : Source) (old new : Notes) : Type 0 where
  pub told : IsTrue new.told → IsTrue old.told
  pub words : IsTrue new.told → AreNoLooserOf source.checkers source.kinds new.words old.words

-- two moments of a place of look-ups: where it looks, and what was noted and how often a call of the outside had failed at each
pub record Look : Type 0 where
  pub source : Source
  pub before : Notes
  pub after : Notes
  pub faults_before : ℕ
  pub faults_after : ℕ

-- an answer or a stop, after which the count of faults hasn't fallen and the notes are later ones
pub record Looked {A : Type 0} (look : Look) (meant : Damage → Type 0) (right : A → Type 0)
    (result : Result A LookStop) : Type 0 where
  pub later : look.faults_before ≤ look.faults_after
  pub notes : AreLater look.source look.before look.after
  pub answer : IfOk result right
  pub stop :
      IfErr result
      (MayStop look.source look.after look.faults_before look.faults_after meant)

-- a look-up between two moments
abbrev pub LooksUp : {A : Type 0} → Seen → Seen → (Damage → Type 0) → (A → Type 0)
    → Result A LookStop → Type 0
LooksUp old new meant right result =
    Looked
    (record {
      source = old.source;
      before = old.notes;
      after = new.notes;
      faults_before = old.faults;
      faults_after = new.faults;
    })
    meant right result

-- a look-up of one word of a state
abbrev pub FindsWord : End → Placement → ℕ → Seen → Seen → Result ℤ LookStop → Type 0
FindsWord end p k old new result =
    LooksUp old new (λ damage. old.source.damage p k ≡ Some damage)
    (IsAnswer end old.source new.notes p k) result

-- stakes that a source's words may be asked for: of so many kinds, and with this bound
pub record AreStakesOf (source : Source) (stakes : Terms) : Type 0 where
  pub kinds : source.kinds ≡ length stakes.kinds
  pub bound : source.bound ≡ stakes.bound

-- some states
abbrev pub States : Type 1
States = Placement → ℕ → Type 0

-- the state that a play leaves, unless it ends the game: the other side is to move, in the next kind
pub record IsLeft (next : ℕ) (end : Placement) (p : Placement) (k : ℕ) : Type 0 where
  pub goes_on : points end ≡ None
  pub sides : p ≡ swap end
  pub kind : k ≡ next

-- a state that some play of the roll leaves
pub record MayFollowRoll (stakes : Terms) (p : Placement) (k : ℕ) (roll : Dice) (q : Placement)
    (j : ℕ) : Type 0 where
  pub end : Placement
  pub legal : IsLegalEnd p roll end
  pub left : IsLeft (kind_at stakes k).next end q j

-- a state that some roll's play may leave
pub record MayFollow (stakes : Terms) (p : Placement) (k : ℕ) (q : Placement) (j : ℕ) : Type 0 where
  pub roll : Dice
  pub right : IsRoll roll
  pub end : Placement
  pub legal : IsLegalEnd p roll end
  pub left : IsLeft (kind_at stakes k).next end q j

-- a state that some roll's play may leave after a double and an answer to it that plays on
pub record MayFollowDouble (stakes : Terms) (p : Placement) (k : ℕ) (q : Placement)
    (j : ℕ) : Type 0 where
  pub double : Double
  pub right : (kind_at stakes k).double ≡ Some double
  pub taken : Taken
  pub answer : Contains double.answers.items taken
  pub after : MayFollow stakes p taken.kind q j

-- a state that may follow a turn
abbrev pub MayFollowTurn : Terms → Placement → ℕ → States
MayFollowTurn stakes p k q j = MayFollow stakes p k q j ⊎ MayFollowDouble stakes p k q j

-- one of some states has this damage
pub record HasDamage (source : Source) (states : States) (damage : Damage) : Type 0 where
  pub position : Placement
  pub kind : ℕ
  pub among : states position kind
  pub damaged : source.damage position kind ≡ Some damage

-- none of some states is damaged
abbrev pub AreUndamaged : Source → States → Type 0
AreUndamaged source states = (p : Placement) (k : ℕ) → states p k → source.damage p k ≡ None

-- which damage of a source is met first
abbrev pub Meets : Type 1
Meets = Source → Damage → Type 0

-- The damage that is met first where these are gone through in their order, each with its states: it is met at the first, or none of the
-- first's states is damaged and it is met first at those that come after.
abbrev pub MeetsFirst : {X : Type 0} → (X → States) → (X → Meets) → List X → Meets
MeetsFirst states meets [] source damage = ⊥
MeetsFirst states meets (x ∷ xs) source damage =
    meets x source damage
    ⊎ (AreUndamaged source (states x) × MeetsFirst states meets xs source damage)

-- the damage that is met first at what some plays leave
abbrev pub MeetsOnEnds : ℕ → List Placement → Meets
MeetsOnEnds next =
    MeetsFirst (IsLeft next) (λ end source damage. HasDamage source (IsLeft next end) damage)

-- the ends of a roll's legal plays, each once, in the order of the first plays that leave them
pub record AreEndsInOrder (p : Placement) (roll : Dice) (ends : List Placement) : Type 0 where
  pub entries : List Entry
  pub are : ends ≡ ends_of entries
  pub legal : (q : Placement) → Contains ends q ↔ IsLegalEnd p roll q
  pub first : All (λ entry. IsFirst p roll entry.play.items entry.end) entries
  pub in_order : AllPairs PlayComesBefore (plays_of entries)

-- the damage that is met first at what the plays of this roll leave
pub record MeetsOnRoll (stakes : Terms) (p : Placement) (k : ℕ) (roll : Dice) (source : Source)
    (damage : Damage) : Type 0 where
  pub ends : List Placement
  pub in_order : AreEndsInOrder p roll ends
  pub meets : MeetsOnEnds (kind_at stakes k).next ends source damage

-- the damage that is met first when rolling in a kind, the rolls from 11 to 66
abbrev pub MeetsRolling : Terms → Placement → ℕ → Meets
MeetsRolling stakes p k = MeetsFirst (λ roll. MayFollowRoll stakes p k roll.0)
    (λ roll. MeetsOnRoll stakes p k roll.0) all_rolls

-- the damage that is met first after a double with these answers that play on
abbrev pub MeetsOnAnswers : Terms → Placement → List Taken → Meets
MeetsOnAnswers stakes p = MeetsFirst
    (λ taken. MayFollow stakes p taken.kind)
    (λ taken. MeetsRolling stakes p taken.kind)

-- the damage that is met first after a double, in the order of the answers
pub record MeetsDoubled (stakes : Terms) (p : Placement) (k : ℕ) (source : Source)
    (damage : Damage) : Type 0 where
  pub double : Double
  pub right : (kind_at stakes k).double ≡ Some double
  pub meets : MeetsOnAnswers stakes p double.answers.items source damage

-- the damage that is met first at a turn: without a double, and then after one
pub record MeetsOnTurn (stakes : Terms) (p : Placement) (k : ℕ) (source : Source)
    (damage : Damage) : Type 0 where
  pub first : MeetsRolling stakes p k source damage
      ⊎ (AreUndamaged source (MayFollow stakes p k) × MeetsDoubled stakes p k source damage)

-- one end of a value that lies between what it is over the loosest words that a look-up may have seen, and over the tightest
pub record IsBetweenWords (end : End) (loosest tightest : Words) (value : Words → ℤ)
    (found : ℤ) : Type 0 where
  pub no_looser : IsNoLooser end found (value loosest)
  pub no_tighter : IsNoLooser end (value tightest) found

-- A pair within a bound. Where the answers are told, each end lies between the values over the loosest words, the source's floor, and over
-- the tightest, those of the notes, and none of the states is damaged.
pub record IsPairOf (source : Source) (noted : Notes) (states : States) (bound : ℤ)
    (value : End → Words → ℤ) (pair : Bounds) : Type 0 where
  pub within : IsWithin bound pair
  pub ends :
      IsTrue noted.told → (end : End)
      → IsBetweenWords end source.floor noted.words (value end) (at end pair)
  pub right : IsTrue noted.told → AreUndamaged source states

-- What is sought from words: over which states, which damage of theirs is met first, how far from 0 it may lie where no word lies farther
-- than a bound, and its value at an end.
pub record Sought : Type 1 where
  pub states : States
  pub meets : Meets
  pub limit : ℤ → ℤ
  pub value : End → Words → ℤ

-- a pair of it from a source's words
abbrev pub IsPairFor : Sought → Source → Notes → Bounds → Type 0
IsPairFor sought source noted =
    IsPairOf source noted sought.states (sought.limit source.bound) sought.value

-- a look-up of such a pair
abbrev pub FindsPair : Sought → Seen → Seen → Result Bounds LookStop → Type 0
FindsPair sought old new result =
    LooksUp old new (sought.meets old.source) (IsPairFor sought old.source new.notes) result

-- what rolling in a kind is worth that counts so many times
abbrev pub of_roll : Terms → Placement → ℕ → ℕ → Sought
of_roll stakes p k factor = record {
  states = MayFollow stakes p k;
  meets = MeetsRolling stakes p k;
  limit = λ bound. pos factor *ℤ bound;
  value = λ end u. roll_value end stakes u p k factor;
}

-- what a state is worth before its turn
abbrev pub of_turn : Terms → Placement → ℕ → Sought
of_turn stakes p k = record {
  states = MayFollowTurn stakes p k;
  meets = MeetsOnTurn stakes p k;
  limit = λ bound. bound;
  value = λ end u. turn stakes u end p k;
}

abbrev pub IsRollPair : Terms → Placement → ℕ → ℕ → Source → Notes → Bounds → Type 0
IsRollPair stakes p k factor = IsPairFor (of_roll stakes p k factor)

abbrev pub IsTurnPair : Terms → Placement → ℕ → Source → Notes → Bounds → Type 0
IsTurnPair stakes p k = IsPairFor (of_turn stakes p k)

-- what rolling in a kind is worth over some words, at both ends
abbrev pub roll_pair : Terms → Words → Placement → ℕ → ℕ → Bounds
roll_pair stakes u p k factor = record {
  lower = roll_value Lower stakes u p k factor;
  upper = roll_value Upper stakes u p k factor;
}
