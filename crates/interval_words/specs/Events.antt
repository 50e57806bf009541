-- What may happen to a core.
use Rattle.std.specs.Prelude.{◌≡◌, ◌≢◌, ◌<◌, ℕ, ◌+◌, ℤ, List, [], ◌∷◌, ◌++◌, Some, slice_index, slice_index_or, slice_set}
use Rattle.position_rank.specs.Placement.{Placement}
use Rattle.directed_fixed.specs.declared.bounds.End.{End}
use Rattle.directed_fixed.specs.declared.bounds.End.TheVariants.{Lower, Upper}
use Rattle.directed_fixed.specs.Bounds.{IsNoLooser, IsWithinUnits}
use Rattle.turn_rule.specs.Games.{kinds_of}
use Rattle.turn_rule.specs.Turn.{turn, rounds}
use Rattle.turn_rule.specs.States.{IsState, AreNoLooser}
use Rattle.turn_rule.specs.declared.game.Game.{Game}
use Rattle.interval_words.specs.declared.view.View.{View}
use Rattle.interval_words.specs.Numbers.{state_of, word_of, value_of, tightest_word}
use Rattle.interval_words.specs.Core.{Core, words_in_core, noted, known, first_view, with_note, brought, without_work, without_hand, hired, settled, joined, spent}

-- An event of a view, which is told by its number among the views, and of a word, which is told by its state and its end.
-- A raise and a lowering bring the word of a value.
pub data BoardEvent : Type 0 where
  opens : BoardEvent
  reads : ℕ → End → Placement → ℕ → BoardEvent
  raises : ℕ → Placement → ℕ → ℕ → BoardEvent
  lowers : ℕ → Placement → ℕ → ℕ → BoardEvent
  settles : ℕ → BoardEvent
  splits : ℕ → BoardEvent
  hires : ℕ → BoardEvent
  joins : ℕ → ℕ → BoardEvent

abbrev pub view_at : Core → ℕ → View
view_at core id = slice_index_or core.views id spent

-- the view isn't spent
abbrev pub IsAlive : Core → ℕ → Type 0
IsAlive core id = (view_at core id).game ≡ Some core.game

-- a view with a hand may bring a value for this end of a state: it is within the bound, and no tighter than the turn over what the notes tell
pub record IsLoose (game : Game) (view : View) (end : End) (p : Placement) (k : ℕ)
    (value : ℤ) : Type 0 where
  pub state : IsState game p k
  pub within : IsWithinUnits game.stakes.bound value
  pub loose : IsNoLooser end (turn game.stakes (noted game view.notes) end p k) value
  pub hand : 0 < view.hands

-- what a view tells is at least as tight as the words after one round more than its base
abbrev pub IsRoundDone : Game → View → Type 0
IsRoundDone game view = AreNoLooser game (known game view) (rounds game.stakes (view.base + 1))

-- when an event is allowed
abbrev pub IsAllowed : Core → BoardEvent → Type 0
IsAllowed core opens = Unit {0}
IsAllowed core (reads id end p k) = IsAlive core id × IsState core.game p k
IsAllowed core (raises id p k word) =
    IsAlive core id × IsLoose core.game (view_at core id) Lower p k (value_of word)
IsAllowed core (lowers id p k word) =
    IsAlive core id × IsLoose core.game (view_at core id) Upper p k (value_of word)
IsAllowed core (settles id) = IsAlive core id × IsRoundDone core.game (view_at core id)
IsAllowed core (splits id) = IsAlive core id
IsAllowed core (hires id) = IsAlive core id × (1 < (view_at core id).hands)
IsAllowed core (joins id other) = IsAlive core id × IsAlive core other × (other ≢ id)

abbrev pub with_view : Core → ℕ → View → Core
with_view core id view = record core { views = slice_set core.views id view }

abbrev pub with_new_view : Core → View → Core
with_new_view core view = record core { views = core.views ++ view ∷ [] }

-- a word becomes the tighter of itself and another, which is noted, and so is the work
abbrev pub tightened : Core → ℕ → End → Placement → ℕ → ℕ → Core
tightened core id end p k word =
    let number = word_of end (state_of (kinds_of core.game) p k) in
    record core {
      words = slice_set core.words number (tightest_word end (slice_index core.words number) word);
      views = slice_set core.views id (brought (view_at core id) number (value_of word));
    }

-- what an event changes
abbrev pub core_after : Core → BoardEvent → Core
core_after core opens = with_new_view core (first_view core.game)
core_after core (reads id end p k) =
    with_view core id
    (with_note (view_at core id) (word_of end (state_of (kinds_of core.game) p k))
    (words_in_core core end p k))
core_after core (raises id p k word) = tightened core id Lower p k word
core_after core (lowers id p k word) = tightened core id Upper p k word
core_after core (settles id) = with_view core id (settled (view_at core id))
core_after core (splits id) = with_new_view core (without_work (view_at core id))
core_after core (hires id) =
    with_new_view (with_view core id (without_hand (view_at core id))) (hired (view_at core id))
core_after core (joins id other) =
    with_view (with_view core id (joined (view_at core id) (view_at core other))) other spent

-- each event of a list is allowed when it comes
abbrev pub AreAllowed : Core → List BoardEvent → Type 0
AreAllowed core [] = Unit {0}
AreAllowed core (event ∷ events) = IsAllowed core event × AreAllowed (core_after core event) events

abbrev pub core_after_all : Core → List BoardEvent → Core
core_after_all core [] = core
core_after_all core (event ∷ events) = core_after_all (core_after core event) events
