-- The calls of a board over its table.
use Rattle.std.proofs.Common.{◌≡◌, ◌<◌, ◌+◌, ◌*◌, ◌^◌, ℕ, ℤ, pos, ◌+ℤ◌, ◌-ℤ◌, [], ◌++◌, get_or, Some, arith, refl, sym, ap, subst, ◌∙◌}
use Rattle.std.specs.List.{Contains}
use Rattle.std.proofs.lemmas.Int.{ints}
use Rattle.std.proofs.lemmas.List.Elements.{All-contains}
use mathlib.Core.Option.{none}
use Rattle.atomic_table.specs.Table.{Me, step, Allows}
use Rattle.atomic_table.specs.Seated.{TableId}
use Rattle.position_rank.specs.Placement.{Placement}
use Rattle.directed_fixed.specs.declared.bounds.End.{End}
use Rattle.directed_fixed.specs.Bounds.{IsNoLooser, IsWithinUnits}
use Rattle.turn_rule.specs.Games.{IsGame, kinds_of}
use Rattle.turn_rule.specs.States.{IsState, AreNoLooser}
use Rattle.turn_rule.specs.declared.game.Game.{Game}
use Rattle.turn_rule.proofs.Within.{bound-small}
use Rattle.interval_words.specs.declared.view.View.{View}
use Rattle.interval_words.specs.Numbers.{state_of, states_in, word_of, value_of, tightest_word}
use Rattle.interval_words.specs.Core.{Core, IsTrueOf, words_in_core, AreReached, words_in, noted, known, first_view, with_note, brought, settled, joined}
use Rattle.interval_words.specs.Events.{IsLoose, IsRoundDone}
use Rattle.interval_words.specs.Seats.{GameSeat, IsNumber, MayTighten, AreKnown, Knows, WasHeld, noting, bringing, settling}
use Rattle.interval_words.specs.Rule.{Holds, ReadsWord, Tightens, SettlesWord}
use Rattle.position_rank.specs.LiveRanks.{live_rank_of, live_positions}
use Rattle.interval_words.proofs.SomeState.{some-state}
use Rattle.interval_words.proofs.Places.{state-in, word-in}
use Rattle.interval_words.proofs.EachNumber.{each-number}
use Rattle.turn_rule.specs.Turn.{Words, rounds, bound_words}
use Rattle.interval_words.proofs.TurnLaws.{rounds-later, rounds-none}
use Rattle.interval_words.proofs.Ends.{tight-refl, tight-tightest}
use Rattle.interval_words.proofs.Views.{noted-append}
use Rattle.interval_words.proofs.Steps.{tighter-trans}
use Rattle.interval_words.proofs.Allowed.{one-game, known-notes, reads, tightens, settles}

abbrev Mine : Type 0
Mine = Me (Unit {0}) View

pub value_of-word : (word : ℕ) (value : ℤ) → pos word ≡ value +ℤ pos (2 ^ 36) → value_of word ≡ value
unfolding value_of
value_of-word word value is = omega (arith, ints, is)

-- a state's words stand on the board
pub number-in : (game : Game) (state : ℕ) → IsNumber game state → state < states_in game.checkers (kinds_of game)
number-in game state is = rw is.number (state-in game.checkers (kinds_of game) is.position is.kind is.is)

pub place-in : (game : Game) (end : End) (state : ℕ) → IsNumber game state → word_of end state < words_in game
place-in game end state is = word-in game.checkers (kinds_of game) end state _ (number-in game state is)

module _ (key game : Game) (same : key ≡ game) (slots id : ℕ) (me : Mine) (view : View) (mine : me.0 ≡ view) (alive : view.game ≡ Some game) where
  named : me.0.game ≡ Some game
  named = ap (λ (v : View). v.game) mine ∙ alive

  pub reads-at : (end : End) (state place : ℕ) → place ≡ word_of end state → IsNumber game state → Allows (Holds key) slots id me place (λ n. n) (ReadsWord (step slots place 0 0 none) me)
  reads-at end state place at is =
      let here : place ≡ word_of end (state_of (kinds_of game) is.position is.kind) = at ∙ ap (word_of end) is.number in
      subst (λ (g : Game). Allows (Holds g) slots id me place (λ n. n) (ReadsWord (step slots place 0 0 none) me)) (sym same)
      (subst (λ (i : ℕ). Allows (Holds game) slots id me i (λ n. n) (ReadsWord (step slots i 0 0 none) me)) (sym here) (reads game slots id me named end is.position is.kind is.is))

  pub tightens-at : (end : End) (state place word : ℕ) (value : ℤ) → place ≡ word_of end state → pos word ≡ value +ℤ pos (2 ^ 36) → MayTighten end game view state value → Allows (Holds key) slots id me place (λ n. tightest_word end n word) (Tightens (step slots place word 0 none) me)
  tightens-at end state place word value at is may =
      let here : place ≡ word_of end (state_of (kinds_of game) may.position may.kind) = at ∙ ap (word_of end) may.number in
      let loose : IsLoose game me.0 end may.position may.kind (value_of word) = subst (λ (v : View). IsLoose game v end may.position may.kind (value_of word)) (sym mine) (subst (λ (z : ℤ). IsLoose game view end may.position may.kind z) (sym (value_of-word word value is)) may.loose) in
      subst (λ (g : Game). Allows (Holds g) slots id me place (λ n. tightest_word end n word) (Tightens (step slots place word 0 none) me)) (sym same)
      (subst (λ (i : ℕ). Allows (Holds game) slots id me i (λ n. tightest_word end n word) (Tightens (step slots i word 0 none) me)) (sym here) (tightens game slots id me named end may.position may.kind word loose))

  pub settles-at : IsRoundDone game view → Allows (Holds key) slots id me 0 (λ n. n) (SettlesWord (step slots 0 0 0 none) me)
  settles-at done =
      subst (λ (g : Game). Allows (Holds g) slots id me 0 (λ n. n) (SettlesWord (step slots 0 0 0 none) me)) (sym same)
      (settles game slots id me named (subst (λ (v : View). IsRoundDone game v) (sym mine) done))

-- each number below the number of states is that of a state
pub is-number : (game : Game) → IsGame game → (state : ℕ) → state < states_in game.checkers (kinds_of game) → IsNumber game state
is-number game right state below =
    let is = each-number game.checkers (kinds_of game) state right.low right.high right.stakes.some below in
    record { position = is.position; kind = is.kind; is = is.is; number = is.number }

-- the seat after a step that notes a value
pub noting-at : (seat : GameSeat) (table later : TableId) (me next : Mine) (place word : ℕ) (found value : ℤ) → record { table = table; view = me.0 } ≡ seat → later ≡ table → next ≡ (with_note me.0 place found, me.1) → place ≡ word → found ≡ value → record { table = later; view = next.0 } ≡ noting seat word value
noting-at seat table later me next place word found value is table_is next_is place_is found_is =
    let tables : later ≡ seat.table = table_is ∙ ap (λ (s : GameSeat). s.table) is in
    let views : next.0 ≡ with_note seat.view word value = ap (λ (m : Mine). m.0) next_is ∙ (λ i. with_note ((ap (λ (s : GameSeat). s.view) is) i) (place_is i) (found_is i)) in
    λ i. record { table = tables i; view = views i }

-- the seat after a step that brings a value
pub bringing-at : (seat : GameSeat) (table later : TableId) (me next : Mine) (place word : ℕ) (found value : ℤ) → record { table = table; view = me.0 } ≡ seat → later ≡ table → next ≡ (brought me.0 place found, me.1) → place ≡ word → found ≡ value → record { table = later; view = next.0 } ≡ bringing seat word value
bringing-at seat table later me next place word found value is table_is next_is place_is found_is =
    let tables : later ≡ seat.table = table_is ∙ ap (λ (s : GameSeat). s.table) is in
    let views : next.0 ≡ brought seat.view word value = ap (λ (m : Mine). m.0) next_is ∙ (λ i. brought ((ap (λ (s : GameSeat). s.view) is) i) (place_is i) (found_is i)) in
    λ i. record { table = tables i; view = views i }

-- the seat after a round
pub settled-at : (seat : GameSeat) (table later : TableId) (me next : Mine) → record { table = table; view = me.0 } ≡ seat → later ≡ table → next ≡ (settled me.0, me.1) → record { table = later; view = next.0 } ≡ settling seat
settled-at seat table later me next is table_is next_is =
    let tables : later ≡ seat.table = table_is ∙ ap (λ (s : GameSeat). s.table) is in
    let views : next.0 ≡ settled seat.view = ap (λ (m : Mine). m.0) next_is ∙ ap (λ (s : GameSeat). settled s.view) is in
    λ i. record { table = tables i; view = views i }

-- there is a first word
pub word-zero : (game : Game) → IsGame game → 0 < words_in game
word-zero game is = omega (arith, some-state game.checkers (kinds_of game) is.low is.high is.stakes.some)

-- a state's number, as it is computed
pub number-is : (kinds : ℕ) (p : Placement) (k rank many : ℕ) → rank ≡ live_rank_of p → many ≡ kinds → rank * many + k ≡ state_of kinds p k
unfolding state_of
number-is kinds p k rank many ranked same = rw (ranked, same) refl

pub count-is : (checkers kinds live many : ℕ) → live ≡ live_positions checkers → many ≡ kinds → live * many ≡ states_in checkers kinds
unfolding states_in
count-is checkers kinds live many counted same = rw (counted, same) refl

-- what was found at a word is the value of a seat's read
pub read-value : (word : ℕ) (value : ℤ) → value ≡ pos word -ℤ pos (2 ^ 36) → value_of word ≡ value
unfolding value_of
read-value word value is = sym is

-- what a word held is within the bound, and at least as tight as what the view tells of it
module _ (game : Game) (view : View) (end : End) (p : Placement) (k : ℕ) (is : IsState game p k) (value : ℤ) (held : WasHeld game view (word_of end (state_of (kinds_of game) p k)) value) where
  abbrev core : Core
  core = record { game = game; words = held.words; views = held.views }

  held-within : IsWithinUnits game.stakes.bound value
  held-within = subst (λ (z : ℤ). IsWithinUnits game.stakes.bound z) held.held (held.kept.within end p k is)

  held-tight : IsNoLooser end value (known game view end p k)
  held-tight =
      let true_of = All-contains (IsTrueOf game (words_in_core core)) held.views view held.kept.views held.stands in
      subst (λ (z : ℤ). IsNoLooser end z (known game view end p k)) held.held
      (tight-tightest end (noted game view.notes end p k) (rounds game.stakes view.base end p k) _ (true_of.notes end p k is) (true_of.base end p k is))

module _ (game : Game) (me : Mine) (view : View) (mine : me.0 ≡ view) (alive : view.game ≡ Some game) (end : End) (state place found : ℕ) (at : place ≡ word_of end state) (told : (named : Game) → me.0.game ≡ Some named → WasHeld named me.0 place (value_of found)) (value : ℤ) (same : value_of found ≡ value) where
  pub read-held : WasHeld game view (word_of end state) value
  read-held =
      let was = told game (ap (λ (v : View). v.game) mine ∙ alive) in
      record {
        words = was.words;
        views = was.views;
        kept = was.kept;
        stands = subst (λ (v : View). Contains was.views v) mine was.stands;
        held = ap (λ (n : ℕ). value_of (get_or was.words n 0)) (sym at) ∙ (was.held ∙ same);
      }

  held-at : (p : Placement) (k : ℕ) → state ≡ state_of (kinds_of game) p k → WasHeld game view (word_of end (state_of (kinds_of game) p k)) value
  held-at p k number = subst (λ (n : ℕ). WasHeld game view (word_of end n) value) number read-held

  pub read-within : IsNumber game state → IsWithinUnits game.stakes.bound value
  read-within is = held-within game view end is.position is.kind is.is value (held-at is.position is.kind is.number)

  pub read-tight : (p : Placement) (k : ℕ) → IsState game p k → state ≡ state_of (kinds_of game) p k → IsNoLooser end value (known game view end p k)
  read-tight p k is number = held-tight game view end p k is value (held-at p k number)

-- so what was found stands for a value
pub read-small : (game : Game) (me : Mine) (view : View) → me.0 ≡ view → view.game ≡ Some game → (end : End) (state place found : ℕ) → place ≡ word_of end state → ((named : Game) → me.0.game ≡ Some named → WasHeld named me.0 place (value_of found))
    → IsNumber game state → IsWithinUnits (pos (2 ^ 56)) (pos found -ℤ pos (2 ^ 36))
unfolding value_of
read-small game me view mine alive end state place found at told is =
    let within = read-within game me view mine alive end state place found at told (value_of found) refl is in
    let held = read-held game me view mine alive end state place found at told (value_of found) refl in
    let small = bound-small game.stakes held.kept.game.stakes in
    record { from = omega (arith, ints, within.from, small); to = omega (arith, ints, within.to, small) }

-- what two seats know is known to the one that took in the other
pub knows-joined : (game : Game) → IsGame game → (view other : View) → view.game ≡ Some game → other.game ≡ Some game → Knows view → Knows other → Knows (joined view other)
knows-joined game is view other names also knows those = record { notes = λ named e. subst (λ (g : Game). AreKnown g (view.notes ++ other.notes)) (one-game view game named names e) (known-notes game is (view.notes ++ other.notes) both) } where
  both : AreReached game (noted game (view.notes ++ other.notes))
  both =
      let one = (knows.notes game names).reached in
      let two = (those.notes game also).reached in
      let all : Words = rounds game.stakes (one.0 + two.0) in
      let swapped : two.0 + one.0 ≡ one.0 + two.0 = omega arith in
      let left : AreNoLooser game all (rounds game.stakes one.0) = rounds-later game is.stakes one.0 two.0 in
      let right : AreNoLooser game all (rounds game.stakes two.0) = subst (λ (n : ℕ). AreNoLooser game (rounds game.stakes n) (rounds game.stakes two.0)) swapped (rounds-later game is.stakes two.0 one.0) in
      (one.0 + two.0, noted-append game all view.notes other.notes (tighter-trans game all _ _ left one.1) (tighter-trans game all _ _ right two.1))

-- a first view tells nothing
pub knows-first : (game : Game) → IsGame game → Knows (first_view game)
knows-first game is = record { notes = λ named e. subst (λ (g : Game). AreKnown g []) (one-game (first_view game) game named refl e) (known-notes game is [] (0, subst (λ (u : Words). AreNoLooser game u (bound_words game.stakes)) (sym (rounds-none game.stakes)) (λ end p k state. tight-refl end _))) }
