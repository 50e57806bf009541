-- Pairs that are narrow enough.
use Rattle.std.proofs.Common.{◌≡◌, ℕ, ℤ, ◌-ℤ◌, ◌≤ℤ◌, ◌<ℤ◌, Some, arith, sym, ap, subst}
use Rattle.std.proofs.lemmas.Int.{ints, clamps}
use Rattle.position_rank.specs.Placement.{Placement}
use Rattle.directed_fixed.specs.declared.bounds.End.{End}
use Rattle.directed_fixed.specs.declared.bounds.End.TheVariants.{Lower, Upper}
use Rattle.directed_fixed.specs.Bounds.{IsNoLooser}
use Rattle.turn_rule.specs.Games.{kinds_of}
use Rattle.turn_rule.specs.Turn.{Words, rounds}
use Rattle.turn_rule.specs.States.{IsState, AreNoLooser}
use Rattle.turn_rule.specs.declared.game.Game.{Game}
use Rattle.interval_words.specs.Numbers.{state_of, word_of, tightest}
use Rattle.interval_words.specs.Core.{noted, known}
use Rattle.interval_words.specs.Seats.{GameTable, GameSeat, SitsAt, IsNumber, KeepsNotes, noting}
use Rattle.interval_words.specs.WordLists.{IsNarrowAt, AreNarrow}
use Rattle.interval_words.proofs.Ends.{tightest-right}
use Rattle.interval_words.proofs.SeatNotes.{keeps-trans, keeps-noting, sits-noting, told-noting}

-- tighter pairs are no wider
pub narrow-tighter : (game : Game) (u v : Words) (widest : ℤ) → AreNoLooser game u v → AreNarrow game v widest → AreNarrow game u widest
narrow-tighter game u v widest tighter narrow p k is = omega (arith, ints, tighter Lower p k is, tighter Upper p k is, narrow p k is)

tightest-first : (end : End) (a b c : ℤ) → IsNoLooser end a b → IsNoLooser end (tightest end a c) (tightest end b c)
tightest-first Lower a b c h = omega (arith, ints, clamps)
tightest-first Upper a b c h = omega (arith, ints, clamps)

-- a seat that keeps its notes knows no less
pub known-kept : (game : Game) (old new : GameSeat) → KeepsNotes old new → old.view.game ≡ Some game → AreNoLooser game (known game new.view) (known game old.view)
known-kept game old new kept names end p k is =
    subst (λ (n : ℕ). IsNoLooser end (tightest end (noted game new.view.notes end p k) (rounds game.stakes n end p k)) (known game old.view end p k)) (sym kept.base)
    (tightest-first end _ _ _ (kept.notes game names end p k is))

-- where a seat knew a pair that is too wide, so was one after its rounds
pub wide-rounds : (game : Game) (seat : GameSeat) (widest : ℤ) → (AreNarrow game (known game seat.view) widest → ⊥) → AreNarrow game (rounds game.stakes seat.view.base) widest → ⊥
wide-rounds game seat widest wide narrow = wide (narrow-tighter game (known game seat.view) (rounds game.stakes seat.view.base) widest (λ end p k is. tightest-right end _ _) narrow)

-- both words of a state were read
module _ (board : GameTable) (old middle new : GameSeat) (state : ℕ) (lower upper widest : ℤ) (first : middle ≡ noting old (word_of Lower state) lower) (second : new ≡ noting middle (word_of Upper state) upper) (sits : SitsAt board old) where
  keeps-first : KeepsNotes old middle
  keeps-first = keeps-noting board old middle (word_of Lower state) lower first sits

  sits-middle : SitsAt board middle
  sits-middle = sits-noting board old middle (word_of Lower state) lower first sits

  keeps-second : KeepsNotes middle new
  keeps-second = keeps-noting board middle new (word_of Upper state) upper second sits-middle

  pub keeps-both : KeepsNotes old new
  keeps-both = keeps-trans old middle new keeps-first keeps-second

  pub narrow-noted : (upper -ℤ lower) ≤ℤ widest → IsNarrowAt board.game (noted board.game new.view.notes) widest state
  narrow-noted less p k is at =
      let low = told-noting board old middle (word_of Lower state) lower first sits Lower p k (ap (word_of Lower) at) in
      let still = keeps-second.notes board.game sits-middle.game Lower p k is in
      let high = told-noting board middle new (word_of Upper state) upper second sits-middle Upper p k (ap (word_of Upper) at) in
      omega (arith, ints, low, still, high, less)

  pub wide-known : widest <ℤ (upper -ℤ lower) → IsNumber board.game state
      → ((p : Placement) (k : ℕ) → IsState board.game p k → state ≡ state_of (kinds_of board.game) p k → IsNoLooser Lower lower (known board.game old.view Lower p k))
      → ((p : Placement) (k : ℕ) → IsState board.game p k → state ≡ state_of (kinds_of board.game) p k → IsNoLooser Upper upper (known board.game middle.view Upper p k))
      → IsNarrowAt board.game (known board.game old.view) widest state → ⊥
  wide-known more number low high narrow =
      let p = number.position in
      let k = number.kind in
      let known_low = low p k number.is number.number in
      let known_high = high p k number.is number.number in
      let before = known-kept board.game old middle keeps-first sits.game Upper p k number.is in
      omega (arith, ints, known_low, known_high, before, narrow p k number.is number.number, more)
