-- How a game is played out.
use Rattle.std.proofs.Common.{◌≡◌, ◌∙◌, ◌+◌, ◌-◌, ◌≤◌, ◌<◌, Bool, true, false, not, ◌&&◌, ◌||◌, List, [], ◌∷◌, ◌++◌, refl, ap, subst, arith, nat_le}
use Rattle.std.proofs.lemmas.Bool.Decides.{nat_tests}
use Rattle.game_record.specs.declared.player.Player.{Player}
use Rattle.game_record.specs.declared.record.Action.{Action}
use Rattle.game_record.specs.declared.record.What.{What}
use Rattle.game_record.specs.declared.record.What.TheVariants.{Rolled, Doubled, Took, Passed, Beavered}
use Rattle.game_record.specs.Games.{is_over}
use Rattle.record_maker.specs.declared.due.Due.{Due}
use Rattle.record_maker.specs.declared.due.Due.TheVariants.{Start, Turn, Answer, Roll, Nothing}
use Rattle.record_maker.specs.declared.size.Size.{Size}
use Rattle.record_maker.specs.declared.state.Maker.{Maker}
use Rattle.record_maker.specs.Makers.{HasDoneDue, HasLinesLeft, moment_at, behind, is_unfinished}
use Rattle.record_maker.specs.Making.{AllDo, DoesAct, IsDone, Moment, due_after, is_turn}
use Rattle.record_maker.specs.Sizes.{is_full}

-- a game was played so far, and this is due
pub record HasPlayed (start : Moment) (actions : List Action) (maker : Maker) (due : Due) : Type 0 where
  pub done : AllDo start actions (moment_at maker due)
  pub room : HasLinesLeft (behind due) maker.size
  pub over : due ≡ Nothing → is_over maker.game ≡ true

-- one more action
pub all-do-more : (start : Moment) (actions : List Action) (now : Moment) (action : Action) (next : Moment) → AllDo start actions now → DoesAct now action next → AllDo start (actions ++ action ∷ []) next
all-do-more start [] now action next all one = (next, subst (λ (from : Moment). DoesAct from action next) all one, refl)
all-do-more start (first ∷ actions) now action next (after, does, all) one = (after, does, all-do-more after actions now action next all one)

-- a pass alone leaves nothing due, and it ends the game
pub pass-ends : (due : Due) (now : Moment) (player : Player) (what : What) (next : Moment) → IsDone due now player what next → due_after player what ≡ Nothing → is_over next.game ≡ true
pass-ends due now player (Rolled roll written) next done none = absurd (cc)
pass-ends due now player Doubled next done none = absurd (cc)
pass-ends due now player Took next done none = absurd (cc)
pass-ends due now player Beavered next done none = absurd (cc)
pass-ends Start now player Passed next done none = absurd done.1
pass-ends (Turn asked) now player Passed next done none = absurd done.1.1
pass-ends (Answer asked) now player Passed next done none = ap is_over done.1.1
pass-ends (Roll asked) now player Passed next done none = absurd done.1
pass-ends Nothing now player Passed next done none = absurd done

-- more lines may stand behind the last measured place
pub further-behind : (due : Due) (now : Moment) (player : Player) (what : What) (next : Moment) → IsDone due now player what next → is_turn due ≡ false → behind due + 1 ≤ behind (due_after player what)
further-behind Start now player (Rolled roll written) next done first = omega arith
further-behind Start now player Doubled next done first = absurd done.1
further-behind Start now player Took next done first = absurd done.1
further-behind Start now player Passed next done first = absurd done.1
further-behind Start now player Beavered next done first = absurd done.1
further-behind (Turn asked) now player what next done first = absurd (cc)
further-behind (Answer asked) now player (Rolled roll written) next done first = absurd done.1
further-behind (Answer asked) now player Doubled next done first = absurd done.1
further-behind (Answer asked) now player Took next done first = omega arith
further-behind (Answer asked) now player Passed next done first = omega arith
further-behind (Answer asked) now player Beavered next done first = absurd done.1
further-behind (Roll asked) now player (Rolled roll written) next done first = omega arith
further-behind (Roll asked) now player Doubled next done first = absurd done.1
further-behind (Roll asked) now player Took next done first = absurd done.1
further-behind (Roll asked) now player Passed next done first = absurd done.1
further-behind (Roll asked) now player Beavered next done first = absurd done.1
further-behind Nothing now player what next done first = absurd done

-- text that isn't too much
pub not-full : (size : Size) → is_full size ≡ false → (size.lines < 60000) × (size.bytes < 1000000)
not-full size free = (grind (arith, nat_tests, (neither (nat_le 60000 size.lines) (nat_le 1000000 size.bytes) free).0), grind (arith, nat_tests, (neither (nat_le 60000 size.lines) (nat_le 1000000 size.bytes) free).1)) where
  neither : (a b : Bool) → (a || b) ≡ false → (a ≡ false) × (b ≡ false)
  neither true b e = absurd (cc)
  neither false b e = (refl, e)

-- there is room behind each action
pub room-after : (old : Maker) (due : Due) (action : Action) (new : Maker) → HasDoneDue old due action new → HasLinesLeft (behind due) old.size → (is_turn due ≡ true → is_full old.size ≡ false) → HasLinesLeft (behind (due_after action.player action.what)) new.size
room-after old due action new has room free = by (is_turn due) refl where
  lines : new.size.lines ≡ old.size.lines + 1
  lines = ap (λ (size : Size). size.lines) has.size

  by : (t : Bool) → is_turn due ≡ t → HasLinesLeft (behind (due_after action.player action.what)) new.size
  by true turn =
      let low = not-full old.size (free turn) in
      let short = has.short in
      (omega (arith, lines, low.0), omega (arith, short, low.1))
  by false turn =
      let more = further-behind due (moment_at old due) action.player action.what (moment_at new (due_after action.player action.what)) has.done turn in
      let short = has.short in
      (omega (arith, lines, room.0, more), omega (arith, short, room.1, more))

-- a game that goes on isn't over, and has room for a turn
pub going : (now : Moment) → is_unfinished now ≡ true → (is_over now.game ≡ false) × (is_turn now.due ≡ true → is_full now.size ≡ false)
going now on = split (is_over now.game) (is_turn now.due) (is_full now.size) on where
  split : (over turn full : Bool) → (not over && not (turn && full)) ≡ true → (over ≡ false) × (turn ≡ true → full ≡ false)
  split true turn full e = absurd (cc)
  split false true true e = absurd (cc)
  split false true false e = (refl, λ _. refl)
  split false false full e = (refl, λ turn. absurd (cc))

-- what has been played, with one more action
pub played-more : (start : Moment) (actions : List Action) (old : Maker) (due : Due) (action : Action) (new : Maker) → HasPlayed start actions old due → is_unfinished (moment_at old due) ≡ true → HasDoneDue old due action new
    → HasPlayed start (actions ++ action ∷ []) new (due_after action.player action.what)
played-more start actions old due action new played on has =
    let goes = going (moment_at old due) on in
    let next = due_after action.player action.what in
    record {
      done = all-do-more start actions (moment_at old due) action (moment_at new next) played.done (record { going = goes.0; room = goes.1; done = has.done; due = refl; size = has.size });
      room = room-after old due action new has played.room goes.1;
      over = pass-ends due (moment_at old due) action.player action.what (moment_at new next) has.done;
    }

-- and is measured by fewer lines
pub fewer-left : (old : Maker) (due : Due) (action : Action) (new : Maker) → HasLinesLeft 2 old.size → HasDoneDue old due action new → 60010 - new.size.lines < 60010 - old.size.lines
fewer-left old due action new room has =
    let lines : new.size.lines ≡ old.size.lines + 1 = ap (λ (size : Size). size.lines) has.size in
    omega (arith, lines, room.0)
