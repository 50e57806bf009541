-- The lines of a record that is made follow each other.
use Rattle.std.proofs.Common.{◌≡◌, ◌≢◌, ◌∙◌, ◌+◌, ◌≤◌, ℕ, Bool, true, false, List, [], ◌∷◌, ◌++◌, Option, Some, None, is_some, map, ◌⊎◌, inl, inr, refl, sym, ap, subst, arith}
use Rattle.std.specs.Option.{option_map}
use Rattle.std.specs.Prelude.{IfSome, is_none, ◌&&◌, if◌then◌else◌}
use Rattle.std.proofs.lemmas.List.{append-nil}
use Rattle.rand_pcg.specs.Lcg.{Lcg}
use Rattle.roll_table.specs.Rolls.{Dice, IsRoll}
use Rattle.move_rules.specs.Payoff.{points}
use Rattle.move_rules.specs.declared.payoff.Won.{Won}
use Rattle.move_rules.specs.declared.payoff.Won.TheVariants.{Single, Gammon, Backgammon}
use Rattle.game_record.specs.declared.cube.Cube.{Cube}
use Rattle.game_record.specs.declared.line.Line.{Line}
use Rattle.game_record.specs.declared.line.Line.TheVariants.{Title as TitleLine, Checkers as CheckersLine, Stakes as StakesLine, Game as GameLine, Acted, Closed}
use Rattle.game_record.specs.declared.player.Player.{Player}
use Rattle.game_record.specs.declared.player.Player.TheVariants.{A, B}
use Rattle.game_record.specs.declared.progress.Progress.{Progress}
use Rattle.game_record.specs.declared.progress.Win.{Win}
use Rattle.game_record.specs.declared.record.Action.{Action}
use Rattle.game_record.specs.declared.record.Ending.{Ending}
use Rattle.game_record.specs.declared.record.Ending.TheVariants.{Ended, Stopped}
use Rattle.game_record.specs.declared.record.Game.{Game}
use Rattle.game_record.specs.declared.record.Record.{Record}
use Rattle.game_record.specs.declared.record.RecordStakes.{RecordStakes}
use Rattle.cube_actions.specs.declared.name.MoneyRule.TheVariants.{Jacoby}
use Rattle.game_record.specs.declared.record.RecordStakes.TheVariants.{Unlimited}
use Rattle.game_record.specs.declared.record.What.{What}
use Rattle.game_record.specs.declared.record.What.TheVariants.{Rolled, Doubled, Took, Passed, Beavered}
use Rattle.game_record.specs.declared.stage.Next.{Next}
use Rattle.game_record.specs.declared.stage.Next.TheVariants.{FirstGame, FirstRoll, Turn as TurnNext, Answer as AnswerNext, Roll as RollNext, End, NextGame, Close, Nothing as NothingNext}
use Rattle.game_record.specs.declared.stage.Stage.{Stage}
use Rattle.game_record.specs.Games.{counted, is_over, won_worth}
use Rattle.game_record.specs.Lines.{FitsNext, Follow, IsWrittenPlay, UpTo, ending_line, game_lines, games_lines, record_lines}
use Rattle.game_record.specs.Turns.{allowed, first_stage, kind_of, kind_of_deed, stage_after}
use Rattle.record_maker.specs.declared.due.Due.{Due}
use Rattle.record_maker.specs.declared.due.Due.TheVariants.{Start, Turn, Answer, Roll, Nothing}
use Rattle.record_maker.specs.Draws.{start_drawn, two_dice}
use Rattle.record_maker.specs.Making.{AllDo, AllMade, IsEnd, IsDone, IsMade, AddsGame, Moment, Plays, Sheet, begun, due_after, first_sheet, is_turn, undoubled_words}
use Rattle.record_maker.specs.Sizes.{is_full}
use Rattle.record_maker.proofs.Replays.{dice-roll, none-left, start-opens}

-- what may come in a record where this is due
abbrev pub next_of : Due → Next
next_of Start = FirstRoll
next_of (Turn player) = TurnNext player
next_of (Answer player) = AnswerNext player
next_of (Roll player) = RollNext player
next_of Nothing = End

abbrev pub stage_at : Next → ℕ → Stage
stage_at next games = record { next = next; in_match = false; games = games }

-- lines lead from one stage to another, and so do more
pub follow-more : (stage : Stage) (lines more : List Line) (between end : Stage) → Follow stage lines between → Follow between more end → Follow stage (lines ++ more) end
follow-more stage [] more between end same rest = subst (λ (from : Stage). Follow from more end) same rest
follow-more stage (line ∷ lines) more between end (next, comes, fits, later) rest = (next, comes, fits, follow-more (stage_after stage line next) lines more between end later rest)

-- ---- what players do

-- what a player did may come where it was due
abbrev pub Comes : Due → Player → What → Type 0
Comes due player what = (allowed false (next_of due) (kind_of_deed player what) ≡ Some (next_of (due_after player what))) × FitsNext (next_of due) what × IsWrittenPlay what

plays-written : (from : Progress) (player : Player) (roll : Dice) (words : Lcg) (what : What) (to : Moment) → IsRoll roll → Plays from player roll words what to → IsWrittenPlay what
plays-written from player roll words (Rolled told written) to right (same, entry, chosen, text, game, later) = (text.hits, text.few, subst IsRoll (sym same) right)
plays-written from player roll words Doubled to right plays = absurd plays
plays-written from player roll words Took to right plays = absurd plays
plays-written from player roll words Passed to right plays = absurd plays
plays-written from player roll words Beavered to right plays = absurd plays

plays-unequal : (from : Progress) (player : Player) (roll : Dice) (words : Lcg) (what : What) (to : Moment) → roll.high ≢ roll.low → Plays from player roll words what to → FitsNext FirstRoll what
plays-unequal from player roll words (Rolled told written) to apart (same, entry, chosen, text, game, later) = subst (λ (dice : Dice). dice.high ≢ dice.low) (sym same) apart
plays-unequal from player roll words Doubled to apart plays = absurd plays
plays-unequal from player roll words Took to apart plays = absurd plays
plays-unequal from player roll words Passed to apart plays = absurd plays
plays-unequal from player roll words Beavered to apart plays = absurd plays

plays-first : (player : Player) (from : Progress) (roll : Dice) (words : Lcg) (what : What) (to : Moment) → Plays from player roll words what to → allowed false FirstRoll (kind_of_deed player what) ≡ Some (next_of (due_after player what))
plays-first player from roll words (Rolled told written) to plays = refl
plays-first player from roll words Doubled to plays = absurd plays
plays-first player from roll words Took to plays = absurd plays
plays-first player from roll words Passed to plays = absurd plays
plays-first player from roll words Beavered to plays = absurd plays

comes-on : (player : Player) (what : What) (to : Moment) (from : Progress) (roll : Dice) (words : Lcg) → Plays from player roll words what to → allowed false (RollNext player) (kind_of_deed player what) ≡ Some (next_of (due_after player what))
comes-on A (Rolled told written) to from roll words plays = refl
comes-on B (Rolled told written) to from roll words plays = refl
comes-on player Doubled to from roll words plays = absurd plays
comes-on player Took to from roll words plays = absurd plays
comes-on player Passed to from roll words plays = absurd plays
comes-on player Beavered to from roll words plays = absurd plays

turn-comes : (player : Player) (from : Moment) (what : What) (to : Moment) → IsDone (Turn player) from player what to → Comes (Turn player) player what
turn-comes A from Doubled to done = (refl, tt, tt)
turn-comes B from Doubled to done = (refl, tt, tt)
turn-comes A from (Rolled roll written) to done = (refl, tt, plays-written from.game A (two_dice (undoubled_words from A)).0 (two_dice (undoubled_words from A)).1 (Rolled roll written) to (dice-roll (undoubled_words from A)) done.1.1)
turn-comes B from (Rolled roll written) to done = (refl, tt, plays-written from.game B (two_dice (undoubled_words from B)).0 (two_dice (undoubled_words from B)).1 (Rolled roll written) to (dice-roll (undoubled_words from B)) done.1.1)
turn-comes player from Took to done = absurd done.1.1
turn-comes player from Passed to done = absurd done.1.1
turn-comes player from Beavered to done = absurd done.1.1

answer-comes : (player : Player) (from : Moment) (what : What) (to : Moment) → IsDone (Answer player) from player what to → Comes (Answer player) player what
answer-comes A from Took to done = (refl, tt, tt)
answer-comes B from Took to done = (refl, tt, tt)
answer-comes A from Passed to done = (refl, tt, tt)
answer-comes B from Passed to done = (refl, tt, tt)
answer-comes player from (Rolled roll written) to done = absurd done.1
answer-comes player from Doubled to done = absurd done.1
answer-comes player from Beavered to done = absurd done.1

roll-fits : (player : Player) (from : Progress) (roll : Dice) (words : Lcg) (what : What) (to : Moment) → Plays from player roll words what to → FitsNext (RollNext player) what
roll-fits player from roll words (Rolled told written) to plays = tt
roll-fits player from roll words Doubled to plays = absurd plays
roll-fits player from roll words Took to plays = absurd plays
roll-fits player from roll words Passed to plays = absurd plays
roll-fits player from roll words Beavered to plays = absurd plays

done-comes : (due : Due) (from : Moment) (player : Player) (what : What) (to : Moment) → IsDone due from player what to → Comes due player what
done-comes Start from player what to done =
    let start = start_drawn from.words in
    let opens = start-opens 32 from.words in
    (plays-first player from.game start.roll start.after what to done.1, plays-unequal from.game player start.roll start.after what to opens.1 done.1, plays-written from.game player start.roll start.after what to opens.0 done.1)
done-comes (Turn asked) from player what to done =
    subst (λ (due : Due). Comes due player what) (ap Turn done.0) (turn-comes player from what to (subst (λ (one : Player). IsDone (Turn one) from player what to) (sym done.0) done))
done-comes (Answer asked) from player what to done =
    subst (λ (due : Due). Comes due player what) (ap Answer done.0) (answer-comes player from what to (subst (λ (one : Player). IsDone (Answer one) from player what to) (sym done.0) done))
done-comes (Roll asked) from player what to done =
    let dice = two_dice from.words in
    subst (λ (due : Due). Comes due player what) (ap Roll done.0)
    (comes-on player what to from.game dice.0 dice.1 done.1, roll-fits player from.game dice.0 dice.1 what to done.1, plays-written from.game player dice.0 dice.1 what to (dice-roll from.words) done.1)
done-comes Nothing from player what to done = absurd done

-- ---- how a game may end

-- a game is over only before a turn or behind a pass
abbrev pub MayEnd : Due → Type 0
MayEnd (Turn player) = Unit {0}
MayEnd Nothing = Unit {0}
MayEnd _ = ⊥

-- and is won for one to three points
pub record CanEnd (now : Moment) : Type 0 where
  pub over : is_over now.game ≡ true → MayEnd now.due
  pub won : IfSome now.game.won (λ win. UpTo 3 win.points)

none-over : (game : Progress) (due : Due) → is_over game ≡ false → is_over game ≡ true → MayEnd due
none-over game due going over = absurd (both (is_over game) going over) where
  both : (t : Bool) → t ≡ false → t ≡ true → ⊥
  both true p q = absurd (cc)
  both false p q = absurd (cc)

counted-few : (cube : Cube) (won : Won) → UpTo 3 (counted (Unlimited Jacoby) cube won)
counted-few cube won = by (is_none cube.owner) won where
  by : (centred : Bool) (won : Won) → UpTo 3 (if true && centred then 1 else won_worth won)
  by true won = (omega arith, omega arith)
  by false Single = (omega arith, omega arith)
  by false Gammon = (omega arith, omega arith)
  by false Backgammon = (omega arith, omega arith)

play-won : (player : Player) (cube : Cube) (won : Option Won) → IfSome (option_map (λ w. record { winner = player; points = counted (Unlimited Jacoby) cube w }) won) (λ (win : Win). UpTo 3 win.points)
play-won player cube None = tt
play-won player cube (Some won) = counted-few cube won

plays-end : (from : Progress) (player : Player) (roll : Dice) (words : Lcg) (what : What) (to : Moment) → Plays from player roll words what to → IfSome to.game.won (λ win. UpTo 3 win.points)
plays-end from player roll words (Rolled told written) to (same, entry, chosen, text, game, later) =
    subst (λ (p : Progress). IfSome p.won (λ win. UpTo 3 win.points)) (sym game) (play-won player from.cube (points entry.end))
plays-end from player roll words Doubled to plays = absurd plays
plays-end from player roll words Took to plays = absurd plays
plays-end from player roll words Passed to plays = absurd plays
plays-end from player roll words Beavered to plays = absurd plays

plays-turn : (from : Progress) (player : Player) (roll : Dice) (words : Lcg) (what : What) (to : Moment) → Plays from player roll words what to → MayEnd (due_after player what)
plays-turn from player roll words (Rolled told written) to plays = tt
plays-turn from player roll words Doubled to plays = absurd plays
plays-turn from player roll words Took to plays = absurd plays
plays-turn from player roll words Passed to plays = absurd plays
plays-turn from player roll words Beavered to plays = absurd plays

-- what is known of a game's end behind an action
abbrev pub EndsRight : Due → Progress → Type 0
EndsRight due game = (is_over game ≡ true → MayEnd due) × IfSome game.won (λ win. UpTo 3 win.points)

by-play : (from : Progress) (player : Player) (roll : Dice) (words : Lcg) (what : What) (to : Moment) → Plays from player roll words what to → EndsRight (due_after player what) to.game
by-play from player roll words what to plays = (λ _. plays-turn from player roll words what to plays, plays-end from player roll words what to plays)

done-ends : (due : Due) (from : Moment) (player : Player) (what : What) (to : Moment) → is_over from.game ≡ false → CanEnd from → IsDone due from player what to → EndsRight (due_after player what) to.game
done-ends Start from player what to going can done = by-play from.game player (start_drawn from.words).roll (start_drawn from.words).after what to done.1
done-ends (Turn asked) from player Doubled to going can done = subst (EndsRight (due_after player Doubled)) (sym done.1.1) (none-over from.game (due_after player Doubled) going, can.won)
done-ends (Turn asked) from player (Rolled roll written) to going can done = by-play from.game player (two_dice (undoubled_words from player)).0 (two_dice (undoubled_words from player)).1 (Rolled roll written) to done.1.1
done-ends (Turn asked) from player Took to going can done = absurd done.1.1
done-ends (Turn asked) from player Passed to going can done = absurd done.1.1
done-ends (Turn asked) from player Beavered to going can done = absurd done.1.1
done-ends (Answer asked) from player Took to going can done = subst (EndsRight (due_after player Took)) (sym done.1.1) (none-over from.game (due_after player Took) going, can.won)
done-ends (Answer asked) from player Passed to going can done = subst (EndsRight (due_after player Passed)) (sym done.1.1) (λ _. tt, (omega arith, omega arith))
done-ends (Answer asked) from player (Rolled roll written) to going can done = absurd done.1
done-ends (Answer asked) from player Doubled to going can done = absurd done.1
done-ends (Answer asked) from player Beavered to going can done = absurd done.1
done-ends (Roll asked) from player what to going can done = by-play from.game player (two_dice from.words).0 (two_dice from.words).1 what to done.1
done-ends Nothing from player what to going can done = absurd done

-- ---- games

-- the actions of a game follow each other
pub all-follow : (games : ℕ) (from : Moment) (actions : List Action) (to : Moment) → CanEnd from → AllDo from actions to → Follow (stage_at (next_of from.due) games) (map Acted actions) (stage_at (next_of to.due) games) × CanEnd to
all-follow games from [] to can all = (ap (λ (m : Moment). stage_at (next_of m.due) games) all, subst CanEnd (sym all) can)
all-follow games from (action ∷ actions) to can (next, does, all) =
    let comes = done-comes from.due from action.player action.what next does.done in
    let right = done-ends from.due from action.player action.what next does.going can does.done in
    let same : due_after action.player action.what ≡ next.due = sym does.due in
    let later = all-follow games next actions to (record { over = subst (λ (due : Due). is_over next.game ≡ true → MayEnd due) same right.0; won = right.1 }) all in
    let on = subst (λ (due : Due). Follow (stage_at (next_of due) games) (map Acted actions) (stage_at (next_of to.due) games)) (sym same) later.0 in
    ((next_of (due_after action.player action.what), comes.0, (comes.1, comes.2), on), later.1)

-- what may come behind a game
abbrev pub next_after : Ending → Next
next_after (Ended winner points) = NextGame
next_after Stopped = Close

end-follows : (games : ℕ) (now : Moment) (ending : Ending) → CanEnd now → IsEnd now ending → Follow (stage_at (next_of now.due) games) (ending_line ending ∷ []) (stage_at (next_after ending) games)
end-follows games now (Ended winner points) can won = by now.due (can.over (ap is_some won)) where
  few : UpTo 3 points
  few = subst (λ (w : Option Win). IfSome w (λ win. UpTo 3 win.points)) won can.won

  by : (due : Due) → MayEnd due → Follow (stage_at (next_of due) games) (ending_line (Ended winner points) ∷ []) (stage_at NextGame games)
  by Start may = absurd may
  by (Turn player) may = (NextGame, refl, few, refl)
  by (Answer player) may = absurd may
  by (Roll player) may = absurd may
  by Nothing may = (NextGame, refl, few, refl)
end-follows games now Stopped can (going, turn, full) = by now.due turn where
  by : (due : Due) → is_turn due ≡ true → Follow (stage_at (next_of due) games) (ending_line Stopped ∷ []) (stage_at Close games)
  by Start turn = absurd (cc)
  by (Turn player) turn = (Close, refl, tt, refl)
  by (Answer player) turn = absurd (cc)
  by (Roll player) turn = absurd (cc)
  by Nothing turn = absurd (cc)

-- a game's line may come
abbrev pub MayBegin : Next → Type 0
MayBegin FirstGame = Unit {0}
MayBegin NextGame = Unit {0}
MayBegin _ = ⊥

begin-comes : (next : Next) → MayBegin next → allowed false next (kind_of (GameLine 0 None)) ≡ Some FirstRoll
begin-comes FirstGame may = refl
begin-comes NextGame may = refl
begin-comes _ may = absurd may

game-follows : (next : Next) (sheet : Sheet) (game : Game) (later : Sheet) → MayBegin next → AddsGame sheet game later → Follow (stage_at next sheet.games) (game_lines (sheet.games + 1) game) (stage_at (next_after game.ending) (sheet.games + 1))
game-follows next sheet game later may makes =
    let number = sheet.games + 1 in
    let opens : CanEnd (begun sheet) = record { over = λ over. absurd (cc); won = tt } in
    let acts = all-follow number (begun sheet) game.actions makes.end opens makes.acts in
    let rest = follow-more (stage_at FirstRoll number) (map Acted game.actions) (ending_line game.ending ∷ []) (stage_at (next_of makes.end.due) number) (stage_at (next_after game.ending) number) acts.0 (end-follows number makes.end game.ending acts.1 makes.ends) in
    subst (λ (away : Option (ℕ × ℕ)). Follow (stage_at next sheet.games) (GameLine number away ∷ map Acted game.actions ++ ending_line game.ending ∷ []) (stage_at (next_after game.ending) number)) (sym makes.away)
    (FirstRoll, begin-comes next may, (refl, tt), rest)

-- the record may be closed
abbrev pub MayClose : Next → Type 0
MayClose NextGame = Unit {0}
MayClose Close = Unit {0}
MayClose _ = ⊥

-- games that follow each other
abbrev pub FollowOn : Next → ℕ → List Line → Type 0
FollowOn next games lines = (last : Next) × (count : ℕ) × MayClose last × Follow (stage_at next games) lines (stage_at last count)

one-follows : (next : Next) (sheet : Sheet) (game : Game) (later : Sheet) (games : List Game) (end : Sheet) → MayBegin next → AddsGame sheet game later → AllMade later games end
    → ((winner : Player) (points : ℕ) → game.ending ≡ Ended winner points → FollowOn NextGame later.games (games_lines (later.games + 1) games))
    → FollowOn next sheet.games (games_lines (sheet.games + 1) (game ∷ games))
one-follows next sheet game later games end may makes all on = by game.ending refl games all on where
  here : Follow (stage_at next sheet.games) (game_lines (sheet.games + 1) game) (stage_at (next_after game.ending) (sheet.games + 1))
  here = game-follows next sheet game later may makes

  by : (ending : Ending) → game.ending ≡ ending → (more : List Game) → AllMade later more end
      → ((winner : Player) (points : ℕ) → ending ≡ Ended winner points → FollowOn NextGame later.games (games_lines (later.games + 1) more))
      → FollowOn next sheet.games (games_lines (sheet.games + 1) (game ∷ more))
  by (Ended winner points) is more rest on =
      let behind = subst (λ (n : ℕ). FollowOn NextGame n (games_lines (n + 1) more)) makes.games (on winner points refl) in
      let first = subst (λ (ending : Ending). Follow (stage_at next sheet.games) (game_lines (sheet.games + 1) game) (stage_at (next_after ending) (sheet.games + 1))) is here in
      (behind.0, behind.1, behind.2, follow-more (stage_at next sheet.games) (game_lines (sheet.games + 1) game) (games_lines (sheet.games + 1 + 1) more) (stage_at NextGame (sheet.games + 1)) (stage_at behind.0 behind.1) first behind.3)
  by Stopped is [] rest on =
      let first = subst (λ (ending : Ending). Follow (stage_at next sheet.games) (game_lines (sheet.games + 1) game) (stage_at (next_after ending) (sheet.games + 1))) is here in
      (Close, sheet.games + 1, tt, subst (λ (lines : List Line). Follow (stage_at next sheet.games) lines (stage_at Close (sheet.games + 1))) (sym (append-nil (game_lines (sheet.games + 1) game))) first)
  by Stopped is (another ∷ more) rest on = absurd (none-left makes.end game.ending later rest.0 another is makes.ends makes.size rest.1)

more-follow : (sheet : Sheet) (games : List Game) (end : Sheet) → AllMade sheet games end → FollowOn NextGame sheet.games (games_lines (sheet.games + 1) games)
more-follow sheet [] end all = (NextGame, sheet.games, tt, refl)
more-follow sheet (game ∷ games) end (later, makes, all) = one-follows NextGame sheet game later games end tt makes all (λ winner points is. more-follow later games end all)

-- the lines of a record follow each other to its close
abbrev pub Closes : ℕ → RecordStakes → List Game → Type 0
Closes checkers stakes games =
    (end : Stage) × Follow first_stage (TitleLine ∷ CheckersLine checkers ∷ StakesLine stakes ∷ games_lines 1 games ++ Closed ∷ []) end × (end.next ≡ NothingNext)

-- the lines of a record that is made, where it has a game
pub made-follows : (number count : ℕ) (rec : Record) → 1 ≤ count → IsMade number count rec → (end : Stage) × Follow first_stage (record_lines rec) end × (end.next ≡ NothingNext)
made-follows number count rec some made =
    subst (λ (stakes : RecordStakes). Closes rec.checkers stakes rec.games) (sym made.stakes)
    (subst (λ (checkers : ℕ). Closes checkers (Unlimited Jacoby) rec.games) (sym made.checkers) (by rec.games made.games)) where
      close : (last : Next) → MayClose last → allowed false last (kind_of Closed) ≡ Some NothingNext
      close NextGame may = refl
      close Close may = refl
      close _ may = absurd may

      front : (games : List Line) (last : Next) (n : ℕ) → MayClose last → Follow (stage_at FirstGame 0) games (stage_at last n) → Follow first_stage (TitleLine ∷ CheckersLine 1 ∷ StakesLine (Unlimited Jacoby) ∷ games ++ Closed ∷ []) (stage_at NothingNext n)
      front games last n may follow =
          let closed : Follow (stage_at last n) (Closed ∷ []) (stage_at NothingNext n) = (NothingNext, close last may, tt, refl) in
          (_, refl, tt, (_, refl, (omega arith, omega arith), (_, refl, tt, follow-more (stage_at FirstGame 0) games (Closed ∷ []) (stage_at last n) (stage_at NothingNext n) follow closed)))

      none : (end : Sheet) → end ≡ first_sheet number → (end.games ≡ count) ⊎ ((end.games ≤ count) × (is_full end.size ≡ true)) → ⊥
      none end same (inl is) = (let zero_games = ap (λ (s : Sheet). s.games) same in omega (arith, some, is, zero_games))
      none end same (inr (few, full)) = (let full_first = sym (ap (λ (s : Sheet). is_full s.size) same) ∙ full in absurd (cc))

      by : (games : List Game) → AllMade (first_sheet number) games made.end → Closes 1 (Unlimited Jacoby) games
      by [] all = absurd (none made.end all made.last)
      by (game ∷ games) (later, makes, all) =
          let on = one-follows FirstGame (first_sheet number) game later games made.end tt makes all (λ winner points is. more-follow later games made.end all) in
          (stage_at NothingNext on.1, front (games_lines 1 (game ∷ games)) on.0 on.1 on.2 on.3, refl)
