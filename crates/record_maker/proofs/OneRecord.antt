-- A number and a count of games give one record.
use Rattle.std.proofs.Common.{◌≡◌, ◌∙◌, ◌≤◌, ℕ, Bool, true, false, List, [], ◌∷◌, Option, is_some, unwrap_or, refl, sym, ap, subst, inl, inr, arith}
use Rattle.rand_pcg.specs.Lcg.{Lcg}
use Rattle.roll_table.specs.Rolls.{Dice}
use Rattle.play_text.specs.Notation.{IsPlayText, play_text}
use Rattle.move_rules.specs.declared.play.Entry.{Entry}
use Rattle.move_rules.specs.declared.written.Step.{Step}
use Rattle.game_record.specs.declared.player.Player.{Player}
use Rattle.game_record.specs.declared.progress.Progress.{Progress}
use Rattle.game_record.specs.declared.progress.Win.{Win}
use Rattle.game_record.specs.declared.record.Action.{Action}
use Rattle.game_record.specs.declared.record.Ending.{Ending}
use Rattle.game_record.specs.declared.record.Ending.TheVariants.{Ended, Stopped}
use Rattle.game_record.specs.declared.record.Game.{Game}
use Rattle.game_record.specs.declared.record.Record.{Record}
use Rattle.cube_actions.specs.declared.name.MoneyRule.TheVariants.{Jacoby}
use Rattle.game_record.specs.declared.record.RecordStakes.TheVariants.{Unlimited}
use Rattle.game_record.specs.declared.record.What.{What}
use Rattle.game_record.specs.declared.record.What.TheVariants.{Rolled, Doubled, Took, Passed, Beavered}
use Rattle.game_record.specs.Games.{game_after_play, is_over}
use Rattle.record_maker.specs.declared.due.Due.{Due}
use Rattle.record_maker.specs.declared.due.Due.TheVariants.{Start, Turn, Answer, Roll, Nothing}
use Rattle.record_maker.specs.Draws.{start_drawn, two_dice, word}
use Rattle.record_maker.specs.Making.{AllDo, AllMade, DoesAct, IsEnd, IsDrawnAnswer, IsDone, IsLast, IsMade, AddsGame, Moment, Plays, Sheet, TakesTurn, deed_line, begun, due_after, ending_text, first_sheet, undoubled_words}
use Rattle.record_maker.specs.Sizes.{is_full, with_line}
use Rattle.record_maker.proofs.OneList.{one-chosen}

-- no text is that of two plays
abbrev pub TellsPlays : Type 0
TellsPlays = (text : List ℕ) (steps others : List Step) → IsPlayText text steps → IsPlayText text others → steps ≡ others

never : (t : Bool) → t ≡ true → t ≡ false → ⊥
never true p q = absurd (cc)
never false p q = absurd (cc)

-- ---- actions

-- the same was done, with the same outcome
abbrev pub SameDeed : What → Moment → What → Moment → Type 0
SameDeed what to other end = (what ≡ other) × (to.game ≡ end.game) × (to.words ≡ end.words)

one-play : TellsPlays → (from : Progress) (player : Player) (roll : Dice) (words : Lcg) (what : What) (to : Moment) (other : What) (end : Moment) → Plays from player roll words what to → Plays from player roll words other end → SameDeed what to other end
one-play tells from player roll words (Rolled told written) to (Rolled said noted) end (same, entry, chosen, text, game, later) (same2, entry2, chosen2, text2, game2, later2) =
    let entries = one-chosen from.position roll (word words) entry entry2 chosen chosen2 in
    let there = subst (λ (e : Entry). IsPlayText (play_text from.position e.play.items) written.items) entries text in
    let steps = tells (play_text from.position entry2.play.items) written.items noted.items there text2 in
    let rolls = same ∙ sym same2 in
    ((λ i. Rolled (rolls i) (record { items = steps i })), game ∙ ap (λ (e : Entry). game_after_play (Unlimited Jacoby) player e.end from) entries ∙ sym game2, later ∙ sym later2)
one-play tells from player roll words (Rolled told written) to Doubled end one two = absurd two
one-play tells from player roll words (Rolled told written) to Took end one two = absurd two
one-play tells from player roll words (Rolled told written) to Passed end one two = absurd two
one-play tells from player roll words (Rolled told written) to Beavered end one two = absurd two
one-play tells from player roll words Doubled to other end one two = absurd one
one-play tells from player roll words Took to other end one two = absurd one
one-play tells from player roll words Passed to other end one two = absurd one
one-play tells from player roll words Beavered to other end one two = absurd one

one-turn : TellsPlays → (now : Moment) (player : Player) (what : What) (to : Moment) (other : What) (end : Moment) → TakesTurn now player what to → TakesTurn now player other end → SameDeed what to other end
one-turn tells now player Doubled to Doubled end one two = (refl, one.1 ∙ sym two.1, one.2 ∙ sym two.2)
one-turn tells now player Doubled to (Rolled roll written) end one two = absurd (two.0 one.0)
one-turn tells now player (Rolled roll written) to Doubled end one two = absurd (one.0 two.0)
one-turn tells now player (Rolled roll written) to (Rolled said noted) end one two =
    let words = undoubled_words now player in
    one-play tells now.game player (two_dice words).0 (two_dice words).1 (Rolled roll written) to (Rolled said noted) end one.1 two.1
one-turn tells now player Doubled to Took end one two = absurd two.1
one-turn tells now player Doubled to Passed end one two = absurd two.1
one-turn tells now player Doubled to Beavered end one two = absurd two.1
one-turn tells now player (Rolled roll written) to Took end one two = absurd two.1
one-turn tells now player (Rolled roll written) to Passed end one two = absurd two.1
one-turn tells now player (Rolled roll written) to Beavered end one two = absurd two.1
one-turn tells now player Took to other end one two = absurd one.1
one-turn tells now player Passed to other end one two = absurd one.1
one-turn tells now player Beavered to other end one two = absurd one.1

one-answer : (now : Moment) (player : Player) (what : What) (to : Moment) (other : What) (end : Moment) → IsDrawnAnswer now player what to → IsDrawnAnswer now player other end → SameDeed what to other end
one-answer now player Took to Took end one two = (refl, one.1 ∙ sym two.1, one.2 ∙ sym two.2)
one-answer now player Passed to Passed end one two = (refl, one.1 ∙ sym two.1, one.2 ∙ sym two.2)
one-answer now player Took to Passed end one two = absurd (omega (arith, one.0, two.0))
one-answer now player Passed to Took end one two = absurd (omega (arith, one.0, two.0))
one-answer now player Took to (Rolled roll written) end one two = absurd two
one-answer now player Took to Doubled end one two = absurd two
one-answer now player Took to Beavered end one two = absurd two
one-answer now player Passed to (Rolled roll written) end one two = absurd two
one-answer now player Passed to Doubled end one two = absurd two
one-answer now player Passed to Beavered end one two = absurd two
one-answer now player (Rolled roll written) to other end one two = absurd one
one-answer now player Doubled to other end one two = absurd one
one-answer now player Beavered to other end one two = absurd one

one-done : TellsPlays → (due : Due) (now : Moment) (player : Player) (what : What) (to : Moment) (another : Player) (other : What) (end : Moment) → IsDone due now player what to → IsDone due now another other end → (player ≡ another) × SameDeed what to other end
one-done tells Start now player what to another other end one two =
    let start = start_drawn now.words in
    let players = one.0 ∙ sym two.0 in
    (players, one-play tells now.game player start.roll start.after what to other end one.1 (subst (λ (p : Player). Plays now.game p start.roll start.after other end) (sym players) two.1))
one-done tells (Turn asked) now player what to another other end one two =
    let players = one.0 ∙ sym two.0 in
    (players, one-turn tells now player what to other end one.1 (subst (λ (p : Player). TakesTurn now p other end) (sym players) two.1))
one-done tells (Answer asked) now player what to another other end one two =
    let players = one.0 ∙ sym two.0 in
    (players, one-answer now player what to other end one.1 (subst (λ (p : Player). IsDrawnAnswer now p other end) (sym players) two.1))
one-done tells (Roll asked) now player what to another other end one two =
    let players = one.0 ∙ sym two.0 in
    let dice = two_dice now.words in
    (players, one-play tells now.game player dice.0 dice.1 what to other end one.1 (subst (λ (p : Player). Plays now.game p dice.0 dice.1 other end) (sym players) two.1))
one-done tells Nothing now player what to another other end one two = absurd one

one-does : TellsPlays → (now : Moment) (action : Action) (to : Moment) (other : Action) (end : Moment) → DoesAct now action to → DoesAct now other end → (action ≡ other) × (to ≡ end)
one-does tells now action to other end one two =
    let done = one-done tells now.due now action.player action.what to other.player other.what end one.done two.done in
    let actions : action ≡ other = λ i. record { player = done.0 i; what = done.1.0 i } in
    let sizes = one.size ∙ ap (λ (a : Action). with_line now.size (deed_line a)) actions ∙ sym two.size in
    let dues = one.due ∙ ap (λ (a : Action). due_after a.player a.what) actions ∙ sym two.due in
    (actions, λ i. record { size = sizes i; due = dues i; game = done.1.1 i; words = done.1.2 i })

-- ---- games

-- a game that has ended doesn't go on
ended-rests : (now : Moment) (ending : Ending) (action : Action) (next : Moment) → IsEnd now ending → DoesAct now action next → ⊥
ended-rests now (Ended winner points) action next won does = never (is_over now.game) (ap is_some won) does.going
ended-rests now Stopped action next (going, turn, full) does = never (is_full now.size) full (does.room turn)

one-ending : (now : Moment) (a b : Ending) → IsEnd now a → IsEnd now b → a ≡ b
one-ending now (Ended winner points) (Ended other count) one two =
    let none : Win = record { winner = winner; points = points } in
    let wins = ap (λ (won : Option Win). unwrap_or won none) (sym one ∙ two) in
    λ i. Ended (wins i).winner (wins i).points
one-ending now (Ended winner points) Stopped one two = absurd (never (is_over now.game) (ap is_some one) two.0)
one-ending now Stopped (Ended winner points) one two = absurd (never (is_over now.game) (ap is_some two) one.0)
one-ending now Stopped Stopped one two = refl

abbrev pub SameGame : List Action → Moment → Ending → List Action → Moment → Ending → Type 0
SameGame actions end ending others last other = (actions ≡ others) × (end ≡ last) × (ending ≡ other)

one-game : TellsPlays → (now : Moment) (actions : List Action) (end : Moment) (ending : Ending) (others : List Action) (last : Moment) (other : Ending) → AllDo now actions end → IsEnd end ending → AllDo now others last → IsEnd last other → SameGame actions end ending others last other
one-game tells now [] end ending [] last other all ends more ends_too =
    (refl, all ∙ sym more, one-ending now ending other (subst (λ (m : Moment). IsEnd m ending) all ends) (subst (λ (m : Moment). IsEnd m other) more ends_too))
one-game tells now [] end ending (b ∷ others) last other all ends (next, does, more) ends_too = absurd (ended-rests now ending b next (subst (λ (m : Moment). IsEnd m ending) all ends) does)
one-game tells now (a ∷ actions) end ending [] last other (next, does, all) ends more ends_too = absurd (ended-rests now other a next (subst (λ (m : Moment). IsEnd m other) more ends_too) does)
one-game tells now (a ∷ actions) end ending (b ∷ others) last other (next, does, all) ends (after, does_too, more) ends_too =
    let first = one-does tells now a next b after does does_too in
    let later = one-game tells next actions end ending others last other all ends (subst (λ (m : Moment). AllDo m others last) (sym first.1) more) ends_too in
    ((λ i. first.0 i ∷ later.0 i), later.1, later.2)

one-made : TellsPlays → (sheet : Sheet) (game : Game) (next : Sheet) (other : Game) (after : Sheet) → AddsGame sheet game next → AddsGame sheet other after → (game ≡ other) × (next ≡ after)
one-made tells sheet game next other after one two =
    let same = one-game tells (begun sheet) game.actions one.end game.ending other.actions two.end other.ending one.acts one.ends two.acts two.ends in
    let aways = one.away ∙ sym two.away in
    let sizes = one.size ∙ (λ i. with_line (same.1 i).size (ending_text (same.2 i))) ∙ sym two.size in
    let counts = one.games ∙ sym two.games in
    let words = one.words ∙ ap (λ (m : Moment). m.words) same.1 ∙ sym two.words in
    ((λ i. record { away = aways i; actions = same.0 i; ending = same.2 i }), λ i. record { size = sizes i; games = counts i; words = words i })

more-games : (sheet : Sheet) (games : List Game) (end : Sheet) → AllMade sheet games end → sheet.games ≤ end.games
more-games sheet [] end all = (let same = ap (λ (s : Sheet). s.games) all in omega (arith, same))
more-games sheet (game ∷ games) end (next, makes, all) = omega (arith, makes.games, more-games next games end all)

-- where the last game was made, no other is
none-more : (count : ℕ) (sheet : Sheet) (game : Game) (next : Sheet) (games : List Game) (end : Sheet) → IsLast count sheet → AddsGame sheet game next → AllMade next games end → IsLast count end → ⊥
none-more count sheet game next games end (inr (few, full)) makes all last = never (is_full sheet.size) full makes.room
none-more count sheet game next games end (inl is) makes all last = (let more = more-games next games end all in let most = few last in omega (arith, is, makes.games, more, most)) where
  few : IsLast count end → end.games ≤ count
  few (inl same) = omega (arith, same)
  few (inr (fewer, full)) = fewer

one-games : TellsPlays → (count : ℕ) (sheet : Sheet) (games : List Game) (end : Sheet) (others : List Game) (last : Sheet) → AllMade sheet games end → IsLast count end → AllMade sheet others last → IsLast count last → games ≡ others
one-games tells count sheet [] end [] last all is more is_too = refl
one-games tells count sheet [] end (h ∷ others) last all is (next, makes, more) is_too = absurd (none-more count sheet h next others last (subst (IsLast count) all is) makes more is_too)
one-games tells count sheet (g ∷ games) end [] last (next, makes, all) is more is_too = absurd (none-more count sheet g next games end (subst (IsLast count) more is_too) makes all is)
one-games tells count sheet (g ∷ games) end (h ∷ others) last (next, makes, all) is (after, makes_too, more) is_too =
    let first = one-made tells sheet g next h after makes makes_too in
    let later = one-games tells count next games end others last all is (subst (λ (s : Sheet). AllMade s others last) (sym first.1) more) is_too in
    λ i. first.0 i ∷ later i

pub one-record : TellsPlays → (number count : ℕ) (rec other : Record) → IsMade number count rec → IsMade number count other → rec ≡ other
one-record tells number count rec other one two =
    let games = one-games tells count (first_sheet number) rec.games one.end other.games two.end one.games one.last two.games two.last in
    let checkers = one.checkers ∙ sym two.checkers in
    let stakes = one.stakes ∙ sym two.stakes in
    λ i. record { checkers = checkers i; stakes = stakes i; games = games i }
