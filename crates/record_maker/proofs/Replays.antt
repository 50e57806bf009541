-- A record that is made is by the rules of the game.
use Rattle.std.proofs.Common.{◌≡◌, ◌≢◌, ◌∙◌, ◌+◌, ◌≤◌, ℕ, zero, suc, Bool, true, false, cond, eqb, ◌||◌, List, [], ◌∷◌, ◌++◌, Some, length, map, All, slice_get, refl, sym, ap, subst, arith, nat_le}
use Rattle.std.proofs.lemmas.Bool.Decides.{nat_tests}
use Rattle.std.proofs.lemmas.List.{append-nil}
use Rattle.std.proofs.lemmas.List.Elements.{All-get_or}
use Rattle.std.proofs.lemmas.Option.{get_or_from_slice_get, slice_get_within}
use Rattle.rand_pcg.specs.Lcg.{Lcg}
use Rattle.position_rank.specs.Placement.{Placement}
use Rattle.roll_table.specs.Rolls.{Dice, IsRoll}
use Rattle.play_text.specs.Notation.{IsPlayText, play_text}
use Rattle.move_rules.specs.Order.{IsFirst}
use Rattle.move_rules.specs.Sequences.{IsLegal}
use Rattle.move_rules.specs.Written.{Leaves}
use Rattle.move_rules.specs.declared.play.Entry.{Entry}
use Rattle.move_rules.specs.declared.play.Move.{Move}
use Rattle.move_rules.specs.declared.written.Step.{Step}
use Rattle.game_record.specs.declared.decision.Decision.{Decision}
use Rattle.game_record.specs.declared.line.Line.{Line}
use Rattle.game_record.specs.declared.line.Line.TheVariants.{Game as GameLine, Acted}
use Rattle.game_record.specs.declared.moment.Moment.{Moment as Replayed}
use Rattle.game_record.specs.declared.player.Player.{Player}
use Rattle.game_record.specs.declared.progress.Progress.{Progress}
use Rattle.game_record.specs.declared.record.Action.{Action}
use Rattle.game_record.specs.declared.record.Ending.{Ending}
use Rattle.game_record.specs.declared.record.Ending.TheVariants.{Ended, Stopped}
use Rattle.game_record.specs.declared.record.Game.{Game}
use Rattle.game_record.specs.declared.record.Record.{Record}
use Rattle.cube_actions.specs.declared.name.MoneyRule.TheVariants.{Jacoby}
use Rattle.game_record.specs.declared.record.RecordStakes.TheVariants.{Unlimited}
use Rattle.game_record.specs.declared.record.What.{What}
use Rattle.game_record.specs.declared.record.What.TheVariants.{Rolled, Doubled, Took, Passed, Beavered}
use Rattle.game_record.specs.Games.{is_over, opening}
use Rattle.game_record.specs.Lines.{ending_line, game_lines, games_lines}
use Rattle.game_record.specs.Replay.{Acts, AllTell, IsReplay, Reports, first_moment}
use Rattle.game_record.specs.Standings.{first_standing}
use Rattle.record_maker.specs.declared.due.Due.{Due}
use Rattle.record_maker.specs.declared.due.Due.TheVariants.{Start, Turn, Answer, Roll, Nothing}
use Rattle.record_maker.specs.declared.size.Size.{Size}
use Rattle.record_maker.specs.Draws.{ArePlays, Start as Opening, die, rest, roll_of, start_in, start_drawn, started_by, starter, two_dice}
use Rattle.record_maker.specs.Making.{AllDo, AllMade, IsEnd, IsDone, IsMade, AddsGame, Moment, Plays, Sheet, begun, ending_text, first_sheet, undoubled_words}
use Rattle.record_maker.specs.Sizes.{is_full, with_line}

-- what is printed for a legal play is taken as one with the same end
abbrev pub TakesPlays : Type 0
TakesPlays =
    (p : Placement) (roll : Dice) (moves : List Move) (q : Placement) (steps : List Step) → IsRoll roll → IsLegal p roll moves q → IsPlayText (play_text p moves) steps → Leaves p roll steps q

-- ---- rolls

pub is-roll : (a b : ℕ) → 1 ≤ a → a ≤ 6 → 1 ≤ b → b ≤ 6 → IsRoll (roll_of a b)
is-roll a b fa ta fb tb = record { from = omega (arith, fa, fb); in_order = omega arith; to = omega (arith, ta, tb) }

die-from : (words : Lcg) → 1 ≤ die words
die-from words = omega arith

die-to : (words : Lcg) → die words ≤ 6
die-to words = omega arith

pub dice-roll : (words : Lcg) → IsRoll (two_dice words).0
dice-roll words = is-roll (die words) (die (rest words)) (die-from words) (die-to words) (die-from (rest words)) (die-to (rest words))

-- a start's roll is one of unequal dice
abbrev pub IsOpening : Opening → Type 0
IsOpening start = IsRoll start.roll × (start.roll.high ≢ start.roll.low)

started-opens : (a b : ℕ) (after : Lcg) (again : Lcg → Opening) → IsRoll (roll_of a b) → ((words : Lcg) → IsOpening (again words)) → IsOpening (started_by a b after again)
started-opens a b after again right later = by (eqb a b) refl where
  by : (same : Bool) → eqb a b ≡ same → IsOpening (cond same (again after) (record { player = starter a b; roll = roll_of a b; after = after }))
  by true e = later after
  by false e = (right, λ same. absurd (let apart : a ≢ b = λ is. grind (arith, nat_tests) in apart (omega (arith, same))))

pub start-opens : (draws : ℕ) (words : Lcg) → IsOpening (start_in draws words)
unfolding start_in
start-opens zero words = (is-roll 2 1 (omega arith) (omega arith) (omega arith) (omega arith), λ same. absurd (omega (arith, same)))
start-opens (suc draws) words = started-opens (die words) (die (rest words)) (rest (rest words)) (start_in draws) (dice-roll words) (start-opens draws)

-- ---- what players do

-- a moment of the replay of a record that is made
abbrev pub moment_at : ℕ → ℕ → Progress → Replayed
moment_at game line progress = record { checkers = 1; stakes = Unlimited Jacoby; standing = first_standing (Unlimited Jacoby); game = game; line = line; progress = progress }

-- a player may do this there, and it leads there
abbrev pub ActsTo : ℕ → ℕ → Progress → Player → What → Progress → Type 0
ActsTo game line from player what to = (told : List Decision) × Acts (moment_at game line from) player what told (moment_at game (line + 1) to)

all-got : {X : Type 0} (P : X → Type 0) (xs : List X) (i : ℕ) (x : X) → All P xs → slice_get xs i ≡ Some x → P x
all-got P xs i x all is = subst P (get_or_from_slice_get xs i x x is) (All-get_or P xs i x (slice_get_within xs i x is) all)

legal-entry : (p : Placement) (roll : Dice) (entries : List Entry) (i : ℕ) (entry : Entry) → ArePlays p roll entries → slice_get entries i ≡ Some entry → IsLegal p roll entry.play.items entry.end
legal-entry p roll entries i entry plays is = (all-got (λ entry. IsFirst p roll entry.play.items entry.end) entries i entry plays.first is).legal

plays-tell : TakesPlays → (game line : ℕ) (from : Progress) (player : Player) (roll : Dice) (words : Lcg) (what : What) (to : Moment) → IsRoll roll → is_over from ≡ false → Plays from player roll words what to → ActsTo game line from player what to.game
plays-tell takes game line from player roll words (Rolled told written) to right going (same, entry, chosen, text, after, later) =
    let legal = legal-entry from.position roll chosen.0 _ entry chosen.1 chosen.2 in
    let taken = takes from.position roll entry.play.items entry.end written.items right legal text in
    let leaves = subst (λ (dice : Dice). Leaves from.position dice written.items entry.end) (sym same) taken in
    (_, (going, entry.end, leaves, refl, ap (moment_at game (line + 1)) after))
plays-tell takes game line from player roll words Doubled to right going plays = absurd plays
plays-tell takes game line from player roll words Took to right going plays = absurd plays
plays-tell takes game line from player roll words Passed to right going plays = absurd plays
plays-tell takes game line from player roll words Beavered to right going plays = absurd plays

done-tells : TakesPlays → (game line : ℕ) (due : Due) (from : Moment) (player : Player) (what : What) (to : Moment) → is_over from.game ≡ false → IsDone due from player what to → ActsTo game line from.game player what to.game
done-tells takes game line Start from player what to going done =
    plays-tell takes game line from.game player (start_drawn from.words).roll (start_drawn from.words).after what to (start-opens 32 from.words).0 going done.1
done-tells takes game line (Turn asked) from player Doubled to going done = (_, (going, done.1.0.0, refl, ap (moment_at game (line + 1)) done.1.1))
done-tells takes game line (Turn asked) from player (Rolled roll written) to going done =
    let words = undoubled_words from player in
    plays-tell takes game line from.game player (two_dice words).0 (two_dice words).1 (Rolled roll written) to (dice-roll words) going done.1.1
done-tells takes game line (Turn asked) from player Took to going done = absurd done.1.1
done-tells takes game line (Turn asked) from player Passed to going done = absurd done.1.1
done-tells takes game line (Turn asked) from player Beavered to going done = absurd done.1.1
done-tells takes game line (Answer asked) from player (Rolled roll written) to going done = absurd done.1
done-tells takes game line (Answer asked) from player Doubled to going done = absurd done.1
done-tells takes game line (Answer asked) from player Took to going done = (_, (refl, ap (moment_at game (line + 1)) done.1.1))
done-tells takes game line (Answer asked) from player Passed to going done = (_, (refl, ap (moment_at game (line + 1)) done.1.1))
done-tells takes game line (Answer asked) from player Beavered to going done = absurd done.1
done-tells takes game line (Roll asked) from player what to going done = plays-tell takes game line from.game player (two_dice from.words).0 (two_dice from.words).1 what to (dice-roll from.words) going done.1
done-tells takes game line Nothing from player what to going done = absurd done

-- ---- lines

-- these lines are by the rules from there to there
abbrev pub TellsTo : Replayed → List Line → Replayed → Type 0
TellsTo now lines end = (told : List Decision) × AllTell now lines told end

pub tells-more : (now : Replayed) (lines more : List Line) (between end : Replayed) → TellsTo now lines between → TellsTo between more end → TellsTo now (lines ++ more) end
tells-more now [] more between end (told, (none, same)) rest = subst (λ (from : Replayed). TellsTo from more end) same rest
tells-more now (line ∷ lines) more between end (told, (here, next, one, later, all, sum)) rest =
    let on = tells-more next lines more between end (later, all) rest in
    (here ++ on.0, (here, next, one, on.0, on.1, refl))

pub tells-line : (now : Replayed) (line : Line) (told : List Decision) (next : Replayed) → Reports now line told next → TellsTo now (line ∷ []) next
tells-line now line told next one = (told ++ [], (told, next, one, [], (refl, refl), refl))

pub all-tell : TakesPlays → (game line : ℕ) (from : Moment) (actions : List Action) (to : Moment) → AllDo from actions to → (last : ℕ) × TellsTo (moment_at game line from.game) (map Acted actions) (moment_at game last to.game)
all-tell takes game line from [] to all = (line, ([], (refl, ap (λ (m : Moment). moment_at game line m.game) all)))
all-tell takes game line from (action ∷ actions) to (next, does, all) =
    let here = done-tells takes game line from.due from action.player action.what next does.going does.done in
    let later = all-tell takes game (line + 1) next actions to all in
    (later.0, (here.0 ++ later.1.0, (here.0, moment_at game (line + 1) next.game, here.1, later.1.0, later.1.1, refl)))

-- ---- games

-- text that is too much stays so
pub full-stays : (size : Size) (text : List ℕ) → is_full size ≡ true → is_full (with_line size text) ≡ true
full-stays size text full = by (nat_le 60000 size.lines) (nat_le 1000000 size.bytes) refl refl full where
  either : (a b : Bool) → b ≡ true → (a || b) ≡ true
  either true b e = refl
  either false b e = e

  by : (a b : Bool) → nat_le 60000 size.lines ≡ a → nat_le 1000000 size.bytes ≡ b → (a || b) ≡ true → is_full (with_line size text) ≡ true
  by true b e f full = (let lines : nat_le 60000 (size.lines + 1) ≡ true = grind (arith, nat_tests) in ap (λ t. t || nat_le 1000000 (size.bytes + length text + 1)) lines)
  by false true e f full = (let bytes : nat_le 1000000 (size.bytes + length text + 1) ≡ true = grind (arith, nat_tests) in either (nat_le 60000 (size.lines + 1)) (nat_le 1000000 (size.bytes + length text + 1)) bytes)
  by false false e f full = absurd (cc)

-- a game that is left is the last
pub none-left : (end : Moment) (ending : Ending) (sheet next : Sheet) (game : Game) → ending ≡ Stopped → IsEnd end ending → sheet.size ≡ with_line end.size (ending_text ending) → AddsGame sheet game next → ⊥
none-left end ending sheet next game left ends size makes =
    let stopped = subst (λ (e : Ending). IsEnd end e) left ends in
    let full : is_full sheet.size ≡ true = ap is_full size ∙ full-stays end.size (ending_text ending) stopped.2 in
    both (is_full sheet.size) full makes.room where
      both : (t : Bool) → t ≡ true → t ≡ false → ⊥
      both true p q = absurd (cc)
      both false p q = absurd (cc)

game-tells : TakesPlays → (line : ℕ) (sheet : Sheet) (game : Game) (next : Sheet) → AddsGame sheet game next → (winner : Player) (points : ℕ) → game.ending ≡ Ended winner points
    → (last : ℕ) × TellsTo (moment_at sheet.games line (opening 1)) (game_lines (sheet.games + 1) game) (moment_at (sheet.games + 1) last (opening 1))
game-tells takes line sheet game next makes winner points won =
    let number = sheet.games + 1 in
    let first : TellsTo (moment_at sheet.games line (opening 1)) (GameLine number game.away ∷ []) (moment_at number (line + 1) (opening 1)) = tells-line (moment_at sheet.games line (opening 1)) (GameLine number game.away) [] (moment_at number (line + 1) (opening 1)) (makes.away, refl, refl) in
    let plays = all-tell takes number (line + 1) (begun sheet) game.actions makes.end makes.acts in
    let over : TellsTo (moment_at number plays.0 makes.end.game) (ending_line game.ending ∷ []) (moment_at number (plays.0 + 1) (opening 1)) =
    subst (λ (e : Ending). TellsTo (moment_at number plays.0 makes.end.game) (ending_line e ∷ []) (moment_at number (plays.0 + 1) (opening 1))) (sym won)
    (tells-line (moment_at number plays.0 makes.end.game) (ending_line (Ended winner points)) [] (moment_at number (plays.0 + 1) (opening 1)) (subst (λ (e : Ending). IsEnd makes.end e) won makes.ends, refl, refl)) in (
      plays.0 + 1,
      tells-more (moment_at sheet.games line (opening 1)) (GameLine number game.away ∷ []) (map Acted game.actions ++ ending_line game.ending ∷ []) (moment_at number (line + 1) (opening 1)) (moment_at number (plays.0 + 1) (opening 1)) first
          (tells-more (moment_at number (line + 1) (opening 1)) (map Acted game.actions) (ending_line game.ending ∷ []) (moment_at number plays.0 makes.end.game) (moment_at number (plays.0 + 1) (opening 1)) plays.1 over),
    )

left-tells : TakesPlays → (line : ℕ) (sheet : Sheet) (game : Game) (next : Sheet) → AddsGame sheet game next → game.ending ≡ Stopped
    → (end : Replayed) × TellsTo (moment_at sheet.games line (opening 1)) (game_lines (sheet.games + 1) game) end
left-tells takes line sheet game next makes left =
    let number = sheet.games + 1 in
    let first : TellsTo (moment_at sheet.games line (opening 1)) (GameLine number game.away ∷ []) (moment_at number (line + 1) (opening 1)) = tells-line (moment_at sheet.games line (opening 1)) (GameLine number game.away) [] (moment_at number (line + 1) (opening 1)) (makes.away, refl, refl) in
    let plays = all-tell takes number (line + 1) (begun sheet) game.actions makes.end makes.acts in
    let stopped : TellsTo (moment_at number plays.0 makes.end.game) (ending_line game.ending ∷ []) (moment_at number (plays.0 + 1) makes.end.game) =
    subst (λ (e : Ending). TellsTo (moment_at number plays.0 makes.end.game) (ending_line e ∷ []) (moment_at number (plays.0 + 1) makes.end.game)) (sym left)
    (tells-line (moment_at number plays.0 makes.end.game) (ending_line Stopped) [] (moment_at number (plays.0 + 1) makes.end.game) ((subst (λ (e : Ending). IsEnd makes.end e) left makes.ends).0, refl, refl)) in (
      moment_at number (plays.0 + 1) makes.end.game,
      tells-more (moment_at sheet.games line (opening 1)) (GameLine number game.away ∷ []) (map Acted game.actions ++ ending_line game.ending ∷ []) (moment_at number (line + 1) (opening 1)) (moment_at number (plays.0 + 1) makes.end.game) first
          (tells-more (moment_at number (line + 1) (opening 1)) (map Acted game.actions) (ending_line game.ending ∷ []) (moment_at number plays.0 makes.end.game) (moment_at number (plays.0 + 1) makes.end.game) plays.1 stopped),
    )

games-tell : TakesPlays → (line : ℕ) (sheet : Sheet) (games : List Game) (end : Sheet) → AllMade sheet games end → (last : Replayed) × TellsTo (moment_at sheet.games line (opening 1)) (games_lines (sheet.games + 1) games) last
games-tell takes line sheet [] end all = (moment_at sheet.games line (opening 1), ([], (refl, refl)))
games-tell takes line sheet (game ∷ games) end (next, makes, all) = by game.ending refl games all (λ (from : ℕ). games-tell takes from next games end all) where
  by : (ending : Ending) → game.ending ≡ ending → (more : List Game) → AllMade next more end → ((from : ℕ) → (last : Replayed) × TellsTo (moment_at next.games from (opening 1)) (games_lines (next.games + 1) more) last)
      → (last : Replayed) × TellsTo (moment_at sheet.games line (opening 1)) (games_lines (sheet.games + 1) (game ∷ more)) last
  by (Ended winner points) is more rest later =
      let here = game-tells takes line sheet game next makes winner points is in
      let on = later here.0 in
      (on.0, tells-more (moment_at sheet.games line (opening 1)) (game_lines (sheet.games + 1) game) (games_lines (sheet.games + 1 + 1) more) (moment_at (sheet.games + 1) here.0 (opening 1)) on.0 here.1 (subst (λ (n : ℕ). TellsTo (moment_at n here.0 (opening 1)) (games_lines (n + 1) more) on.0) makes.games on.1))
  by Stopped is [] rest later =
      let here = left-tells takes line sheet game next makes is in
      (here.0, subst (λ (lines : List Line). TellsTo (moment_at sheet.games line (opening 1)) lines here.0) (sym (append-nil (game_lines (sheet.games + 1) game))) here.1)
  by Stopped is (another ∷ more) rest later = absurd (none-left makes.end game.ending next rest.0 another is makes.ends makes.size rest.1)

-- a record that is made has a replay
pub made-replays : TakesPlays → (number count : ℕ) (rec : Record) → IsMade number count rec → (told : List Decision) × IsReplay rec told
made-replays takes number count rec made =
    let tells = games-tell takes 4 (first_sheet number) rec.games made.end made.games in
    let first : moment_at 0 4 (opening 1) ≡ first_moment rec = (λ i. record { checkers = sym made.checkers i; stakes = sym made.stakes i; standing = first_standing (sym made.stakes i); game = 0; line = 4; progress = opening (sym made.checkers i) }) in
    let told = subst (λ (now : Replayed). TellsTo now (games_lines 1 rec.games) tells.0) first tells.1 in
    (told.0, (tells.0, told.1))
