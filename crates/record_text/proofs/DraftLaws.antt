-- What is read with one more line has the lines that were read, and this one.
use Rattle.std.proofs.Common.{◌≡◌, ℕ, suc, ◌+◌, ◌≤◌, Bool, List, [], ◌∷◌, ◌++◌, length, map, Option, Some, is_some, refl, sym, ◌∙◌, ap, subst, append_assoc, arith}
use Rattle.std.proofs.lemmas.List.{map-append, append-nil, length-append}
use Rattle.std.proofs.lemmas.Option.{cond_some, none-some, same_Some}
use Rattle.game_record.specs.declared.player.Player.{Player}
use Rattle.game_record.specs.declared.record.RecordStakes.{RecordStakes}
use Rattle.game_record.specs.declared.record.What.{What}
use Rattle.game_record.specs.declared.record.What.TheVariants.{Rolled, Doubled, Took, Passed, Beavered}
use Rattle.game_record.specs.declared.record.Ending.{Ending}
use Rattle.game_record.specs.declared.record.Ending.TheVariants.{Ended as WasEnded, Stopped as WasStopped}
use Rattle.game_record.specs.declared.record.Game.{Game}
use Rattle.game_record.specs.declared.record.Action.{Action}
use Rattle.record_text.specs.declared.draft.Draft.{Draft}
use Rattle.game_record.specs.declared.line.LineKind.TheVariants.{OfTitle, OfCheckers, OfStakes, OfGame, OfRoll, OfDouble, OfTake, OfPass, OfEnd, OfStop, OfClose}
use Rattle.game_record.specs.declared.line.Line.{Line}
use Rattle.game_record.specs.declared.line.Line.TheVariants.{Title as TitleLine, Checkers as CheckersLine, Stakes as StakesLine, Game as GameLine, Acted, Ended, Stopped, Closed}
use Rattle.game_record.specs.declared.stage.Next.{Next}
use Rattle.game_record.specs.declared.stage.Next.TheVariants.{Title, Checkers, Stakes, FirstGame, FirstRoll, Turn, Answer, Roll, End, NextGame, Close, Nothing}
use Rattle.game_record.specs.declared.stage.Stage.{Stage}
use Rattle.game_record.specs.Turns.{allowed, IsInGame, kind_of, kind_of_deed, same_player, other_player, stage_after}
use Rattle.game_record.specs.Lines.{game_lines, games_lines, ending_line, FitsStage, Follow}
use Rattle.record_text.specs.Drafts.{added, ended_game, lines_between, lines_within, lines_read, Counts}

-- lines that follow each other, and one more
pub follow-more : (stage : Stage) (lines : List Line) (mid : Stage) (line : Line) (next : Next) → Follow stage lines mid → allowed mid.in_match mid.next (kind_of line) ≡ Some next → FitsStage mid line → Follow stage (lines ++ line ∷ []) (stage_after mid line next)
follow-more stage [] mid line next f comes fits = (next, subst (λ (s : Stage). allowed s.in_match s.next (kind_of line) ≡ Some next) f comes, subst (λ (s : Stage). FitsStage s line) f fits, ap (λ (s : Stage). stage_after s line next) f)
follow-more stage (first ∷ lines) mid line next f comes fits = (f.0, f.1, f.2, follow-more (stage_after stage first f.0) lines mid line next f.3 comes fits)

-- ---- where each line may come

roll-within : (m : Bool) (next : Next) (player : Player) (new : Next) → allowed m next (OfRoll player) ≡ Some new → IsInGame next × IsInGame new
roll-within m FirstRoll player new e = (tt, subst IsInGame (same_Some (Turn (other_player player)) new e) tt)
roll-within m (Turn other) player new e = (tt, subst IsInGame (cond_some (same_player other player) (Turn (other_player player)) new e).1 tt)
roll-within m (Roll other) player new e = (tt, subst IsInGame (cond_some (same_player other player) (Turn (other_player player)) new e).1 tt)
roll-within m next player new e = absurd (none-some new e)

double-within : (m : Bool) (next : Next) (player : Player) (new : Next) → allowed m next (OfDouble player) ≡ Some new → IsInGame next × IsInGame new
double-within m (Turn other) player new e = (tt, subst IsInGame (cond_some (same_player other player) (Answer (other_player player)) new e).1 tt)
double-within m next player new e = absurd (none-some new e)

take-within : (m : Bool) (next : Next) (player : Player) (new : Next) → allowed m next (OfTake player) ≡ Some new → IsInGame next × IsInGame new
take-within m (Answer other) player new e = (tt, subst IsInGame (cond_some (same_player other player) (Roll (other_player player)) new e).1 tt)
take-within m next player new e = absurd (none-some new e)

pass-within : (m : Bool) (next : Next) (player : Player) (new : Next) → allowed m next (OfPass player) ≡ Some new → IsInGame next × IsInGame new
pass-within m (Answer other) player new e = (tt, subst IsInGame (cond_some (same_player other player) End new e).1 tt)
pass-within m next player new e = absurd (none-some new e)

acted-within : (m : Bool) (next : Next) (player : Player) (what : What) (new : Next) → allowed m next (kind_of_deed player what) ≡ Some new → IsInGame next × IsInGame new
acted-within m next player (Rolled roll written) new e = roll-within m next player new e
acted-within m next player Doubled new e = double-within m next player new e
acted-within m next player Took new e = take-within m next player new e
acted-within m next player Passed new e = pass-within m next player new e
acted-within m next player Beavered new e = take-within m next player new e

ended-within : (m : Bool) (next new : Next) → allowed m next OfEnd ≡ Some new → IsInGame next × (NextGame ≡ new)
ended-within m (Turn player) new e = (tt, same_Some NextGame new e)
ended-within m End new e = (tt, same_Some NextGame new e)
ended-within m next new e = absurd (none-some new e)

stopped-within : (m : Bool) (next new : Next) → allowed m next OfStop ≡ Some new → IsInGame next × (Close ≡ new)
stopped-within m (Turn player) new e = (tt, same_Some Close new e)
stopped-within m (Roll player) new e = (tt, same_Some Close new e)
stopped-within m next new e = absurd (none-some new e)

-- a game may begin
abbrev pub IsBetween : Next → Type 0
IsBetween FirstGame = Unit {0}
IsBetween NextGame = Unit {0}
IsBetween _ = ⊥

game-between : (m : Bool) (next : Next) (away : Bool) (new : Next) → allowed m next (OfGame away) ≡ Some new → IsBetween next × (FirstRoll ≡ new)
game-between m FirstGame away new e = (tt, (cond_some _ FirstRoll new e).1)
game-between m NextGame away new e = (tt, (cond_some _ FirstRoll new e).1)
game-between m next away new e = absurd (none-some new e)

-- ---- the lines that were read there

within-lines : (next : Next) (games : ℕ) (draft : Draft) → IsInGame next → lines_read next games draft ≡ lines_within games draft
within-lines FirstRoll games draft w = refl
within-lines (Turn player) games draft w = refl
within-lines (Answer player) games draft w = refl
within-lines (Roll player) games draft w = refl
within-lines End games draft w = refl
within-lines next games draft w = absurd w

within-count : (next : Next) (games : ℕ) (draft : Draft) → IsInGame next → Counts next games draft → games ≡ length draft.games + 1
within-count FirstRoll games draft w c = c
within-count (Turn player) games draft w c = c
within-count (Answer player) games draft w c = c
within-count (Roll player) games draft w c = c
within-count End games draft w c = c
within-count next games draft w c = absurd w

count-within : (next : Next) (games : ℕ) (draft : Draft) → IsInGame next → games ≡ length draft.games + 1 → Counts next games draft
count-within FirstRoll games draft w c = c
count-within (Turn player) games draft w c = c
count-within (Answer player) games draft w c = c
count-within (Roll player) games draft w c = c
count-within End games draft w c = c
count-within next games draft w c = absurd w

between-lines : (next : Next) (games : ℕ) (draft : Draft) → IsBetween next → lines_read next games draft ≡ lines_between draft
between-lines FirstGame games draft b = refl
between-lines NextGame games draft b = refl
between-lines next games draft b = absurd b

between-count : (next : Next) (games : ℕ) (draft : Draft) → IsBetween next → Counts next games draft → (games ≡ length draft.games) × (draft.actions ≡ [])
between-count FirstGame games draft b c = c
between-count NextGame games draft b c = c
between-count next games draft b c = absurd b

-- ---- one more line

none-more : (n : ℕ) → n ≡ n + 0
none-more n = omega arith

games-more : (number : ℕ) (games : List Game) (game : Game) → games_lines number (games ++ game ∷ []) ≡ games_lines number games ++ game_lines (number + length games) game
games-more number [] game = append-nil (game_lines number game) ∙ ap (λ n. game_lines n game) (none-more number)
games-more number (first ∷ games) game =
    let same : (number + 1) + length games ≡ number + suc (length games) = omega arith in
    ap (λ ls. game_lines number first ++ ls) (games-more (number + 1) games game ∙ ap (λ n. games_lines (number + 1) games ++ game_lines n game) same)
    ∙ sym (append_assoc (game_lines number first) (games_lines (number + 1) games) (game_lines (number + suc (length games)) game))

-- a game that ends
game-ends : (number : ℕ) (draft : Draft) (ending : Ending) → number ≡ length draft.games + 1 → lines_between (record draft { games = draft.games ++ ended_game draft ending ∷ []; actions = [] }) ≡ lines_within number draft ++ ending_line ending ∷ []
game-ends number draft ending count =
    let head = TitleLine ∷ CheckersLine draft.checkers ∷ StakesLine draft.stakes ∷ [] in
    let same : 1 + length draft.games ≡ number = omega (arith, count) in
    ap (λ ls. head ++ ls) (games-more 1 draft.games (ended_game draft ending) ∙ ap (λ n. games_lines 1 draft.games ++ game_lines n (ended_game draft ending)) same)
    ∙ sym (append_assoc (lines_between draft) (GameLine number draft.away ∷ map Acted draft.actions) (ending_line ending ∷ []))

action-more : (number : ℕ) (draft : Draft) (action : Action) → lines_within number (record draft { actions = draft.actions ++ action ∷ [] }) ≡ lines_within number draft ++ Acted action ∷ []
action-more number draft action =
    ap (λ ls. lines_between draft ++ GameLine number draft.away ∷ ls) (map-append Acted draft.actions (action ∷ []))
    ∙ sym (append_assoc (lines_between draft) (GameLine number draft.away ∷ map Acted draft.actions) (Acted action ∷ []))

-- what is read with this line
abbrev pub IsAdded : Next → ℕ → Draft → Line → Next → ℕ → Type 0
IsAdded next games draft line new more = (lines_read new more (added draft line) ≡ lines_read next games draft ++ line ∷ []) × Counts new more (added draft line)

end-added : (next new : Next) (games : ℕ) (draft : Draft) (line : Line) (ending : Ending) → IsInGame next → Counts next games draft → ending_line ending ≡ line → added draft line ≡ record draft { games = draft.games ++ ended_game draft ending ∷ []; actions = [] } → lines_between (added draft line) ≡ lines_read next games draft ++ line ∷ []
end-added next new games draft line ending within counts is same =
    ap lines_between same ∙ game-ends games draft ending (within-count next games draft within counts)
    ∙ ap (λ l. lines_within games draft ++ l ∷ []) is
    ∙ ap (λ ls. ls ++ line ∷ []) (sym (within-lines next games draft within))

title-added : (m : Bool) (next new : Next) (games : ℕ) (draft : Draft) → Counts next games draft → allowed m next OfTitle ≡ Some new → IsAdded next games draft TitleLine new games
title-added m Title new games draft c e = subst (λ n. IsAdded Title games draft TitleLine n games) (same_Some Checkers new e) (refl, c)
title-added m next new games draft c e = absurd (none-some new e)

checkers-added : (m : Bool) (next new : Next) (games : ℕ) (draft : Draft) (checkers : ℕ) → Counts next games draft → allowed m next OfCheckers ≡ Some new → IsAdded next games draft (CheckersLine checkers) new games
checkers-added m Checkers new games draft checkers c e = subst (λ n. IsAdded Checkers games draft (CheckersLine checkers) n games) (same_Some Stakes new e) (refl, c)
checkers-added m next new games draft checkers c e = absurd (none-some new e)

closed-added : (m : Bool) (next new : Next) (games : ℕ) (draft : Draft) → allowed m next OfClose ≡ Some new → IsAdded next games draft Closed new games
closed-added m NextGame new games draft e = subst (λ n. IsAdded NextGame games draft Closed n games) (same_Some Nothing new e) (refl, tt)
closed-added m Close new games draft e = subst (λ n. IsAdded Close games draft Closed n games) (same_Some Nothing new e) (refl, tt)
closed-added m next new games draft e = absurd (none-some new e)

stakes-added : (m : Bool) (next new : Next) (games : ℕ) (draft : Draft) (stakes : RecordStakes) → Counts next games draft → allowed m next OfStakes ≡ Some new → IsAdded next games draft (StakesLine stakes) new games
stakes-added m Stakes new games draft stakes c e =
    let lines = ap (λ gs. TitleLine ∷ CheckersLine draft.checkers ∷ StakesLine stakes ∷ games_lines 1 gs) c.1 in
    let count = c.0 ∙ ap length (sym c.1) in
    subst (λ n. IsAdded Stakes games draft (StakesLine stakes) n games) (same_Some FirstGame new e) (lines, (count, c.2))
stakes-added m next new games draft stakes c e = absurd (none-some new e)

game-added : (m : Bool) (next new : Next) (games number : ℕ) (draft : Draft) (away : Option (ℕ × ℕ)) → Counts next games draft → allowed m next (OfGame (is_some away)) ≡ Some new → number ≡ games + 1 → IsAdded next games draft (GameLine number away) new (games + 1)
game-added m next new games number draft away c e is =
    let place = game-between m next (is_some away) new e in
    let counts = between-count next games draft place.0 c in
    let lines =
    ap (λ actions. lines_between draft ++ GameLine (games + 1) away ∷ map Acted actions) counts.1
    ∙ ap (λ n. lines_between draft ++ GameLine n away ∷ []) (sym is)
    ∙ ap (λ ls. ls ++ GameLine number away ∷ []) (sym (between-lines next games draft place.0)) in
    subst (λ n. IsAdded next games draft (GameLine number away) n (games + 1)) place.1 (lines, ap (λ n. n + 1) counts.0)

action-added : (m : Bool) (next new : Next) (games : ℕ) (draft : Draft) (action : Action) → Counts next games draft → allowed m next (kind_of_deed action.player action.what) ≡ Some new → IsAdded next games draft (Acted action) new games
action-added m next new games draft action c e =
    let place = acted-within m next action.player action.what new e in
    let more = record draft { actions = draft.actions ++ action ∷ [] } in (
      within-lines new games more place.1 ∙ action-more games draft action ∙ ap (λ ls. ls ++ Acted action ∷ []) (sym (within-lines next games draft place.0)),
      count-within new games more place.1 (within-count next games draft place.0 c),
    )

pushed-count : (games : List Game) (game : Game) (n : ℕ) → n ≡ length games + 1 → n ≡ length (games ++ game ∷ [])
pushed-count games game n e = e ∙ sym (length-append games (game ∷ []))

ended-added : (m : Bool) (next new : Next) (games : ℕ) (draft : Draft) (winner : Player) (points : ℕ) → Counts next games draft → allowed m next OfEnd ≡ Some new → IsAdded next games draft (Ended winner points) new games
ended-added m next new games draft winner points c e =
    let place = ended-within m next new e in
    let ending = WasEnded winner points in
    subst (λ n. IsAdded next games draft (Ended winner points) n games) place.1 (
      end-added next new games draft (Ended winner points) ending place.0 c refl refl,
      (pushed-count draft.games (ended_game draft ending) games (within-count next games draft place.0 c), refl),
    )

stopped-added : (m : Bool) (next new : Next) (games : ℕ) (draft : Draft) → Counts next games draft → allowed m next OfStop ≡ Some new → IsAdded next games draft Stopped new games
stopped-added m next new games draft c e =
    let place = stopped-within m next new e in
    subst (λ n. IsAdded next games draft Stopped n games) place.1
    (end-added next new games draft Stopped WasStopped place.0 c refl refl, tt)

-- how many games have begun with a line
abbrev pub games_with : ℕ → Line → ℕ
games_with games (GameLine number away) = games + 1
games_with games _ = games

line-added : (m : Bool) (next new : Next) (games : ℕ) (draft : Draft) (line : Line) → Counts next games draft → allowed m next (kind_of line) ≡ Some new → FitsStage (record { next = next; in_match = m; games = games }) line → IsAdded next games draft line new (games_with games line)
line-added m next new games draft TitleLine c e f = title-added m next new games draft c e
line-added m next new games draft (CheckersLine checkers) c e f = checkers-added m next new games draft checkers c e
line-added m next new games draft (StakesLine stakes) c e f = stakes-added m next new games draft stakes c e
line-added m next new games draft (GameLine number away) c e f = game-added m next new games number draft away c e f.0
line-added m next new games draft (Acted action) c e f = action-added m next new games draft action c e
line-added m next new games draft (Ended winner points) c e f = ended-added m next new games draft winner points c e
line-added m next new games draft Stopped c e f = stopped-added m next new games draft c e
line-added m next new games draft Closed c e f = closed-added m next new games draft e

next-with : (stage : Stage) (line : Line) (new : Next) → (stage_after stage line new).next ≡ new
next-with stage TitleLine new = refl
next-with stage (CheckersLine checkers) new = refl
next-with stage (StakesLine stakes) new = refl
next-with stage (GameLine number away) new = refl
next-with stage (Acted action) new = refl
next-with stage (Ended winner points) new = refl
next-with stage Stopped new = refl
next-with stage Closed new = refl

games-with : (stage : Stage) (line : Line) (new : Next) → (stage_after stage line new).games ≡ games_with stage.games line
games-with stage TitleLine new = refl
games-with stage (CheckersLine checkers) new = refl
games-with stage (StakesLine stakes) new = refl
games-with stage (GameLine number away) new = refl
games-with stage (Acted action) new = refl
games-with stage (Ended winner points) new = refl
games-with stage Stopped new = refl
games-with stage Closed new = refl

pub few-more : (games : ℕ) (line : Line) → games_with games line ≤ games + 1
few-more games TitleLine = omega arith
few-more games (CheckersLine checkers) = omega arith
few-more games (StakesLine stakes) = omega arith
few-more games (GameLine number away) = omega arith
few-more games (Acted action) = omega arith
few-more games (Ended winner points) = omega arith
few-more games Stopped = omega arith
few-more games Closed = omega arith

-- the lines that are read with one more
pub stage-added : (stage : Stage) (draft : Draft) (line : Line) (new : Next) → Counts stage.next stage.games draft → allowed stage.in_match stage.next (kind_of line) ≡ Some new → FitsStage stage line → let after_it = stage_after stage line new in IsAdded stage.next stage.games draft line after_it.next after_it.games × (after_it.games ≤ stage.games + 1)
stage-added stage draft line new c e f =
    rw (next-with stage line new, games-with stage line new) (line-added stage.in_match stage.next new stage.games draft line c e f, few-more stage.games line)

-- a line begins at most one game
pub stage-games : (stage : Stage) (line : Line) (new : Next) → (stage_after stage line new).games ≤ stage.games + 1
stage-games stage line new = rw (games-with stage line new) (few-more stage.games line)
