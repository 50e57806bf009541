-- A replay goes on from line to line.
use Rattle.std.proofs.Common.{◌≡◌, ℕ, ◌+◌, ◌<◌, List, [], ◌∷◌, ◌++◌, length, map, drop, get_or, inl, inr, refl, ap, sym, subst, ◌∙◌, append_assoc, add-one, drop-cons}
use Rattle.std.proofs.lemmas.List.{append-nil}
use Rattle.game_record.specs.declared.decision.Decision.{Decision}
use Rattle.game_record.specs.declared.fault.BadRecord.{BadRecord}
use Rattle.game_record.specs.declared.line.Line.{Line}
use Rattle.game_record.specs.declared.line.Line.TheVariants.{Acted}
use Rattle.game_record.specs.declared.moment.Moment.{Moment}
use Rattle.game_record.specs.declared.player.Player.{Player}
use Rattle.game_record.specs.declared.record.Action.{Action}
use Rattle.game_record.specs.declared.record.Ending.{Ending}
use Rattle.game_record.specs.declared.record.Ending.TheVariants.{Ended as WasEnded, Stopped as WasStopped}
use Rattle.game_record.specs.declared.record.Game.{Game}
use Rattle.game_record.specs.declared.record.What.{What}
use Rattle.game_record.specs.declared.record.What.TheVariants.{Rolled, Doubled, Took, Passed, Beavered}
use Rattle.game_record.specs.declared.fault.RecordStop.{RecordStop}
use Rattle.game_record.specs.declared.fault.RecordStop.TheVariants.{Bad, NoMemory}
use Rattle.cube_actions.specs.Names.{names_of}
use Rattle.cube_actions.specs.declared.name.StakesName.{StakesName}
use Rattle.std.specs.List.{Contains}
use Rattle.game_record.specs.Replay.{StopsBy, Acts, AddsDecisions, AllTell, BreaksAt, IsWrongLine, Reports}
use Rattle.game_record.specs.Kinds.{game_stakes, kind_of_turn}
use Rattle.game_record.specs.Lines.{ending_line, game_lines}
use Rattle.game_record.specs.Ready.{AreLinesReady, CanTell, HasStanding, IsSetFor}

-- ---- lines behind one another

-- what is left of a list, from one of its items on
pub next-item : {X : Type 0} (xs : List X) (i : ℕ) (x : X) → i < length xs → x ≡ get_or xs i x → drop i xs ≡ x ∷ drop (i + 1) xs
next-item {X} xs i x low e = subst (λ (y : X). drop i xs ≡ y ∷ drop (i + 1) xs) (sym e) (rw (add-one, drop-cons xs i x))

pub tell-append : (xs ys : List Line) (now : Moment) (a b : List Decision) (mid end : Moment) → AllTell now xs a mid → AllTell mid ys b end → AllTell now (xs ++ ys) (a ++ b) end
tell-append [] ys now a b mid end x y =
    subst (λ (ds : List Decision). AllTell now ys (ds ++ b) end) (sym x.0) (subst (λ (m : Moment). AllTell m ys b end) x.1 y)
tell-append (line ∷ xs) ys now a b mid end (here, next, tells, later, rest, e) y =
    (here, next, tells, later ++ b, tell-append xs ys next later b mid end rest y, ap (λ ds. ds ++ b) e ∙ append_assoc here later b)

pub ready-after : (xs ys : List Line) (now : Moment) (a : List Decision) (mid : Moment) → AreLinesReady now (xs ++ ys) → AllTell now xs a mid → AreLinesReady mid ys
ready-after [] ys now a mid ready x = subst (λ (m : Moment). AreLinesReady m ys) (sym x.1) ready
ready-after (line ∷ xs) ys now a mid ready (here, next, tells, later, rest, e) = ready-after xs ys next later mid (ready.1 here next tells) rest

pub ready-front : (xs ys : List Line) (now : Moment) → AreLinesReady now (xs ++ ys) → AreLinesReady now xs
ready-front [] ys now ready = tt
ready-front (line ∷ xs) ys now ready = (ready.0, λ here next tells. ready-front xs ys next (ready.1 here next tells))

pub breaks-behind : (xs ys : List Line) (now : Moment) (a : List Decision) (mid : Moment) (bad : BadRecord) → AllTell now xs a mid → BreaksAt mid ys bad → BreaksAt now (xs ++ ys) bad
breaks-behind [] ys now a mid bad x b = subst (λ (m : Moment). BreaksAt m ys bad) x.1 b
breaks-behind (line ∷ xs) ys now a mid bad (here, next, tells, later, rest, e) b = inr (here, next, tells, breaks-behind xs ys next later mid bad rest b)

pub breaks-front : (xs ys : List Line) (now : Moment) (bad : BadRecord) → BreaksAt now xs bad → BreaksAt now (xs ++ ys) bad
breaks-front [] ys now bad b = absurd b
breaks-front (line ∷ xs) ys now bad (inl b) = inl b
breaks-front (line ∷ xs) ys now bad (inr (here, next, tells, b)) = inr (here, next, tells, breaks-front xs ys next bad b)

-- ---- what is left of some lines from here on decides on all of them

pub record GoesOn (start : Moment) (lines : List Line) (old : List Decision) (now : Moment) (rest : List Line) (decisions : List Decision) : Type 0 where
  pub ready : AreLinesReady now rest
  pub tells : (later : List Decision) (end : Moment) → AllTell now rest later end → AddsDecisions old (decisions ++ later) (λ told. AllTell start lines told end)
  pub breaks : (bad : BadRecord) → BreaksAt now rest bad → BreaksAt start lines bad

pub on-begins : (start : Moment) (lines : List Line) (old : List Decision) → AreLinesReady start lines → GoesOn start lines old start lines old
on-begins start lines old ready = record {
  ready = ready;
  tells = λ later end all. (later, refl, all);
  breaks = λ bad b. b;
}

pub on-lines : (start : Moment) (lines : List Line) (old : List Decision) (now : Moment) (xs rest : List Line) (decisions here new : List Decision) (next : Moment)
    → GoesOn start lines old now (xs ++ rest) decisions → AllTell now xs here next → new ≡ decisions ++ here → GoesOn start lines old next rest new
on-lines start lines old now xs rest decisions here new next was all e = record {
  ready = ready-after xs rest now here next was.ready all;
  tells = λ later end more. subst (λ (ds : List Decision). AddsDecisions old ds (λ told. AllTell start lines told end))
      (sym (append_assoc decisions here later) ∙ ap (λ ds. ds ++ later) (sym e))
      (was.tells (here ++ later) end (tell-append xs rest now here later next end all more));
  breaks = λ bad b. was.breaks bad (breaks-behind xs rest now here next bad all b);
}

pub all-one : (now : Moment) (line : Line) (here : List Decision) (next : Moment) → Reports now line here next → AllTell now (line ∷ []) here next
all-one now line here next tells = (here, next, tells, [], (refl, refl), sym (append-nil here))

pub on-line : (start : Moment) (lines : List Line) (old : List Decision) (now : Moment) (line : Line) (rest : List Line) (decisions here new : List Decision) (next : Moment)
    → GoesOn start lines old now (line ∷ rest) decisions → Reports now line here next → new ≡ decisions ++ here → GoesOn start lines old next rest new
on-line start lines old now line rest decisions here new next was tells e =
    on-lines start lines old now (line ∷ []) rest decisions here new next was (all-one now line here next tells) e

pub on-ends : (start : Moment) (lines : List Line) (old : List Decision) (now : Moment) (decisions : List Decision) → GoesOn start lines old now [] decisions → AddsDecisions old decisions (λ told. AllTell start lines told now)
on-ends start lines old now decisions was =
    subst (λ (ds : List Decision). AddsDecisions old ds (λ told. AllTell start lines told now)) (append-nil decisions) (was.tells [] now (refl, refl))

-- what comes next, told otherwise
pub on-same : (start : Moment) (lines : List Line) (old : List Decision) (now : Moment) (rest again : List Line) (decisions : List Decision) → GoesOn start lines old now rest decisions → rest ≡ again → GoesOn start lines old now again decisions
on-same start lines old now rest again decisions was e = subst (λ (ls : List Line). GoesOn start lines old now ls decisions) e was

-- the lines of a game from an action on
pub acts-left : (actions items : List Action) (action : Action) (ending : Ending) → items ≡ action ∷ actions → map Acted items ++ ending_line ending ∷ [] ≡ Acted action ∷ (map Acted actions ++ ending_line ending ∷ [])
acts-left actions items action ending e = ap (λ xs. map Acted xs ++ ending_line ending ∷ []) e

-- ---- where a line is wrong

pub stops-here : (start : Moment) (lines : List Line) (old : List Decision) (now : Moment) (line : Line) (rest : List Line) (decisions : List Decision) (stop : RecordStop)
    → GoesOn start lines old now (line ∷ rest) decisions → StopsBy (λ bad. (bad.line ≡ now.line) × IsWrongLine now line bad.fault) stop → StopsBy (BreaksAt start lines) stop
stops-here start lines old now line rest decisions (Bad bad) was h = was.breaks bad (inl h)
stops-here start lines old now line rest decisions NoMemory was h = tt

pub stops-among : (start : Moment) (lines : List Line) (old : List Decision) (now : Moment) (xs rest : List Line) (decisions : List Decision) (stop : RecordStop)
    → GoesOn start lines old now (xs ++ rest) decisions → StopsBy (BreaksAt now xs) stop → StopsBy (BreaksAt start lines) stop
stops-among start lines old now xs rest decisions (Bad bad) was h = was.breaks bad (breaks-front xs rest now bad h)
stops-among start lines old now xs rest decisions NoMemory was h = tt

pub can-tell : (now : Moment) (line : Line) (name : StakesName) → IsSetFor now line → name ≡ game_stakes now.stakes now.standing → HasStanding now.stakes now.standing → CanTell now name
can-tell now line name ready named score = record {
  named = named;
  score = score;
  few_turns = ready.few_turns;
  kinds = λ player. subst (λ (n : StakesName). Contains (names_of n) (kind_of_turn now.stakes now.standing player now.progress.cube)) (sym named) (ready.kinds player);
}

-- ---- what a line leaves

-- an action leaves what the game is played for, and its number
pub act-keeps : (now : Moment) (player : Player) (what : What) (told : List Decision) (next : Moment) → Acts now player what told next → (next.stakes ≡ now.stakes) × (next.standing ≡ now.standing) × (next.game ≡ now.game)
act-keeps now player (Rolled roll written) told next h = let e = h.4 in (ap (λ (m : Moment). m.stakes) e, ap (λ (m : Moment). m.standing) e, ap (λ (m : Moment). m.game) e)
act-keeps now player Doubled told next h = let e = h.3 in (ap (λ (m : Moment). m.stakes) e, ap (λ (m : Moment). m.standing) e, ap (λ (m : Moment). m.game) e)
act-keeps now player Took told next h = let e = h.1 in (ap (λ (m : Moment). m.stakes) e, ap (λ (m : Moment). m.standing) e, ap (λ (m : Moment). m.game) e)
act-keeps now player Passed told next h = let e = h.1 in (ap (λ (m : Moment). m.stakes) e, ap (λ (m : Moment). m.standing) e, ap (λ (m : Moment). m.game) e)
act-keeps now player Beavered told next h = let e = h.1.1 in (ap (λ (m : Moment). m.stakes) e, ap (λ (m : Moment). m.standing) e, ap (λ (m : Moment). m.game) e)

acts-keep : (actions : List Action) (ending : Ending) (now : Moment) (told : List Decision) (end : Moment) → AllTell now (map Acted actions ++ ending_line ending ∷ []) told end → end.game ≡ now.game
acts-keep [] (WasEnded winner points) now told end (here, next, tells, later, rest, e) = ap (λ (m : Moment). m.game) rest.1 ∙ ap (λ (m : Moment). m.game) tells.2
acts-keep [] WasStopped now told end (here, next, tells, later, rest, e) = ap (λ (m : Moment). m.game) rest.1 ∙ ap (λ (m : Moment). m.game) tells.2
acts-keep (action ∷ actions) ending now told end (here, next, tells, later, rest, e) =
    acts-keep actions ending next later end rest ∙ (act-keeps now action.player action.what here next tells).2

-- behind a game's lines its number stands
pub game-counts : (number : ℕ) (game : Game) (now : Moment) (told : List Decision) (end : Moment) → AllTell now (game_lines number game) told end → end.game ≡ number
game-counts number game now told end (here, next, tells, later, rest, e) = acts-keep game.actions game.ending next later end rest ∙ ap (λ (m : Moment). m.game) tells.2
