-- Lines tell one list of decisions, or one of them breaks a rule.
use Rattle.std.proofs.Common.{◌≡◌, ◌≤◌, ◌*◌, Bool, true, false, cond, List, [], ◌∷◌, ◌++◌, length, Result, Ok, Err, IfErr, inl, inr, refl, ap, sym, subst, ◌∙◌, arith, length-append}
use Rattle.position_rank.specs.Placement.{Placement}
use Rattle.roll_table.specs.Rolls.{Dice}
use Rattle.move_rules.specs.declared.applied.BadPlay.{BadPlay}
use Rattle.move_rules.specs.declared.written.Step.{Step}
use Rattle.move_rules.specs.Written.{Leaves, IsWrittenFault}
use Rattle.move_rules.proofs.WrittenLaws.{leaves-one}
use Rattle.turn_rule.specs.declared.choice.Choice.TheVariants.{Offered, Played}
use Rattle.game_record.specs.declared.decision.Decision.{Decision}
use Rattle.cube_actions.specs.declared.action.Offer.TheVariants.{NoDouble}
use Rattle.game_record.specs.declared.fault.BadRecord.{BadRecord}
use Rattle.game_record.specs.declared.fault.RecordFault.{RecordFault}
use Rattle.game_record.specs.declared.fault.RecordStop.{RecordStop}
use Rattle.game_record.specs.declared.fault.RecordStop.TheVariants.{Bad, NoMemory}
use Rattle.game_record.specs.declared.line.Line.{Line}
use Rattle.game_record.specs.declared.line.Line.TheVariants.{Title as TitleLine, Checkers as CheckersLine, Stakes as StakesLine, Game as GameLine, Acted, Ended, Stopped, Closed}
use Rattle.game_record.specs.declared.moment.Moment.{Moment}
use Rattle.game_record.specs.declared.player.Player.{Player}
use Rattle.game_record.specs.declared.record.Record.{Record}
use Rattle.game_record.specs.declared.record.What.{What}
use Rattle.game_record.specs.declared.record.What.TheVariants.{Rolled, Doubled, Took, Passed, Beavered}
use Rattle.game_record.specs.Replay.{Acts, AllTell, BreaksAt, IsBroken, IsReplay, IsWrongAct, IsWrongLine, Reports, StopsBy, decided, first_moment, goes_on, may_double_now, undoubled}
use Rattle.game_record.specs.Games.{game_after_play}
use Rattle.game_record.specs.Lines.{games_lines}

-- a written play that is right has no fault
abbrev pub LegalPlaysAreRight : Type 0
LegalPlaysAreRight = (p : Placement) (roll : Dice) (steps : List Step) (q : Placement) (fault : BadPlay) → Leaves p roll steps q → IsWrittenFault p roll steps fault → ⊥

-- ---- one list

act-one : (now : Moment) (player : Player) (what : What) (a b : List Decision) (x y : Moment) → Acts now player what a x → Acts now player what b y → (a ≡ b) × (x ≡ y)
act-one now player (Rolled roll written) a b x y h k =
    let same = leaves-one now.progress.position roll written.items h.1 k.1 h.2 k.2 in (
      h.3 ∙ ap (λ (end : Placement). undoubled now player ++ decided now player player (Played roll end) ∷ []) same ∙ sym k.3,
      h.4 ∙ ap (λ (end : Placement). goes_on now (game_after_play now.stakes player end now.progress)) same ∙ sym k.4,
    )
act-one now player Doubled a b x y h k = (h.2 ∙ sym k.2, h.3 ∙ sym k.3)
act-one now player Took a b x y h k = (h.0 ∙ sym k.0, h.1 ∙ sym k.1)
act-one now player Passed a b x y h k = (h.0 ∙ sym k.0, h.1 ∙ sym k.1)
act-one now player Beavered a b x y h k = (h.1.0 ∙ sym k.1.0, h.1.1 ∙ sym k.1.1)

tells-one : (now : Moment) (line : Line) (a b : List Decision) (x y : Moment) → Reports now line a x → Reports now line b y → (a ≡ b) × (x ≡ y)
tells-one now TitleLine a b x y h k = (h.0 ∙ sym k.0, h.1 ∙ sym k.1)
tells-one now (CheckersLine checkers) a b x y h k = (h.0 ∙ sym k.0, h.1 ∙ sym k.1)
tells-one now (StakesLine stakes) a b x y h k = (h.0 ∙ sym k.0, h.1 ∙ sym k.1)
tells-one now (GameLine number away) a b x y h k = (h.1 ∙ sym k.1, h.2 ∙ sym k.2)
tells-one now (Acted action) a b x y h k = act-one now action.player action.what a b x y h k
tells-one now (Ended winner points) a b x y h k = (h.1 ∙ sym k.1, h.2 ∙ sym k.2)
tells-one now Stopped a b x y h k = (h.1 ∙ sym k.1, h.2 ∙ sym k.2)
tells-one now Closed a b x y h k = (h.0 ∙ sym k.0, h.1 ∙ sym k.1)

all-one-way : (lines : List Line) (now : Moment) (a b : List Decision) (x y : Moment) → AllTell now lines a x → AllTell now lines b y → a ≡ b
all-one-way [] now a b x y h k = h.0 ∙ sym k.0
all-one-way (line ∷ lines) now a b x y (here, next, tells, later, rest, e) (here', next', tells', later', rest', e') =
    let one = tells-one now line here here' next next' tells tells' in
    let more = all-one-way lines next later later' x y rest (subst (λ (m : Moment). AllTell m lines later' y) (sym one.1) rest') in
    e ∙ ap (λ ds. ds ++ later) one.0 ∙ ap (λ ds. here' ++ ds) more ∙ sym e'

pub one-replay : (rec : Record) (told others : List Decision) → IsReplay rec told → IsReplay rec others → told ≡ others
one-replay rec told others h k = all-one-way (games_lines 1 rec.games) (first_moment rec) told others h.0 k.0 h.1 k.1

-- ---- no fault

act-right : LegalPlaysAreRight → (now : Moment) (player : Player) (what : What) (told : List Decision) (next : Moment) (fault : RecordFault) → Acts now player what told next → IsWrongAct now player what fault → ⊥
act-right legal now player (Rolled roll written) told next fault h (inl over) = let clash : true ≡ false = sym over.0 ∙ h.0 in cc
act-right legal now player (Rolled roll written) told next fault h (inr wrong) = legal now.progress.position roll written.items h.1 wrong.1 h.2 wrong.2
act-right legal now player Doubled told next fault h (inl over) = let clash : true ≡ false = sym over.0 ∙ h.0 in cc
act-right legal now player Doubled told next fault h (inr wrong) = let clash : true ≡ false = sym h.1 ∙ wrong.1 in cc
act-right legal now player Took told next fault h wrong = wrong
act-right legal now player Passed told next fault h wrong = wrong
act-right legal now player Beavered told next fault h wrong = let clash : true ≡ false = sym h.0 ∙ wrong.0 in cc

tells-right : LegalPlaysAreRight → (now : Moment) (line : Line) (told : List Decision) (next : Moment) (fault : RecordFault) → Reports now line told next → IsWrongLine now line fault → ⊥
tells-right legal now TitleLine told next fault h wrong = wrong
tells-right legal now (CheckersLine checkers) told next fault h wrong = wrong
tells-right legal now (StakesLine stakes) told next fault h wrong = wrong
tells-right legal now (GameLine number away) told next fault h wrong = wrong.0 h.0
tells-right legal now (Acted action) told next fault h wrong = act-right legal now action.player action.what told next fault h wrong
tells-right legal now (Ended winner points) told next fault h wrong = wrong.0 h.0
tells-right legal now Stopped told next fault h wrong = let clash : true ≡ false = sym wrong.0 ∙ h.0 in cc
tells-right legal now Closed told next fault h wrong = wrong

all-right : LegalPlaysAreRight → (lines : List Line) (now : Moment) (told : List Decision) (end : Moment) (bad : BadRecord) → AllTell now lines told end → BreaksAt now lines bad → ⊥
all-right legal [] now told end bad h b = b
all-right legal (line ∷ lines) now told end bad (here, next, tells, later, rest, e) (inl wrong) = tells-right legal now line here next bad.fault tells wrong.1
all-right legal (line ∷ lines) now told end bad (here, next, tells, later, rest, e) (inr (here', next', tells', b)) =
    let one = tells-one now line here here' next next' tells tells' in
    all-right legal lines next later end bad rest (subst (λ (m : Moment). BreaksAt m lines bad) (sym one.1) b)

pub replay-right : LegalPlaysAreRight → (rec : Record) (told : List Decision) (bad : BadRecord) → IsReplay rec told → IsBroken rec bad → ⊥
replay-right legal rec told bad h b = all-right legal (games_lines 1 rec.games) (first_moment rec) told h.0 bad h.1 b

-- so it is refused for want of memory alone
pub for-memory : {X : Type 0} (rec : Record) (told : List Decision) (r : Result X RecordStop) → ((rec : Record) (told : List Decision) (bad : BadRecord) → IsReplay rec told → IsBroken rec bad → ⊥)
    → IfErr r (StopsBy (IsBroken rec)) → IsReplay rec told → IfErr r (λ stop. stop ≡ NoMemory)
for-memory rec told (Ok x) right stops replay = tt
for-memory rec told (Err (Bad bad)) right stops replay = absurd (right rec told bad replay stops)
for-memory rec told (Err NoMemory) right stops replay = refl

-- ---- how many

at-most-one : (test : Bool) (x : Decision) → length (cond test (x ∷ []) []) ≤ 1
at-most-one true x = omega arith
at-most-one false x = omega arith

few-acts : (now : Moment) (player : Player) (what : What) (told : List Decision) (next : Moment) → Acts now player what told next → length told ≤ 2
few-acts now player (Rolled roll written) told next h =
    let played = decided now player player (Played roll h.1) in
    omega (arith, ap (λ ds. length ds) h.3, length-append (undoubled now player) (played ∷ []), at-most-one (may_double_now now player) (decided now player player (Offered NoDouble)))
few-acts now player Doubled told next h = omega (arith, ap (λ ds. length ds) h.2)
few-acts now player Took told next h = omega (arith, ap (λ ds. length ds) h.0)
few-acts now player Passed told next h = omega (arith, ap (λ ds. length ds) h.0)
few-acts now player Beavered told next h = omega (arith, ap (λ ds. length ds) h.1.0)

few-here : (now : Moment) (line : Line) (told : List Decision) (next : Moment) → Reports now line told next → length told ≤ 2
few-here now TitleLine told next h = omega (arith, ap (λ ds. length ds) h.0)
few-here now (CheckersLine checkers) told next h = omega (arith, ap (λ ds. length ds) h.0)
few-here now (StakesLine stakes) told next h = omega (arith, ap (λ ds. length ds) h.0)
few-here now (GameLine number away) told next h = omega (arith, ap (λ ds. length ds) h.1)
few-here now (Acted action) told next h = few-acts now action.player action.what told next h
few-here now (Ended winner points) told next h = omega (arith, ap (λ ds. length ds) h.1)
few-here now Stopped told next h = omega (arith, ap (λ ds. length ds) h.1)
few-here now Closed told next h = omega (arith, ap (λ ds. length ds) h.0)

pub few-told : (lines : List Line) (now : Moment) (told : List Decision) (end : Moment) → AllTell now lines told end → length told ≤ 2 * length lines
few-told [] now told end h = omega (arith, ap (λ ds. length ds) h.0)
few-told (line ∷ lines) now told end (here, next, tells, later, rest, e) =
    omega (arith, ap (λ ds. length ds) e, length-append here later, few-here now line here next tells, few-told lines next later end rest)
