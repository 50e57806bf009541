-- How a record is replayed, line by line: the decisions that its lines tell, and the first line that breaks a rule.
use Rattle.std.specs.Prelude.{◌≡◌, ◌≢◌, ◌⊎◌, ℕ, ◌+◌, ◌*◌, Bool, true, false, List, [], ◌∷◌, ◌++◌, Some, if◌then◌else◌}
use Rattle.move_rules.specs.Written.{Leaves, IsWrittenFault}
use Rattle.move_rules.specs.declared.applied.BadPlay.{BadPlay}
use Rattle.position_rank.specs.Placement.{Placement}
use Rattle.cube_actions.specs.declared.action.Answer.{Answer}
use Rattle.cube_actions.specs.declared.action.Answer.TheVariants.{Take, Pass, Beaver}
use Rattle.turn_rule.specs.declared.choice.Choice.{Choice}
use Rattle.turn_rule.specs.declared.choice.Choice.TheVariants.{Played, Offered, Answered}
use Rattle.game_record.specs.declared.decision.Decision.{Decision}
use Rattle.cube_actions.specs.declared.action.Offer.TheVariants.{NoDouble, Double}
use Rattle.game_record.specs.declared.fault.BadRecord.{BadRecord}
use Rattle.game_record.specs.declared.fault.RecordFault.{RecordFault}
use Rattle.game_record.specs.declared.fault.RecordFault.TheVariants.{IllegalPlay, IllegalCube, ScoreWrong}
use Rattle.game_record.specs.declared.fault.RecordStop.{RecordStop}
use Rattle.game_record.specs.declared.fault.RecordStop.TheVariants.{Bad, NoMemory}
use Rattle.game_record.specs.declared.line.Line.{Line}
use Rattle.game_record.specs.declared.line.Line.TheVariants.{Game as GameLine, Acted, Ended, Stopped}
use Rattle.game_record.specs.declared.moment.Moment.{Moment}
use Rattle.game_record.specs.declared.player.Player.{Player}
use Rattle.game_record.specs.declared.progress.Progress.{Progress}
use Rattle.game_record.specs.declared.record.Record.{Record}
use Rattle.game_record.specs.declared.record.RecordStakes.{RecordStakes}
use Rattle.game_record.specs.declared.record.RecordStakes.TheVariants.{Match}
use Rattle.game_record.specs.declared.record.What.{What}
use Rattle.game_record.specs.declared.record.What.TheVariants.{Rolled, Doubled, Took, Passed, Beavered}
use Rattle.game_record.specs.declared.standing.Standing.{Standing}
use Rattle.game_record.specs.Cube.{shows}
use Rattle.game_record.specs.Games.{after_answer, game_after_double, game_after_play, records_beavers, is_over, may_double, opening}
use Rattle.game_record.specs.Kinds.{game_needs, game_score, game_stakes, kind_number, kind_of_turn}
use Rattle.game_record.specs.Lines.{games_lines}
use Rattle.game_record.specs.Standings.{standing_after_win, first_standing}
use Rattle.game_record.specs.Turns.{other_player}

-- before the line of the first game, which is the fourth
abbrev pub first_moment : Record → Moment
first_moment rec = record {
  checkers = rec.checkers;
  stakes = rec.stakes;
  standing = first_standing rec.stakes;
  game = 0;
  line = 4;
  progress = opening rec.checkers;
}

-- ---- decisions

-- what a player chose in the other's turn or his own: all is seen by the player whose turn it is
abbrev pub decided : Moment → Player → Player → Choice → Decision
decided now on_turn player choice = record {
  game = now.game;
  line = now.line;
  player = player;
  score = game_score now.stakes now.standing;
  position = now.progress.position;
  kind = kind_number (game_stakes now.stakes now.standing)
      (kind_of_turn now.stakes now.standing on_turn now.progress.cube);
  choice = choice;
}

abbrev pub may_double_now : Moment → Player → Bool
may_double_now now player = may_double now.stakes now.standing player now.progress

-- who rolls where he might have doubled has chosen not to
abbrev pub undoubled : Moment → Player → List Decision
undoubled now player = if may_double_now now player
    then decided now player player (Offered NoDouble) ∷ []
    else []

-- ---- right lines

-- the game goes on in the next line
abbrev pub goes_on : Moment → Progress → Moment
goes_on now progress = record now { line = now.line + 1; progress = progress }

abbrev pub Answers : Moment → Player → Answer → List Decision → Moment → Type 0
Answers now player answer told next =
    (told ≡ decided now (other_player player) player (Answered answer) ∷ [])
    × (next ≡ goes_on now (after_answer player answer now.progress))

-- what a player did is by the rules, tells these decisions and leads to this moment
abbrev pub Acts : Moment → Player → What → List Decision → Moment → Type 0
Acts now player (Rolled roll written) told next =
    (is_over now.progress ≡ false)
    × (end : Placement) × Leaves now.progress.position roll written.items end
    × (told ≡ undoubled now player ++ decided now player player (Played roll end) ∷ [])
    × (next ≡ goes_on now (game_after_play now.stakes player end now.progress))
Acts now player Doubled told next =
    (is_over now.progress ≡ false)
    × (may_double_now now player ≡ true)
    × (told ≡ decided now player player (Offered Double) ∷ [])
    × (next ≡ goes_on now (game_after_double now.progress))
Acts now player Took told next = Answers now player Take told next
Acts now player Passed told next = Answers now player Pass told next
Acts now player Beavered told next =
    (records_beavers now.stakes ≡ true) × Answers now player Beaver told next

-- in a match a win counts as often as the cube shows
abbrev pub standing_after : Moment → Player → ℕ → RecordStakes → Standing
standing_after now winner points (Match length) =
    standing_after_win now.standing winner (points * shows now.progress.cube)
standing_after now winner points _ = now.standing

-- the match goes on, and the board is set up again
abbrev pub after_game : Moment → Player → ℕ → Moment
after_game now winner points = record now {
  standing = standing_after now winner points now.stakes;
  line = now.line + 1;
  progress = opening now.checkers;
}

-- A line is by the rules, tells these decisions and leads to this moment. A match that is over has no next game: no line says that a player
-- needs 0.
abbrev pub Reports : Moment → Line → List Decision → Moment → Type 0
Reports now (GameLine number away) told next = (away ≡ game_needs now.stakes now.standing)
    × (told ≡ []) × (next ≡ record now { game = number; line = now.line + 1 })
Reports now (Acted action) told next = Acts now action.player action.what told next
Reports now (Ended winner points) told next =
    (now.progress.won ≡ Some (record { winner = winner; points = points })) × (told ≡ [])
    × (next ≡ after_game now winner points)
Reports now Stopped told next =
    (is_over now.progress ≡ false) × (told ≡ []) × (next ≡ goes_on now now.progress)
Reports now _ told next = (told ≡ []) × (next ≡ goes_on now now.progress)

-- lines that are by the rules, one after another
abbrev pub AllTell : Moment → List Line → List Decision → Moment → Type 0
AllTell now [] told end = (told ≡ []) × (end ≡ now)
AllTell now (line ∷ lines) told end =
    (here : List Decision) × (next : Moment) × Reports now line here next
    × (later : List Decision) × AllTell next lines later end × (told ≡ here ++ later)

-- a list of decisions grew by some of which this holds
abbrev pub AddsDecisions : List Decision → List Decision → (List Decision → Type 0) → Type 0
AddsDecisions old new fact = (told : List Decision) × (new ≡ old ++ told) × fact told

-- these are the decisions of a record that is by the rules
abbrev pub IsReplay : Record → List Decision → Type 0
IsReplay rec told = (end : Moment) × AllTell (first_moment rec) (games_lines 1 rec.games) told end

-- ---- wrong lines

-- what a player did breaks a rule
abbrev pub IsWrongAct : Moment → Player → What → RecordFault → Type 0
IsWrongAct now player (Rolled roll written) fault =
    ((is_over now.progress ≡ true) × (fault ≡ ScoreWrong))
    ⊎ ((is_over now.progress ≡ false) × (bad : BadPlay)
    × IsWrittenFault now.progress.position roll written.items bad × (fault ≡ IllegalPlay bad))
IsWrongAct now player Doubled fault =
    ((is_over now.progress ≡ true) × (fault ≡ ScoreWrong))
    ⊎ ((is_over now.progress ≡ false) × (may_double_now now player ≡ false) × (fault ≡ IllegalCube))
IsWrongAct now player Took fault = ⊥
IsWrongAct now player Passed fault = ⊥
IsWrongAct now player Beavered fault = (records_beavers now.stakes ≡ false) × (fault ≡ IllegalCube)

-- the line breaks a rule
abbrev pub IsWrongLine : Moment → Line → RecordFault → Type 0
IsWrongLine now (GameLine number away) fault =
    (away ≢ game_needs now.stakes now.standing) × (fault ≡ ScoreWrong)
IsWrongLine now (Acted action) fault = IsWrongAct now action.player action.what fault
IsWrongLine now (Ended winner points) fault =
    (now.progress.won ≢ Some (record { winner = winner; points = points })) × (fault ≡ ScoreWrong)
IsWrongLine now Stopped fault = (is_over now.progress ≡ true) × (fault ≡ ScoreWrong)
IsWrongLine now _ fault = ⊥

-- the first of these lines that breaks a rule
abbrev pub BreaksAt : Moment → List Line → BadRecord → Type 0
BreaksAt now [] bad = ⊥
BreaksAt now (line ∷ lines) bad =
    ((bad.line ≡ now.line) × IsWrongLine now line bad.fault)
    ⊎ ((here : List Decision) × (next : Moment) × Reports now line here next
    × BreaksAt next lines bad)

-- the first line of a record that breaks a rule
abbrev pub IsBroken : Record → BadRecord → Type 0
IsBroken rec bad = BreaksAt (first_moment rec) (games_lines 1 rec.games) bad

-- either there was no memory, or this is wrong
abbrev pub StopsBy : (BadRecord → Type 0) → RecordStop → Type 0
StopsBy wrong (Bad bad) = wrong bad
StopsBy wrong NoMemory = Unit {0}
