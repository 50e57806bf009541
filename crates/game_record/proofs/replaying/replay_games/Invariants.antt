use Rattle.std.proofs.Common.{◌+◌, [], drop}
use Rattle.game_record.specs.Lines.{games_lines}
use Rattle.game_record.specs.Replay.{first_moment}
use Rattle.game_record.proofs.GoOn.{GoesOn}
use Rattle.game_record.proofs.replaying.replay_games.Given as goal

abbrev pub invariant-loop-game : goal.invariant-loop-game
invariant-loop-game l =
    GoesOn (first_moment l.rec) (games_lines 1 l.rec.games) [] l.moment (games_lines (l.moment.game + 1) (drop l.game-index l.game-items)) l.decisions
