use Rattle.std.proofs.Common.{◌≡◌, ◌+◌, [], ◌∷◌, ◌++◌, drop, map}
use Rattle.game_record.specs.Kinds.{game_stakes}
use Rattle.game_record.specs.Lines.{ending_line, game_lines}
use Rattle.game_record.specs.Ready.{HasStanding}
use Rattle.game_record.specs.declared.line.Line.TheVariants.{Acted}
use Rattle.game_record.proofs.GoOn.{GoesOn}
use Rattle.game_record.proofs.moment.Moment.play.Given as goal

abbrev pub invariant-loop-action : goal.invariant-loop-action
invariant-loop-action l =
    record {
      on : GoesOn l.fn.self (game_lines (l.fn.self.game + 1) l.fn.game) l.fn.decisions l.moment (map Acted (drop l.action-index l.action-items) ++ ending_line l.game.ending ∷ []) l.decisions;
      named : l.stakes.name ≡ game_stakes l.moment.stakes l.moment.standing;
      score : HasStanding l.moment.stakes l.moment.standing;
    }
