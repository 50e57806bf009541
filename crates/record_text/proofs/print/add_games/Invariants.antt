use Rattle.std.proofs.Common.{◌≡◌, ◌+◌, ◌++◌, drop}
use Rattle.game_record.specs.Lines.{games_lines}
use Rattle.record_text.specs.Texts.{lines_text}
use Rattle.record_text.proofs.print.add_games.Given as goal

abbrev pub invariant-loop-game : goal.invariant-loop-game
invariant-loop-game l = record {
  printed : l.text.items ++ lines_text (games_lines (l.number + 1) (drop l.game-index l.games)) ≡ l.fn.text.items ++ lines_text (games_lines 1 l.games);
  number : l.number ≡ l.game-index;
}
