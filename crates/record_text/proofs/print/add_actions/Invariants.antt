use Rattle.std.proofs.Common.{◌≡◌, ◌++◌, map, drop}
use Rattle.game_record.specs.declared.line.Line.TheVariants.{Acted}
use Rattle.record_text.specs.Texts.{lines_text}
use Rattle.record_text.proofs.print.add_actions.Given as goal

abbrev pub invariant-loop-action : goal.invariant-loop-action
invariant-loop-action l = l.text.items ++ lines_text (map Acted (drop l.action-index l.actions)) ≡ l.fn.text.items ++ lines_text (map Acted l.actions)
