use Rattle.game_record.proofs.CubeLaws.{not-below}
use Rattle.std.proofs.Common.{sym, ◌∙◌}
use Rattle.std.proofs.lemmas.Bool.{lt-leb}
use Rattle.game_record.proofs.cube.Cube.is_below.Goals as goal

-- src/cube.rt:50:5
pub returns-else-self-le3 : goal.returns-else-self-le3
returns-else-self-le3 c = lt-leb c.args.self.turns 3 c.if-self-le3.false ∙ sym (not-below c.args.self.turns c.args.points c.if-self-le3.false c.requires)
