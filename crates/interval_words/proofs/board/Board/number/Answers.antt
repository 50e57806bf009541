use Rattle.std.proofs.Common.{ap, ◌∙◌}
use Rattle.turn_rule.specs.Games.{kinds_of}
use Rattle.interval_words.specs.Numbers.{state_of}
use Rattle.interval_words.proofs.board.Board.number.Goals as goal

pub returns-clause-number : goal.returns-clause-number
returns-clause-number c = c.state_number.ensures.number ∙ ap (λ b. state_of (kinds_of b.game) c.args.position.now c.args.kind) c.self.view_is

pub returns-clause-state : goal.returns-clause-state
returns-clause-state c = record {
  position = c.args.position.now;
  kind = c.args.kind;
  is = c.requires;
  number = c.state_number.ensures.number ∙ ap (λ b. state_of (kinds_of b.game) c.args.position.now c.args.kind) c.self.view_is;
}
