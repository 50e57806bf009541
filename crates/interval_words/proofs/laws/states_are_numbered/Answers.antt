use Rattle.turn_rule.specs.Games.{kinds_of}
use Rattle.interval_words.proofs.Calls.{is-number}
use Rattle.interval_words.proofs.Places.{state-in, state-same}
use Rattle.interval_words.proofs.laws.states_are_numbered.Goals as goal

pub returns : goal.returns
returns c = record {
  below = λ game p k state. state-in game.checkers (kinds_of game) p k state;
  each = is-number;
  apart = λ game p q k j is_p is_q same. state-same game.checkers (kinds_of game) p q k j is_p is_q same;
}
