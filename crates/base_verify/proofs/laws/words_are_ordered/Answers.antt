use Rattle.turn_rule.specs.Games.{kinds_of}
use Rattle.base_verify.proofs.Orders.{places-tell, told-by-places}
use Rattle.base_verify.proofs.laws.words_are_ordered.Goals as goal

pub returns : goal.returns
returns c = λ words side other p q k j state other_state.
    (places-tell (kinds_of words.game) side other p q k j state.kind other_state.kind, told-by-places (kinds_of words.game) side other p q k j state.kind other_state.kind)
