-- What a player has done in his turn.
use Rattle.game_record.specs.declared.player.Player.{Player}
use Rattle.game_record.specs.declared.record.What.{What}
use Rattle.game_record.specs.declared.record.What.TheVariants.{Rolled, Doubled, Took, Passed, Beavered}
use Rattle.record_maker.specs.Making.{Doubles, Moment, Rolls, TakesTurn, undoubled_words}

-- who doesn't double has rolled
pub turn-rolls : (now : Moment) (player : Player) (what : What) (next : Moment) → (Doubles now player → ⊥) → Rolls now.game player (undoubled_words now player) what next → TakesTurn now player what next
turn-rolls now player (Rolled roll written) next none rolls = (none, rolls)
turn-rolls now player Doubled next none rolls = absurd rolls
turn-rolls now player Took next none rolls = absurd rolls
turn-rolls now player Passed next none rolls = absurd rolls
turn-rolls now player Beavered next none rolls = absurd rolls
