use Rattle.turn_rule.proofs.Enclosing.{each-sound}
use Rattle.turn_rule.proofs.exact_laws.each_sound_word_is_sound.Goals as goal

pub returns : goal.returns
returns c = each-sound
