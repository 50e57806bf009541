use Rattle.interval_words.specs.Core.{words_in_core, noted}
use Rattle.interval_words.proofs.TurnLaws.{reached-sound}
use Rattle.interval_words.proofs.laws.kept_words_are_sound.Goals as goal

pub returns : goal.returns
returns c = record {
  words = λ core kept. reached-sound core.game kept.game.stakes kept.reached.0 (words_in_core core) kept.reached.1;
  notes = λ game notes is known. reached-sound game is.stakes known.reached.0 (noted game notes) known.reached.1;
}
