use Rattle.std.proofs.Common.{subst}
use Rattle.turn_rule.specs.States.{AreWithin}
use Rattle.interval_words.specs.WordLists.{WordList, words_in_list}
use Rattle.interval_words.proofs.Lists.{right-within}
use Rattle.interval_words.proofs.words.Words.reader.Goals as goal

pub invariant_of-result : goal.invariant_of-result
invariant_of-result c = record { within = subst (λ (w : WordList). AreWithin w.game (words_in_list w)) c.self.view_is (right-within _ c.self.invariant) }
