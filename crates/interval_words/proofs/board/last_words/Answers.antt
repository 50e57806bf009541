use Rattle.std.proofs.Common.{◌∷◌, ◌++◌, [], ◌∙◌, ap, sym, arith, List, ℕ}
use Rattle.std.proofs.lemmas.List.{take_all}
use Rattle.std.specs.Slots.{slots_counts}
use Rattle.interval_words.proofs.Lists.{take-one_more}
use Rattle.interval_words.proofs.board.last_words.Goals as goal

pub loop-place-preserved : goal.loop-place-preserved
loop-place-preserved c = c.in_ok-push.ensures.items ∙ (ap (λ (xs : List ℕ). xs ++ c.word.result ∷ []) c.loop-place.invariant ∙ sym (take-one_more _ c.loop-place.place c.word.result c.word.ensures))

pub returns : goal.returns
returns c = c.loop-place.invariant ∙ take_all c.loop-place.place _ (omega (arith, c.requires.many, (slots_counts c.args.last.now.words).0))
