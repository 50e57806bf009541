use Rattle.std.proofs.Common.{ℕ, ap, get_or, subst, sym, ◌∙◌}
use Rattle.directed_fixed.specs.Bounds.{IsWithinUnits}
use Rattle.directed_fixed.specs.declared.word.TheConstants.{WORD_OFFSET}
use Rattle.interval_words.specs.Numbers.{value_of}
use Rattle.interval_words.proofs.Lists.{value-small, value-read}
use Rattle.interval_words.proofs.words.value_in_list.Goals as goal

pub of_word-requires : goal.of_word-requires
of_word-requires c = value-small _ (subst (λ (n : ℕ). IsWithinUnits WORD_OFFSET (value_of (get_or c.args.list.now n 0))) (sym c.place_in_list-place.ensures.place) c.requires.within)

pub returns : goal.returns
returns c = value-read _ _ c.of_word.ensures ∙ ap (λ (n : ℕ). value_of (get_or c.args.list.now n 0)) c.place_in_list-place.ensures.place
