use Rattle.std.proofs.Common.{refl, ◌∙◌}
use Rattle.std.proofs.lemmas.Bool.{false≢true}
use Rattle.interval_words.proofs.Lists.{crossed-not, lower-within, upper-within, both-within, pair-is}
use Rattle.interval_words.proofs.words.pair_of_list.Goals as goal

pub returns-then-lower-upper-clause-within : goal.returns-then-lower-upper-clause-within
returns-then-lower-upper-clause-within c = (λ e. absurd (false≢true e), λ is. absurd (crossed-not c.args.bound c.args.list.now c.args.state c.if-lower-upper.true is))

pub returns-in_err-from_word-clause-within : goal.returns-in_err-from_word-clause-within
returns-in_err-from_word-clause-within c = rw c.from_residual.ensures (λ e. absurd (false≢true e), λ is. c.in_err-from_word.ensures.within.1 (lower-within c.args.bound c.args.list.now c.args.state is))

pub returns-in_err-from_word-2-clause-within : goal.returns-in_err-from_word-2-clause-within
returns-in_err-from_word-2-clause-within c = rw c.from_residual-in_err-from_word-2.ensures (λ e. absurd (false≢true e), λ is. c.in_err-from_word-2.ensures.within.1 (upper-within c.args.bound c.args.list.now c.args.state is))

pub returns-clause-within : goal.returns-clause-within
returns-clause-within c = (λ _. both-within c.args.bound c.args.list.now c.args.state (c.in_ok-from_word.ensures.within.0 refl) (c.in_ok-from_word-2.ensures.within.0 refl) c.if-lower-upper.false, λ _. refl)

pub returns-clause-pair : goal.returns-clause-pair
returns-clause-pair c = c.new.ensures ∙ pair-is c.args.bound c.args.list.now c.args.state _ _ c.in_ok-from_word.ensures.value c.in_ok-from_word-2.ensures.value
