use Rattle.std.proofs.Common.{◌≡◌, ◌^◌, ℤ, pos, ◌+ℤ◌, ap, arith, ◌∙◌}
use Rattle.interval_words.specs.Numbers.{value_of}
use Rattle.interval_words.proofs.Calls.{value_of-word}
use Rattle.interval_words.proofs.board.bound_words_list.Goals as goal

pub returns : goal.returns
returns c =
    let all : c.args.states ≡ c.loop.counter = omega arith in
    record {
      long = omega (arith, c.loop.invariant.long);
      lower = λ state under. ap value_of (c.loop.invariant.lower state (omega arith)) ∙ value_of-word _ _ (c.to_word-lower.ensures ∙ ap (λ (z : ℤ). z +ℤ pos (2 ^ 36)) c.neg.ensures);
      upper = λ state under. ap value_of (c.loop.invariant.upper state (omega arith)) ∙ value_of-word _ _ c.to_word-upper.ensures;
    }
