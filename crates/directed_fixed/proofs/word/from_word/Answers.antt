use Rattle.std.proofs.Common.{arith}
use Rattle.std.proofs.lemmas.Int.{ints}
use Rattle.directed_fixed.proofs.word.from_word.Goals as goal

pub returns-clause-within : goal.returns-clause-within
returns-clause-within c =
    (λ _. record { from = grind (arith, ints); to = grind (arith, ints) }, λ h. c.new.ensures.within.1 (record { from = grind (arith, ints); to = grind (arith, ints) }))
