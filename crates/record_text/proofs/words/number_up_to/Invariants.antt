use Rattle.std.proofs.Common.{◌≡◌, ◌≤◌, ◌<◌, ℕ, decimal}
use Rattle.record_text.proofs.words.number_up_to.Given as goal

abbrev pub invariant-loop-number : goal.invariant-loop-number
invariant-loop-number l = (n : ℕ) → 1 ≤ n → n < l.number → l.word ≡ decimal n → ⊥
