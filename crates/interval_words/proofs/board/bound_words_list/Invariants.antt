use Rattle.std.proofs.Common.{◌≡◌, ◌*◌, ◌+◌, ◌<◌, ℕ, get_or, length}
use Rattle.interval_words.proofs.board.bound_words_list.Given as goal

abbrev pub invariant-loop : goal.invariant-loop
invariant-loop l = record {
  long : length l.words.items ≡ 2 * l.counter;
  lower : (n : ℕ) → n < l.counter → get_or l.words.items (2 * n) 0 ≡ l.lower;
  upper : (n : ℕ) → n < l.counter → get_or l.words.items (2 * n + 1) 0 ≡ l.upper;
}
