use Rattle.std.proofs.Common.{◌≡◌, ◌+◌, ◌*◌, drop}
use Rattle.word_pages.specs.Words.{word_size}
use Rattle.word_pages.specs.Flaws.{pairs_flaw}
use Rattle.word_pages.proofs.flaws.check_pairs.Given as goal

-- the pairs so far have no flaw
abbrev pub invariant-pairs : goal.invariant-pairs
invariant-pairs l = pairs_flaw l.version l.bound l.at l.words ≡ pairs_flaw l.version l.bound (l.at + 2 * word_size l.version * l.i) (drop (2 * l.i) l.words)
