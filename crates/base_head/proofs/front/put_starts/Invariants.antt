use Rattle.std.proofs.Common.{◌≡◌, ◌++◌, take}
use Rattle.word_pages.specs.Words.{words_bytes}
use Rattle.base_head.specs.Fronts.{words_of_pairs}
use Rattle.base_head.proofs.front.put_starts.Given as goal

-- the words of the pairs so far were added
abbrev pub invariant-starts : goal.invariant-starts
invariant-starts g l = l.out.items ≡ l.fn.out.items ++ words_bytes l.version (words_of_pairs (take l.number l.starts.pairs))
