use Rattle.std.proofs.Common.{◌≡◌, ◌*◌, ◌++◌, length, drop}
use Rattle.base_head.specs.Fronts.{pairs_of_words}
use Rattle.base_head.proofs.front.starts_of_words.Given as goal

-- the pairs so far and those of the words that are left
abbrev pub invariant-starts : goal.invariant-starts
invariant-starts l = record {
  whole : l.starts.pairs ++ pairs_of_words (drop (2 * l.number) l.words) ≡ pairs_of_words l.words;
  count : length l.starts.pairs ≡ l.number;
  same : l.starts.match_length ≡ l.fn.match_length;
}
