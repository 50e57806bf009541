use Rattle.std.proofs.Common.{◌≡◌, ◌++◌, take, flat_map}
use Rattle.byteorder.specs.Endian.{big_bytes}
use Rattle.word_pages.proofs.words.put_cells.Given as goal

-- the words so far were added
abbrev pub invariant-words : goal.invariant-words
invariant-words g l = l.out.items ≡ l.fn.out.items ++ flat_map (big_bytes g.row.SIZE) (take l.word-index l.words)
