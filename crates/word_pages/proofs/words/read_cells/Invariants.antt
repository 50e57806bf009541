use Rattle.std.proofs.Common.{◌≡◌, take}
use Rattle.word_pages.specs.Words.{numbers_of}
use Rattle.word_pages.proofs.words.read_cells.Given as goal

-- the words so far are those of the bytes
abbrev pub invariant-words : goal.invariant-words
invariant-words g l = take l.i l.words ≡ numbers_of g.row.SIZE l.i l.bytes
