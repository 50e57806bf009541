use Rattle.std.proofs.Common.{◌≡◌, All, length}
use Rattle.run_endings.specs.Notes.{IsShown}
use Rattle.run_endings.proofs.note.line_of.Given as goal

-- a byte for each so far, and none a control byte
abbrev pub invariant-bytes : goal.invariant-bytes
invariant-bytes l = record {
  many : length l.line.items ≡ l.byte-index;
  shown : All IsShown l.line.items;
}
