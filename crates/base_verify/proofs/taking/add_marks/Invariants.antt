use Rattle.std.proofs.Common.{◌≡◌, length}
use Rattle.interval_words.specs.WordLists.{WordList}
use Rattle.base_verify.specs.Columns.{AreHeld}
use Rattle.base_verify.proofs.taking.add_marks.Given as goal

abbrev pub invariant-loop-i : goal.invariant-loop-i
invariant-loop-i l = record {
  many : length l.marks ≡ length l.initial.marks;
  held : (words : WordList) → AreHeld words l.initial.marks → AreHeld words l.others → AreHeld words l.marks;
}
