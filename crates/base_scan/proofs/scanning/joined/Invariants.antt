use Rattle.std.proofs.Common.{◌<◌, ℕ, List}
use Rattle.interval_words.specs.WordLists.{WordList}
use Rattle.base_scan.specs.declared.condition.Test.{Test}
use Rattle.base_scan.specs.Found.{AreScanned}
use Rattle.base_scan.proofs.Scans.{AreOf}
use Rattle.base_scan.proofs.scanning.joined.Given as goal

abbrev pub invariant-loop-part : goal.invariant-loop-part
invariant-loop-part l =
    (words : WordList) (groups : List (List Test)) (many : ℕ) (some : 0 < many) → AreScanned words groups many l.parts
    → AreOf words groups many some l.part-index l.all.items
