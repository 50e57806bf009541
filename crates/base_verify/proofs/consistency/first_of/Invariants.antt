use Rattle.std.proofs.Common.{◌<◌, ℕ}
use Rattle.interval_words.specs.WordLists.{WordList}
use Rattle.base_verify.specs.Findings.{HoldBetween}
use Rattle.base_verify.specs.Checks.{ArePartsTold, word_place, start_of}
use Rattle.base_verify.proofs.consistency.first_of.Given as goal

abbrev pub invariant-loop-part : goal.invariant-loop-part
invariant-loop-part l =
    (words : WordList) (parts : ℕ) → 0 < parts → ArePartsTold words parts l.told
    → HoldBetween words (word_place words 0) (word_place words (start_of words parts l.part-index))
