use Rattle.std.proofs.Common.{◌≡◌}
use Rattle.position_rank.specs.Ranks.{layouts}
use Rattle.interval_words.specs.WordLists.{WordList}
use Rattle.base_verify.specs.Columns.{AreHeld, AreToldHeld}
use Rattle.base_verify.proofs.taking.all_marks.Given as goal

abbrev pub invariant-loop-of_worker : goal.invariant-loop-of_worker
invariant-loop-of_worker l =
    (words : WordList) → layouts words.game.checkers ≡ l.count → AreToldHeld words l.told
    → AreHeld words l.all.items
