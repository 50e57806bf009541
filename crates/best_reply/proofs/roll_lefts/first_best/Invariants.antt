use Rattle.interval_words.specs.WordLists.{words_in_list}
use Rattle.play_analyser.specs.Regrets.{play_pair}
use Rattle.best_reply.proofs.Lefts.{IsBestTo}
use Rattle.best_reply.proofs.roll_lefts.first_best.Given as goal

-- the first of the best of the plays so far
abbrev pub invariant-loop-i : goal.invariant-loop-i
invariant-loop-i l = IsBestTo (play_pair l.kind (words_in_list l.words)) l.lefts l.i l.place l.most
