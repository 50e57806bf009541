use Rattle.std.proofs.Common.{◌≡◌, take, length, Ok}
use Rattle.arrayvec.specs.ArrayVec.{ArrayVec}
use Rattle.directed_fixed.specs.Bounds.{Bounds}
use Rattle.turn_rule.specs.Looks.{Looked, MeetsOnAnswers}
use Rattle.turn_rule.proofs.Found.{look}
use Rattle.play_analyser.specs.Sought.{ArePairsFor, of_answer}
use Rattle.play_analyser.proofs.answers.answer_pairs.Given as goal

-- the pairs of the answers so far
abbrev pub invariant-loop-taken : goal.invariant-loop-taken
invariant-loop-taken g l =
    let s = (g.P.Pairs.seen l.fn.pairs).source in
    let later = g.P.Pairs.seen l.pairs in
    record {
      answers : l.taken-items ≡ l.double.answers.items;
      source : later.source ≡ s;
      stays : g.P.Pairs.stays l.pairs ≡ g.P.Pairs.stays l.fn.pairs;
      many : length l.found.items ≡ l.taken-index;
      found : Looked (look s (g.P.Pairs.seen l.fn.pairs).notes later.notes (g.P.Pairs.seen l.fn.pairs).faults later.faults) (MeetsOnAnswers l.stakes l.ends l.double.answers.items s) (λ (f : ArrayVec Bounds). ArePairsFor (of_answer l.stakes l.ends) (take l.taken-index l.double.answers.items) s later.notes f.items) (Ok l.found);
    }
