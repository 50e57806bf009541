use Rattle.base_verify.specs.Findings.{HoldBetween}
use Rattle.base_verify.specs.Checks.{word_place}
use Rattle.base_verify.proofs.states.part_finding.Given as goal

abbrev pub invariant-loop-rank : goal.invariant-loop-rank
invariant-loop-rank l = HoldBetween l.words (word_place l.words l.from) (word_place l.words l.rank)
