use Rattle.std.proofs.Common.{length}
use Rattle.record_text.specs.Drafts.{ReadsLines}
use Rattle.record_text.proofs.read.read_text.Given as goal

abbrev pub invariant-loop-line : goal.invariant-loop-line
invariant-loop-line l = ReadsLines l.text l.stage l.draft l.number l.rest

abbrev pub decreases-loop-line : goal.decreases-loop-line
decreases-loop-line l = length l.rest
