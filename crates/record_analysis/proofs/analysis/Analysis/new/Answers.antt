use Rattle.std.proofs.Common.{arith}
use Rattle.std.proofs.lemmas.List.{length-map}
use Rattle.std.proofs.lemmas.List.Elements.{All-map}
use Rattle.record_analysis.specs.Analyses.{BestCanBeMade, IsSmallJudged, unjudged}
use Rattle.record_analysis.proofs.analysis.Analysis.new.Goals as goal

pub invariant_of-result : goal.invariant_of-result
invariant_of-result c =
    rw c.in_ok-list.ensures (record {
      few = omega (arith, length-map c.args.decisions unjudged, c.requires);
      small = All-map IsSmallJudged unjudged c.args.decisions (λ k d below. tt);
      made = All-map BestCanBeMade unjudged c.args.decisions (λ k d below. tt);
    })
