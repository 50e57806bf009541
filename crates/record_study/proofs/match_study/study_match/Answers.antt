use Rattle.std.proofs.Common.{◌≡◌, ◌∙◌, None, refl, ap}
use Rattle.std.proofs.lemmas.List.Elements.{All-map}
use Rattle.record_analysis.specs.Analyses.{unjudged}
use Rattle.record_analysis.specs.declared.analysis.Judged.{Judged}
use Rattle.record_study.specs.Keeping.{IsDecisionInMatch, decisions_in}
use Rattle.record_study.proofs.Records.{in-match}
use Rattle.record_study.proofs.Matches.{match-studied, unjudged-decisions}
use Rattle.record_study.proofs.match_study.study_match.Goals as goal

pub new-keep-requires-clause-decisions : goal.new-keep-requires-clause-decisions
new-keep-requires-clause-decisions g c =
    rw c.in_ok-analysis.ensures
    (All-map (λ (one : Judged). IsDecisionInMatch c.args.rec.now.checkers c.args.match_length one.decision) unjudged c.args.decisions
    (in-match c.right_decisions_can_be_judged.ensures c.args.rec.now c.args.match_length c.requires.in_match c.args.decisions c.requires.right))

pub new-keep-requires-clause-fresh : goal.new-keep-requires-clause-fresh
new-keep-requires-clause-fresh g c =
    rw c.in_ok-analysis.ensures (All-map (λ (one : Judged). one.loss ≡ None) unjudged c.args.decisions (λ i d below. refl))

pub returns-in-Ok : goal.returns-in-Ok
returns-in-Ok g c =
    let judged = c.solve_ladder.new.keep in
    let same = c.solve_ladder.ensures.hands.same in
    let starts = c.in-Ok.starts in
    let decisions : decisions_in judged.list ≡ c.args.decisions = c.solve_ladder.ensures.stays ∙ ap decisions_in c.new-keep.ensures.list ∙ ap decisions_in c.in_ok-analysis.ensures ∙ unjudged-decisions c.args.decisions in
    rw c.into_analysis.ensures.list
    (match-studied c.solved_ladders_are_true_and_tight.ensures c.enclosing_starts_bound_the_payoffs.ensures c.ladders_are_exact.ensures.scores c.ladders_are_exact.ensures.order
    c.args.rec.now c.requires.valid c.args.match_length c.args.rounds judged starts c.match_length-length.ensures.valid c.in-Ok.ensures.kept.held
    (same.checkers ∙ c.new-keep.ensures.checkers) (same.rounds ∙ c.new-keep.ensures.rounds) c.in-Ok.ensures.whole.of_length c.in-Ok.ensures.whole.whole
    c.into_analysis.ensures.judged c.args.decisions decisions)
