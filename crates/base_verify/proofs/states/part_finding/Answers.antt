use Rattle.std.proofs.Common.{◌∙◌, ap}
use Rattle.position_rank.specs.LiveRanks.{live_rank_of}
use Rattle.base_verify.proofs.Parts.{rank-found}
use Rattle.base_verify.proofs.states.part_finding.Goals as goal

pub returns-in-Some : goal.returns-in-Some
returns-in-Some c =
    rank-found c.args.words.now c.args.from c.loop-rank.rank c.args.to c.fill.new.self c.in-Some.finding (ap live_rank_of c.fill.ensures ∙ c.unrank-position.ensures.rank)
    c.loop-rank.auto.rank c.loop-rank-test.true c.loop-rank.invariant c.in-Some.ensures
