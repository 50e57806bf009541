use Rattle.std.proofs.Common.{◌≡◌, ◌<◌, ◌*◌, arith, ◌∙◌, ap}
use Rattle.position_rank.specs.Ranks.{layouts}
use Rattle.position_rank.specs.LiveRanks.{live_below}
use Rattle.position_rank.proofs.LiveLaws.{live_below-none}
use Rattle.interval_words.proofs.IndexLemmas.{above-none}
use Rattle.interval_words.proofs.live_index.LiveIndex.square.Goals as goal

pub loop-high-init : goal.loop-high-init
loop-high-init c =
    let many : c.len-high.result ≡ layouts c.args.self.now * layouts c.args.self.now = c.len-high.ensures ∙ (c.self.inside.below.ok.0 ∙ (c.self.invariant.many ∙ ap (λ n. layouts n * layouts n) c.self.view_is)) in
    let all : c.args.rank < live_below c.args.self.now c.len-high.result = rw many c.requires in
    record {
      apart = above-none c.args.self.now c.args.rank c.len-high.result all;
      inside = omega (arith, c.len-high.ensures, c.self.inside.below.ok.0);
      from = omega (arith, live_below-none c.args.self.now);
      to = all;
    }
