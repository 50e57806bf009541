use Rattle.std.proofs.Common.{arith, subst, ◌<◌, ℕ}
use Rattle.block_claims.specs.Views.{times}
use Rattle.block_claims.proofs.laws.lost_blocks_are_claimed.Goals as goal

pub returns : goal.returns
returns c = λ view block round word moment low above. record {
  later = word;
  no_earlier = above;
  claimed = (
      let claimed = moment.kept.claimed block (omega (arith, low, above, moment.word_is)) in
      subst (λ (n : ℕ). 0 < times block n moment.core.views) moment.word_is claimed);
}
