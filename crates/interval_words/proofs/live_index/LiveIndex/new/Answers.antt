use Rattle.std.proofs.Common.{◌≡◌, ◌*◌, ◌∙◌, ℕ, length, arith, sym, subst}
use Rattle.std.specs.Vec.{vec_len}
use Rattle.position_rank.specs.Ranks.{layouts}
use Rattle.position_rank.specs.LiveRanks.{live_below}
use Rattle.position_rank.proofs.LiveLaws.{live_below-none}
use Rattle.interval_words.proofs.live_index.LiveIndex.new.Goals as goal

pub loop-row-init : goal.loop-row-init
loop-row-init c =
    let below = c.in_ok-below.below in
    let many = c.all_other_points-others.ensures.many in
    let long : length below.items ≡ vec_len below = omega (arith, below.ok.0) in
    let none : 0 * layouts c.args.checkers ≡ 0 = omega arith in
    record {
      room = long ∙ c.in_ok-below.ensures.len ∙ (λ i. (c.len.ensures.value ∙ many) i * (c.len-2.ensures.value ∙ many) i);
      counted = λ before less. absurd (omega (arith, less, none));
      live = sym (subst (λ (n : ℕ). live_below c.args.checkers n ≡ 0) (sym none) (live_below-none c.args.checkers));
    }
