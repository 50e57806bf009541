use Rattle.std.proofs.Common.{◌≡◌, ◌<◌, ◌∙◌, None, length, sym, ap, arith}
use Rattle.move_rules.specs.Payoff.{points}
use Rattle.directed_fixed.specs.Bounds.{negated}
use Rattle.cube_actions.specs.Stakes.{Terms}
use Rattle.turn_rule.specs.Games.{kinds_of}
use Rattle.best_reply.proofs.Lefts.{left-over, over-inside, small-place}
use Rattle.best_reply.proofs.roll_lefts.left_over.Goals as goal

pub overflow_mul-first : goal.overflow_mul-first
overflow_mul-first c =
    let left = c.args.left.now in
    let on : points left.end ≡ None = sym c.requires.right.won ∙ c.in-None.is in
    let kinds : c.kinds.result ≡ kinds_of c.args.words.now.game = c.kinds.ensures.kinds ∙ ap (λ (s : Terms). length s.kinds) c.stakes.ensures in
    let next : c.args.kind.now.next < c.kinds.result = omega (arith, kinds, (c.requires.state on).kind) in
    omega (arith, small-place left.rank c.kinds.result c.args.kind.now.next c.requires.right.small c.kinds.ensures.few next)

pub overflow_add-first : goal.overflow_add-first
overflow_add-first c =
    let left = c.args.left.now in
    let on : points left.end ≡ None = sym c.requires.right.won ∙ c.in-None.is in
    let kinds : c.kinds.result ≡ kinds_of c.args.words.now.game = c.kinds.ensures.kinds ∙ ap (λ (s : Terms). length s.kinds) c.stakes.ensures in
    let next : c.args.kind.now.next < c.kinds.result = omega (arith, kinds, (c.requires.state on).kind) in
    omega (arith, small-place left.rank c.kinds.result c.args.kind.now.next c.requires.right.small c.kinds.ensures.few next)

pub pair_at-requires : goal.pair_at-requires
pair_at-requires c =
    let left = c.args.left.now in
    let on : points left.end ≡ None = sym c.requires.right.won ∙ c.in-None.is in
    let kinds : c.kinds.result ≡ kinds_of c.args.words.now.game = c.kinds.ensures.kinds ∙ ap (λ (s : Terms). length s.kinds) c.stakes.ensures in
    over-inside c.args.kind.now c.args.words.now left c.kinds.result kinds (c.requires.right.rank on) (c.requires.state on)

pub returns-in-None : goal.returns-in-None
returns-in-None c =
    let left = c.args.left.now in
    let on : points left.end ≡ None = sym c.requires.right.won ∙ c.in-None.is in
    let kinds : c.kinds.result ≡ kinds_of c.args.words.now.game = c.kinds.ensures.kinds ∙ ap (λ (s : Terms). length s.kinds) c.stakes.ensures in
    left-over c.args.kind.now c.args.words.now left c.neg.result c.kinds.result kinds on (c.requires.right.rank on) (c.neg.ensures ∙ ap negated c.pair_at.ensures.pair)
