use Rattle.std.proofs.Common.{◌≡◌, ◌-◌, ◌++◌, length, replicate, ap, ◌∙◌, arith}
use Rattle.position_id.proofs.read.with_off.Goals as goal

pub unreachable-requires : goal.unreachable-requires
unreachable-requires c = cc (c.in_default.ensures.variant.1 (omega arith))

pub returns : goal.returns
returns c =
    let off : c.loop.counter - length c.args.mine.now ≡ length c.args.theirs.now - length c.args.mine.now = omega arith in
    c.in-Ok.ensures.ok ∙ ap (λ front. front ++ c.args.mine.now) (c.loop.invariant.off ∙ ap (λ count. replicate count 0) off)
