use Rattle.std.proofs.Common.{◌≡◌, true, false, sum, ap, sym, ◌∙◌, rules}
use Rattle.position_rank.specs.Placement.{Placement}
use Rattle.position_rank.specs.Packed.{counts_of}
use Rattle.position_rank.proofs.PlaceCounts.{sum-counts_of}
use Rattle.position_text.specs.Text.{all_off}
use Rattle.position_text.proofs.TextPlacements.{live-told}
use Rattle.position_text.proofs.text.set_up.Goals as goal

pub returns-in_err-position-clause-placement : goal.returns-in_err-position-clause-placement
returns-in_err-position-clause-placement c =
    let mover : c.in_ok-mover.mover ≡ counts_of c.args.mover.now = search rules in
    let other : c.in_ok-other.other ≡ counts_of c.args.other.now = search rules in
    let same : sum c.in_ok-mover.mover ≡ sum c.in_ok-other.other = rw (mover, other) (sum-counts_of c.args.mover.now c.requires.mover ∙ (c.if-mover-other.false ∙ sym (sum-counts_of c.args.other.now c.requires.other))) in
    let some = c.new.ensures.same.1 same in
    let clash : false ≡ true = (rw c.in_err-position.was at c.ok_or.ensures.variant) ∙ some in
    absurd (cc)

pub returns-clause-live : goal.returns-clause-live
returns-clause-live c =
    let at : c.in_ok-position.position ≡ record { mover = c.in_ok-mover.mover; other = c.in_ok-other.other } = search rules in
    live-told c.in_ok-position.position (sym c.sides_share_point.ensures ∙ c.if-sides_share_point.false)
    (ap (λ (p : Placement). all_off p.mover) at ∙ (sym c.is_off.ensures ∙ c.if-is_off.false))
    (ap (λ (p : Placement). all_off p.other) at ∙ (sym c.is_off-else-is_off.ensures ∙ c.if-is_off-2.false))
