use Rattle.std.proofs.Common.{ℕ, List, refl, subst}
use Rattle.base_scan.specs.Sides.{IsSideOf}
use Rattle.base_scan.proofs.Numbered.{is-seen}
use Rattle.base_scan.proofs.numbers.meets.Goals as goal

pub meets_with-requires : goal.meets_with-requires
meets_with-requires c =
    let words = c.args.words.now in
    let p = c.args.position.now in
    is-seen words p c.args.kind c.first_state.result _ c.requires (c.states_are_numbered.ensures.below words.game p c.args.kind c.requires) c.first_state.ensures.first refl refl refl
    (subst (λ (counts : List ℕ). IsSideOf counts c.of.result) c.mover.ensures.mover c.of.ensures)
    (subst (λ (counts : List ℕ). IsSideOf counts c.of-2.result) c.other.ensures.other c.of-2.ensures)
