use Rattle.std.proofs.Common.{◌≡◌, inl, inr, ℕ, All, get_or, subst, sym, arith}
use Rattle.std.proofs.lemmas.Bool.{cases_lt}
use Rattle.column_sums.specs.declared.moves.DieList.{DieList}
use Rattle.column_sums.specs.Listings.{LeadsInto, LeadsToCells}
use Rattle.column_sums.proofs.Listed.{kept-again, into-kept}
use Rattle.column_sums.proofs.Places.{any-default}
use Rattle.column_sums.proofs.moves.list_one_die.Goals as goal

pub loop-list-preserved : goal.loop-list-preserved
loop-list-preserved c =
    let lists = c.args.lists.now in
    let at = c.loop-list.list-index in
    let kept = c.add_after.ensures.kept in
    let here = c.loop-list-test.true in
    let item = c.list-item.result in
    record {
      kept = kept-again c.args.listing.now c.loop-list.listing c.add_after.new.self c.loop-list.invariant.kept kept;
      listed = λ i none below. elim (cases_lt i at) [
        | inl before ↦ (λ k d h. into-kept c.loop-list.listing c.add_after.new.self (get_or (get_or lists i none).reaches.items k d) kept (c.loop-list.invariant.listed i none before k d h))
        | inr last ↦ (
            let same : at ≡ i = omega (arith, last, below) in
            let is : get_or lists at item ≡ get_or lists at none = any-default lists at item none (omega (arith, here, c.requires.six)) in
            let into : All (LeadsInto c.add_after.new.self) (get_or lists at item).reaches.items = subst (All (LeadsInto c.add_after.new.self)) c.deref.ensures.value c.add_after.ensures.listed in
            subst (λ (j : ℕ). All (LeadsInto c.add_after.new.self) (get_or lists j none).reaches.items) same
            (subst (λ (l : DieList). All (LeadsInto c.add_after.new.self) l.reaches.items) is into))
      ];
      cells = λ many layers are leads. c.add_after.ensures.cells many layers (c.loop-list.invariant.cells many layers are leads)
          (subst (All (LeadsToCells many layers)) (sym c.deref.ensures.value) (leads at item here));
    }
