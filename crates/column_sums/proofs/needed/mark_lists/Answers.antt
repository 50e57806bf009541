use Rattle.std.proofs.Common.{◌≡◌, inl, inr, ℕ, All, get_or, subst, sym, arith}
use Rattle.std.proofs.lemmas.Bool.{cases_lt}
use Rattle.column_sums.specs.declared.moves.DieList.{DieList}
use Rattle.column_sums.specs.Needed.{LeadsToNeeded}
use Rattle.column_sums.specs.Tables.{IsReachWithin}
use Rattle.column_sums.proofs.Marks.{still-same, still-again, leads-still}
use Rattle.column_sums.proofs.Places.{any-default}
use Rattle.column_sums.proofs.needed.mark_lists.Goals as goal

pub loop-list-init : goal.loop-list-init
loop-list-init c = record { ends = λ i none below. absurd (omega (arith, below)); kept = still-same c.args.needed.now }

pub mark_ends-requires-clause-within : goal.mark_ends-requires-clause-within
mark_ends-requires-clause-within c = subst (All IsReachWithin) (sym c.deref.ensures.value) (c.requires.within c.loop-list.list-index c.list-item.result (omega (arith, c.loop-list-test.true, c.requires.six)))

pub loop-list-preserved : goal.loop-list-preserved
loop-list-preserved c =
    let lists = c.args.lists.now in
    let at = c.loop-list.list-index in
    let item = c.list-item.result in
    let before = c.loop-list.invariant in
    let old = c.loop-list.needed in
    let new = c.mark_ends.new.needed in
    let kept = c.mark_ends.ensures.kept in
    record {
      ends = λ i none below. elim (cases_lt i at) [
        | inl earlier ↦ (λ k d h. leads-still old new (get_or (get_or lists i none).reaches.items k d) kept (before.ends i none earlier k d h))
        | inr last ↦ (
            let same : at ≡ i = omega (arith, last, below) in
            let is : get_or lists at item ≡ get_or lists at none = any-default lists at item none (omega (arith, c.loop-list-test.true, c.requires.six)) in
            let ends : All (LeadsToNeeded new) (get_or lists at item).reaches.items = subst (All (LeadsToNeeded new)) c.deref.ensures.value c.mark_ends.ensures.ends in
            subst (λ (j : ℕ). All (LeadsToNeeded new) (get_or lists j none).reaches.items) same
            (subst (λ (l : DieList). All (LeadsToNeeded new) l.reaches.items) is ends))
      ];
      kept = still-again c.args.needed.now old new before.kept kept;
    }
