use Rattle.std.proofs.Common.{ℕ, zero, suc, List, [], ◌∷◌, length, get_or, ◌<◌, arith}
use Rattle.std.proofs.lemmas.List.{length-append}
use Rattle.std.proofs.lemmas.List.Elements.{All-append}
use Rattle.column_sums.specs.Tables.{AreRow}
use Rattle.column_sums.specs.declared.best.Bests.{Bests}
use Rattle.column_turns.proofs.column_turns.empty_rows.Goals as goal

pub loop-preserved : goal.loop-preserved
loop-preserved c =
    let rows = c.loop.rows.items in
    let row = c.in_ok-new.field-0 in
    let before = c.loop.invariant in
    rw c.in_ok-push.ensures.items (record {
      many = omega (arith, length-append rows (row ∷ []), before.many);
      each = All-append AreRow rows (row ∷ []) before.each (λ k none below. first row k none below c.in_ok-new.ensures);
    })
  where
    first : (row : List Bests) (k : ℕ) (none : List Bests) → k < length (row ∷ []) → AreRow row → AreRow (get_or (row ∷ []) k none)
    first row zero none below is = is
    first row (suc k) none below is = absurd (omega (arith, below))
