use Rattle.std.proofs.Common.{◌^◌, ℤ, pos, List, All, sym, subst, arith}
use Rattle.std.proofs.lemmas.Int.{ints}
use Rattle.std.proofs.lemmas.List.Elements.{All-replicate}
use Rattle.directed_fixed.specs.Bounds.{IsWithinUnits}
use Rattle.column_turns.proofs.column_turns.zeros.Goals as goal

small : IsWithinUnits (pos (2 ^ 42)) (pos 0)
small = record { from = omega (arith, ints); to = omega (arith, ints) }

pub returns-clause-small : goal.returns-clause-small
returns-clause-small c =
    let each : IsWithinUnits (pos (2 ^ 42)) c.whole.result = rw c.whole.ensures small in
    subst (λ (values : List ℤ). All (IsWithinUnits (pos (2 ^ 42))) values) (sym (c.in_ok-values.ensures.items_if_clones_equal (λ y same. same)))
    (All-replicate (IsWithinUnits (pos (2 ^ 42))) c.args.count c.whole.result each)
