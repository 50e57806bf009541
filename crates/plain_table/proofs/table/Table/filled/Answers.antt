use Rattle.std.proofs.Common.{◌*◌, ◌∙◌, ℕ, List, replicate, ap}
use Rattle.directed_fixed.specs.Bounds.{Bounds}
use Rattle.plain_table.specs.Tables.{PairTable}
use Rattle.plain_table.proofs.table.Table.filled.Goals as goal

pub returns : goal.returns
returns c =
    let table = λ (pairs : List Bounds). let of_these : PairTable = record { checkers = c.args.checkers; kinds = c.args.kinds; pairs = pairs } in of_these in
    ap table (c.in_ok-pairs.ensures.items_if_clones_equal (λ y same. same) ∙ ap (λ (n : ℕ). replicate (n * n * c.args.kinds) c.args.pair) c.layout_count-layouts.ensures.count)
