use Rattle.std.proofs.Common.{List, ℕ, subst}
use Rattle.column_sums.specs.AfterHits.{AreLayers}
use Rattle.column_sums.proofs.LayerMoves.{end-layer}
use Rattle.column_sums.proofs.layers.Layers.count.Goals as goal

pub returns-clause-closed : goal.returns-clause-closed
returns-clause-closed c = λ p roll q right is legal.
    end-layer c.args.self.now c.self.inside.next (subst (λ (xs : List (List ℕ)). AreLayers xs c.self.inside.next) c.self.view_is c.self.invariant.layers) p roll q right is legal
