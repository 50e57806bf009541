-- Stakes that are no match are valid, with a name for each kind.
use Rattle.std.proofs.Common.{rules}
use Rattle.cube_actions.specs.declared.name.MoneyRule.{MoneyRule}
use Rattle.cube_actions.specs.declared.name.MoneyRule.TheVariants.{Cubeless}
use Rattle.cube_actions.specs.Money.{unlimited}
use Rattle.cube_actions.specs.Names.{AreStakes}

pub unlimited-stakes : (rule : MoneyRule) → AreStakes (unlimited rule)
unlimited-stakes Cubeless = search rules
unlimited-stakes _ = search rules
