use Rattle.std.proofs.Common.{◌<◌, ℕ, refl, arith, zero, suc}
use Rattle.std.proofs.lemmas.Int.{ints}
use Rattle.move_rules.specs.declared.payoff.Won.{Won}
use Rattle.move_rules.specs.declared.payoff.Won.TheVariants.{Single, Gammon, Backgammon}
use Rattle.directed_fixed.specs.Bounds.{AreNoLooserPairs}
use Rattle.cube_actions.specs.Money.{cubeless}
use Rattle.cube_actions.specs.Stakes.{kind_at}
use Rattle.turn_rule.specs.Turn.{win}
use Rattle.turn_rule.specs.Truth.{IsNoLooserKind}
use Rattle.worked_examples.specs.Turns.{vague_game}
use Rattle.turn_rule.proofs.Monotone.{same-stakes}
use Rattle.worked_examples.proofs.exact.tighter_examples.Goals as goal

pub returns-clause-same : goal.returns-clause-same
returns-clause-same c = same-stakes

pub returns-clause-known_gammon : goal.returns-clause-known_gammon
returns-clause-known_gammon c = record { many = refl; bound = refl; kinds = kinds } where
  wins : (won : Won) → AreNoLooserPairs (win (kind_at cubeless 0) won) (win (kind_at vague_game 0) won)
  wins Single = record { lower = omega (arith, ints); upper = omega (arith, ints) }
  wins Gammon = record { lower = omega (arith, ints); upper = omega (arith, ints) }
  wins Backgammon = record { lower = omega (arith, ints); upper = omega (arith, ints) }

  kinds : (k : ℕ) → k < 1 → IsNoLooserKind (kind_at cubeless k) (kind_at vague_game k)
  kinds zero h = record { next = refl; wins = wins; double = tt }
  kinds (suc k) h = absurd (omega arith)

pub returns-clause-vague_gammon : goal.returns-clause-vague_gammon
returns-clause-vague_gammon c = λ tight. let short = ((tight.kinds 0 (omega arith)).wins Gammon).lower in omega (arith, ints, short)

pub returns-clause-other_doubles : goal.returns-clause-other_doubles
returns-clause-other_doubles c = λ tight. (tight.kinds 0 (omega arith)).double
