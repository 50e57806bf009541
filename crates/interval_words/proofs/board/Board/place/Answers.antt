use Rattle.std.proofs.Common.{ap, arith}
use Rattle.directed_fixed.specs.declared.bounds.End.TheVariants.{Lower, Upper}
use Rattle.interval_words.specs.Core.{words_in}
use Rattle.interval_words.proofs.Calls.{place-in}
use Rattle.interval_words.proofs.board.Board.place.Goals as goal

pub overflow_mul-result : goal.overflow_mul-result
overflow_mul-result c = omega (arith, place-in _ Lower c.args.state c.requires, ap (λ b. words_in b.game) c.self.view_is, c.self.invariant.small)

pub overflow_mul-result-in-Upper : goal.overflow_mul-result-in-Upper
overflow_mul-result-in-Upper c = omega (arith, place-in _ Lower c.args.state c.requires, ap (λ b. words_in b.game) c.self.view_is, c.self.invariant.small)

pub overflow_add-result : goal.overflow_add-result
overflow_add-result c = omega (arith, place-in _ Lower c.args.state c.requires, ap (λ b. words_in b.game) c.self.view_is, c.self.invariant.small)

pub returns-in-Lower-clause-below : goal.returns-in-Lower-clause-below
returns-in-Lower-clause-below c = omega (arith, place-in _ Lower c.args.state c.requires, ap (λ b. words_in b.game) c.self.view_is, ap (λ b. b.table.words) c.self.view_is, c.self.invariant.wide)

pub returns-in-Upper-clause-below : goal.returns-in-Upper-clause-below
returns-in-Upper-clause-below c = omega (arith, place-in _ Upper c.args.state c.requires, ap (λ b. words_in b.game) c.self.view_is, ap (λ b. b.table.words) c.self.view_is, c.self.invariant.wide)
