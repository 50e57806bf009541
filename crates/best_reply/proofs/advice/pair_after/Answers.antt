use Rattle.std.proofs.Common.{◌∙◌, sym, ap}
use Rattle.directed_fixed.specs.Bounds.{negated}
use Rattle.best_reply.specs.Tables.{words_by}
use Rattle.best_reply.proofs.OutcomeLemmas.{pair-goes_on, pair-won}
use Rattle.best_reply.proofs.advice.pair_after.Goals as goal

pub pair-requires : goal.pair-requires
pair-requires c = rw c.rank.ensures (c.requires (sym c.in-None.ensures))

pub returns-in-Some : goal.returns-in-Some
returns-in-Some c = λ end is. pair-won c.args.kind.now (words_by c.args.bank.now) end c.args.outcome c.in-Some.won c.win_of.result is (sym c.in-Some.ensures) c.win_of.ensures

pub returns-in-None : goal.returns-in-None
returns-in-None c = λ end is. pair-goes_on c.args.kind.now c.args.bank.now end c.args.outcome c.rank.result c.neg.result is (sym c.in-None.ensures) c.rank.ensures (c.neg.ensures ∙ ap negated c.pair.ensures)
