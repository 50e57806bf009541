use Rattle.std.proofs.Common.{List, get_or, sym, subst}
use Rattle.std.proofs.lemmas.Result.{MatchResult-weaker}
use Rattle.move_rules.specs.Order.{IsFirst}
use Rattle.move_rules.specs.declared.play.Entry.{Entry}
use Rattle.move_rules.proofs.FaultLaws.{beside-ok, beside-err}
use Rattle.move_rules.proofs.applied.judge.Goals as goal

-- the first entry is legal
first_legal : (c : goal.After-compare) → IsFirst c.args.position.now c.args.roll (get_or c.deref.result.now 0 c.index-deref-0.result).play.items (get_or c.deref.result.now 0 c.index-deref-0.result).end
first_legal c =
    subst (λ (xs : List Entry). IsFirst c.args.position.now c.args.roll (get_or xs 0 c.index-deref-0.result).play.items (get_or xs 0 c.index-deref-0.result).end) (sym c.deref.ensures.0) (c.plays.ensures.first 0 c.index-deref-0.result c.plays.ensures.some)

pub returns-clause-ok : goal.returns-clause-ok
returns-clause-ok c = MatchResult-weaker c.compare.result c.compare.ensures.ok (λ x h end s. beside-ok _ _ _ _ _ end c.requires.valid (first_legal c).legal h.0 h.1 s) (λ y h. tt)

pub returns-clause-err : goal.returns-clause-err
returns-clause-err c = MatchResult-weaker c.compare.result c.compare.ensures.err (λ x h. tt) (λ fault h. beside-err _ _ _ _ _ _ fault c.requires.valid (first_legal c).legal c.requires.sequence.1 h)
