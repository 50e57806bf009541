use Rattle.std.proofs.Common.{◌<◌, sym, subst, arith}
use Rattle.std.proofs.lemmas.Result.{err_from_is_err_and}
use Rattle.position_rank.specs.LiveRanks.{live_positions}
use Rattle.base_verify.specs.Checks.{ArePartsTold, word_place}
use Rattle.base_verify.proofs.Whole.{all-hold, first-of-all}
use Rattle.base_verify.proofs.Marks.{all-columns}
use Rattle.base_verify.proofs.consistency.verify_words.Goals as goal

pub returns-in_err-told : goal.returns-in_err-told
returns-in_err-told g c =
    let p = err_from_is_err_and c.from_residual-in_err-told.result c.from_residual-in_err-told.ensures.1 in
    rw (p.1, p.2) tt

pub returns-in-Some : goal.returns-in-Some
returns-in-Some g c =
    let words = c.args.words.now in
    let some : 0 < c.args.team.now = omega arith in
    let are = subst (ArePartsTold words c.args.team.now) (sym c.deref.ensures.value) c.in_ok-told.ensures in
    first-of-all words (word_place words (live_positions words.game.checkers)) c.in-Some.finding (c.in-Some.ensures words c.args.team.now some are)

pub returns : goal.returns
returns g c =
    let words = c.args.words.now in
    let some : 0 < c.args.team.now = omega arith in
    let are = subst (ArePartsTold words c.args.team.now) (sym c.deref.ensures.value) c.in_ok-told.ensures in
    all-hold words (c.in-None.ensures words c.args.team.now some are)

pub returns-then-branch : goal.returns-then-branch
returns-then-branch g c = all-columns c.args.words.now (c.in_ok-words_hold.ensures c.if-branch.true)
