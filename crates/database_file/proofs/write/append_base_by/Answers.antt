use Rattle.std.proofs.Common.{◌≡◌, ◌∙◌, ◌<◌, All, length, sym, ap, subst, arith}
use Rattle.cube_actions.specs.Names.{names_of}
use Rattle.turn_rule.specs.declared.game.Game.{Game}
use Rattle.outside_log.proofs.Logs.{added-then, failed}
use Rattle.word_pages.specs.Words.{Fits}
use Rattle.word_pages.specs.Pages.{pages_text}
use Rattle.base_head.specs.Fronts.{front_text, head_digest}
use Rattle.database_file.specs.Texts.{file_text, words_a_page}
use Rattle.database_file.proofs.Words.{right-fit}
use Rattle.database_file.proofs.write.append_base_by.Goals as goal

pub append_pages_by-requires-clause-some : goal.append_pages_by-requires-clause-some
append_pages_by-requires-clause-some g c κs _ =
    let some : 0 < length c.args.words.now.game.stakes.kinds = c.right.ensures.game.stakes.some in
    let kinds : length c.args.words.now.game.stakes.kinds ≡ c.kinds.result = ap (λ (game : Game). length game.stakes.kinds) c.requires.words.game ∙ sym c.kinds.ensures.of_stakes in
    omega (arith, some, kinds)

pub append_pages_by-requires-clause-fit : goal.append_pages_by-requires-clause-fit
append_pages_by-requires-clause-fit g c κs _ =
    subst (All (Fits c.args.version)) (sym c.list.ensures) (right-fit c.args.version c.args.words.now c.right.ensures.game c.right.ensures.right)

pub returns-in_err-digest : goal.returns-in_err-digest
returns-in_err-digest g c =
    let err = c.in_err-digest.ensures.adds in
    failed c.args.name.now (file_text c.args.version c.args.head.now c.args.words.now.list) (g.F.Files.log c.args.files.now) (g.F.Files.log c.append_front.new.files)
    c.from_residual.result c.from_residual.ensures.0 err.leaves err.cause.later err.cause.failed

pub returns : goal.returns
returns g c =
    let pages = rw (c.kinds.ensures.kinds, c.list.ensures, c.in_ok-digest.ensures.digest) at c.append_pages_by.ensures in
    added-then c.args.name.now (front_text c.args.version c.args.head.now) (pages_text c.args.version (head_digest c.args.version c.args.head.now) (words_a_page (length (names_of c.args.head.now.name))) c.args.words.now.list)
    (g.F.Files.log c.args.files.now) (g.F.Files.log c.append_front.new.files) (g.F.Files.log c.append_pages_by.new.files) c.append_pages_by.result c.in_ok-digest.ensures.adds.adds pages
