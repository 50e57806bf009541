use Rattle.std.proofs.Common.{◌∙◌, ap, sym, subst}
use Rattle.std.proofs.lemmas.Bool.{false≢true}
use Rattle.cube_actions.specs.Stakes.{IsValid}
use Rattle.turn_rule.specs.Games.{IsGame}
use Rattle.base_head.specs.Heads.{FileHead, IsHead, stakes_of}
use Rattle.database_file.specs.Texts.{game_in}
use Rattle.outside_log.specs.Log.{standing}
use Rattle.run_endings.specs.Loads.{game_told}
use Rattle.record_commands.proofs.ByFile.{another-game, opened-for}
use Rattle.record_commands.proofs.by_file.open_for.Goals as goal

pub returns-then-is_wanted-clause-told : goal.returns-then-is_wanted-clause-told
returns-then-is_wanted-clause-told g c told =
    let base = c.in-Ok.base in
    let head : IsHead base.head = subst IsHead c.head-2.ensures.head c.checkers.ensures.valid in
    let game : IsGame (game_in base.head) = record { low = head.some; high = head.few; stakes = subst IsValid (c.stakes.ensures.stakes ∙ ap stakes_of c.head-3.ensures.head) c.bound.ensures.valid } in
    opened-for c.args.wanted base (standing (g.F.Files.log c.args.files.now) c.args.name.now) (c.in-Ok.ensures.told told) c.head.ensures.valid c.head.ensures.checkers c.head.ensures.name head game
    (sym (c.game_told-found.ensures ∙ ap (λ (h : FileHead). game_told h) c.head.ensures.head) ∙ c.is_wanted.ensures.0 c.if-is_wanted.true)

pub returns-else-is_wanted-clause-told : goal.returns-else-is_wanted-clause-told
returns-else-is_wanted-clause-told g c told =
    another-game c.args.wanted c.in-Ok.base c.args.name.now (standing (g.F.Files.log c.args.files.now) c.args.name.now) c.game_told-found.result (c.in-Ok.ensures.told told) (subst IsHead c.head-2.ensures.head c.checkers.ensures.valid)
    (c.game_told-found.ensures ∙ ap (λ (h : FileHead). game_told h) c.head.ensures.head) (λ same. false≢true (sym c.if-is_wanted.false ∙ c.is_wanted.ensures.1 same))
