use Rattle.std.proofs.Common.{◌≡◌, ◌∙◌, sum, refl, sym, ap}
use Rattle.base_head.specs.Heads.{FileHead}
use Rattle.equity_report.specs.declared.text.GameName.{GameName}
use Rattle.run_endings.specs.Loads.{game_told}
use Rattle.base_commands.proofs.ListLaws.{other-told, rows-told, stop-told}
use Rattle.outside_log.specs.Log.{standing}
use Rattle.base_commands.proofs.show_list.show_position.Goals as goal

pub returns-then-wanted-game-clause-told : goal.returns-then-wanted-game-clause-told
returns-then-wanted-game-clause-told g c told =
    let base = c.args.base.now in
    let game : c.game_told-game.result ≡ game_told base.head = c.game_told-game.ensures ∙ ap (λ (h : FileHead). game_told h) c.head.ensures.head in
    let wanted = c.checkers-wanted.ensures.checkers in
    other-told c.args.position.now (standing (g.F.Files.log c.args.files.now) base.name) base _
    (record { other = λ same. c.if-wanted-game.true (wanted ∙ sym same ∙ sym (ap (λ (n : GameName). n.checkers) game)); line = rw (wanted, game) refl })

pub returns-in-Ok-clause-told : goal.returns-in-Ok-clause-told
returns-in-Ok-clause-told g c told =
    let base = c.args.base.now in
    let game : c.game_told-game.result ≡ game_told base.head = c.game_told-game.ensures ∙ ap (λ (h : FileHead). game_told h) c.head.ensures.head in
    let fits : sum c.args.position.now.mover ≡ base.head.checkers = sym c.checkers-wanted.ensures.checkers ∙ c.if-wanted-game.false ∙ ap (λ (n : GameName). n.checkers) game in
    rows-told c.args.position.now (standing (g.F.Files.log c.args.files.now) base.name) base c.in-Ok.rows c.head.ensures.valid c.head.ensures.checkers c.head.ensures.name c.requires.position c.requires.live fits (c.in-Ok.ensures.told told)

pub returns-in-Err-clause-told : goal.returns-in-Err-clause-told
returns-in-Err-clause-told g c told =
    let base = c.args.base.now in
    let game : c.game_told-game.result ≡ game_told base.head = c.game_told-game.ensures ∙ ap (λ (h : FileHead). game_told h) c.head.ensures.head in
    let fits : sum c.args.position.now.mover ≡ base.head.checkers = sym c.checkers-wanted.ensures.checkers ∙ c.if-wanted-game.false ∙ ap (λ (n : GameName). n.checkers) game in
    stop-told c.args.position.now (standing (g.F.Files.log c.args.files.now) base.name) base c.in-Err.stop c.stop_answer.result fits (c.in-Err.ensures.told told) c.stop_answer.ensures.answer
