use Rattle.std.proofs.Common.{◌≡◌, ◌∙◌, ℕ, List, Option, Err, inl, inr, sum, refl, sym, ap}
use Rattle.base_head.specs.Heads.{FileHead}
use Rattle.base_head.specs.declared.header.Header.{Header}
use Rattle.equity_report.specs.declared.text.GameName.{GameName}
use Rattle.run_endings.specs.Loads.{game_told}
use Rattle.run_endings.specs.Games.{WantsCheckers}
use Rattle.base_commands.specs.Shows.{AnswersRows}
use Rattle.base_commands.proofs.Fitting.{moved, opened-other}
use Rattle.base_commands.proofs.ShowLaws.{not-found, shown-told}
use Rattle.outside_log.specs.Log.{standing}
use Rattle.outside_log.proofs.Readings.{reads-before, reads-both, reads-file}
use Rattle.base_commands.proofs.show.look_up.Goals as goal

pub returns-then-wanted-game-clause-told : goal.returns-then-wanted-game-clause-told
returns-then-wanted-game-clause-told g c told =
    let task = c.args.task.now in
    let base = c.in_ok-base.base in
    let game : c.game_told-game.result ≡ game_told base.head = c.game_told-game.ensures ∙ ap (λ (h : FileHead). game_told h) c.head.ensures.head in
    let wanted = c.checkers-wanted.ensures.checkers in
    inl (inr (opened-other (WantsCheckers task.position) (standing (g.F.Files.log c.args.files.now) task.file) base _ (rw (c.as_str-name.ensures) at c.in_ok-base.ensures.told told)
    (record { other = λ same. c.if-wanted-game.true (wanted ∙ sym same ∙ sym (ap (λ (n : GameName). n.checkers) game)); line = rw (wanted, game) refl })))

pub returns-in-Ok-clause-told : goal.returns-in-Ok-clause-told
returns-in-Ok-clause-told g c =
    let base = c.in_ok-base.base in
    let game : c.game_told-game.result ≡ game_told base.head = c.game_told-game.ensures ∙ ap (λ (h : FileHead). game_told h) c.head.ensures.head in
    let fits : sum c.args.task.now.position.mover ≡ base.head.checkers = sym c.checkers-wanted.ensures.checkers ∙ c.if-wanted-game.false ∙ ap (λ (n : GameName). n.checkers) game in (
      base.head,
      record { game = game; rounds = c.rounds-rounds.ensures.rounds ∙ ap (λ (h : FileHead). h.rounds) c.head-2.ensures.head },
      λ told. shown-told c.args.task.now.position (standing (g.F.Files.log c.args.files.now) c.args.task.now.file) base c.in-Ok.rows
          (rw (c.as_str-name.ensures) at c.in_ok-base.ensures.told (reads-before c.rows_of.ensures.reads told)) c.head.ensures.valid c.head.ensures.checkers c.head.ensures.name c.requires.position c.requires.live fits
          (rw (c.in_ok-base.ensures.name, c.as_str-name.ensures, reads-file c.in_ok-base.ensures.reads c.args.task.now.file) at c.in-Ok.ensures.told told),
    )

pub returns-clause-told : goal.returns-clause-told
returns-clause-told g c told =
    let task = c.args.task.now in
    let base = c.in_ok-base.base in
    let game : c.game_told-game.result ≡ game_told base.head = c.game_told-game.ensures ∙ ap (λ (h : FileHead). game_told h) c.head.ensures.head in
    let fits : sum task.position.mover ≡ base.head.checkers = sym c.checkers-wanted.ensures.checkers ∙ c.if-wanted-game.false ∙ ap (λ (n : GameName). n.checkers) game in
    let stop = c.in-Err.stop in
    rw (c.look_refusal.ensures.tells)
    (not-found task (standing (g.F.Files.log c.args.files.now) task.file) base stop (rw (c.as_str-name.ensures) at c.in_ok-base.ensures.told (reads-before c.rows_of.ensures.reads told)) fits
    (moved (λ (h : Header) (f : Option (List ℕ)). AnswersRows h f task.position (Err stop)) base.header base.header base.name task.file (standing (g.F.Files.log c.args.files.now)) (standing (g.F.Files.log c.open_file.new.files)) refl
    (c.in_ok-base.ensures.name ∙ c.as_str-name.ensures) (reads-file c.in_ok-base.ensures.reads task.file) (c.in-Err.ensures.told told)))

pub returns-in-Ok-clause-reads : goal.returns-in-Ok-clause-reads
returns-in-Ok-clause-reads g c = reads-both _ _ _ c.open_file.ensures.reads c.rows_of.ensures.reads

pub returns-clause-reads : goal.returns-clause-reads
returns-clause-reads g c = reads-both _ _ _ c.open_file.ensures.reads c.rows_of.ensures.reads
