use Rattle.std.proofs.Common.{Result, Ok, Err}
use Rattle.std.specs.Prelude.{IfOk}
use Rattle.game_record.specs.declared.record.Record.{Record}
use Rattle.record_maker.specs.Makers.{IsDrawn}
use Rattle.record_maker.proofs.Measures.{drawn-record}
use Rattle.record_maker.proofs.draw.make_record.Goals as goal

-- what holds of a value that was answered, follows
then-ok : {E : Type 0} (result : Result Record E) (P Q : Record → Type 0) → ((rec : Record) → P rec → Q rec) → IfOk result P → IfOk result Q
then-ok (Ok rec) P Q follows is = follows rec is
then-ok (Err e) P Q follows is = tt

pub returns-clause-made : goal.returns-clause-made
returns-clause-made c = then-ok c.draw_record.result (IsDrawn c.args.number c.args.games) _ (λ rec drawn. drawn.made) c.draw_record.ensures

pub returns-clause-valid : goal.returns-clause-valid
returns-clause-valid c = then-ok c.draw_record.result (IsDrawn c.args.number c.args.games) _ (λ rec drawn. (drawn-record c.args.number c.args.games rec c.requires.from drawn).valid) c.draw_record.ensures

pub returns-clause-short : goal.returns-clause-short
returns-clause-short c = then-ok c.draw_record.result (IsDrawn c.args.number c.args.games) _ (λ rec drawn. (drawn-record c.args.number c.args.games rec c.requires.from drawn).size) c.draw_record.ensures

pub returns-clause-replays : goal.returns-clause-replays
returns-clause-replays c = then-ok c.draw_record.result (IsDrawn c.args.number c.args.games) _ (λ rec drawn. c.made_records_break_no_rule.ensures c.args.number c.args.games rec drawn.made) c.draw_record.ensures
