use Rattle.std.proofs.Common.{List, Ok, Err, subst}
use Rattle.std.specs.List.{flat_map}
use Rattle.std.proofs.lemmas.Result.{err_from_is_err_and}
use Rattle.outside_log.specs.Sink.{Puts}
use Rattle.hyper_outside.specs.declared.outside.Failed.{Failed}
use Rattle.record_analysis.specs.declared.analysis.Judged.{Judged}
use Rattle.record_reports.specs.Analyses.{totals_text}
use Rattle.record_reports.specs.Full.{full_line}
use Rattle.equity_report.proofs.PutLemmas.{put-both, put-front}
use Rattle.record_reports.proofs.full.write_full.Goals as goal

pub returns-in_err-put_all : goal.returns-in_err-put_all
returns-in_err-put_all g c =
    let list = c.args.analysis.now in
    let start = g.O.Sink.output c.args.out.now in
    let end = g.O.Sink.output c.put_all.new.out in
    let failed = c.in_err-put_all.field-0.0 in
    let p = err_from_is_err_and c.from_residual.result c.from_residual.ensures.1 in
    rw p.1 (put-front start end (flat_map (full_line c.args.board c.args.rec.now.stakes) list) (totals_text list) failed
    (subst (λ (told : List Judged). Puts {T = Unit {0}} {E = Failed} start end (flat_map (full_line c.args.board c.args.rec.now.stakes) told) (Err failed)) c.as_slice.ensures.all c.in_err-put_all.ensures))

pub returns : goal.returns
returns g c =
    let list = c.args.analysis.now in
    let start = g.O.Sink.output c.args.out.now in
    let middle = g.O.Sink.output c.put_all.new.out in
    let lines = subst (λ (told : List Judged). Puts {T = Unit {0}} {E = Failed} start middle (flat_map (full_line c.args.board c.args.rec.now.stakes) told) (Ok tt)) c.as_slice.ensures.all c.in_ok-put_all.ensures in
    put-both start middle (g.O.Sink.output c.put_totals.new.out) (flat_map (full_line c.args.board c.args.rec.now.stakes) list) (totals_text list) tt c.put_totals.result lines c.put_totals.ensures
