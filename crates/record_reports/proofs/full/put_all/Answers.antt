use Rattle.std.proofs.Common.{◌+◌, ℕ, List, take, drop, Ok, Err, sym, subst}
use Rattle.std.specs.List.{flat_map}
use Rattle.std.proofs.lemmas.Result.{err_from_is_err_and}
use Rattle.outside_log.specs.Sink.{Puts}
use Rattle.hyper_outside.specs.declared.outside.Failed.{Failed}
use Rattle.record_reports.specs.Full.{full_line}
use Rattle.equity_report.proofs.PutLemmas.{put-both, put-front, text-more, text-parts}
use Rattle.record_reports.proofs.full.put_all.Goals as goal

pub decisions-preserved : goal.decisions-preserved
decisions-preserved g c =
    let list = c.args.list.now in
    let i = c.decisions.judged-index in
    let item = c.judged-item.result in
    let start = g.O.Sink.output c.args.out.now in
    let end = g.O.Sink.output c.put_full.new.out in
    let both = put-both start (g.O.Sink.output c.decisions.out) end (flat_map (full_line c.args.board c.args.rec.now.stakes) (take i list)) ((full_line c.args.board c.args.rec.now.stakes) item) tt (Ok tt) c.decisions.invariant c.in_ok-put_full.ensures in
    let more = text-more (full_line c.args.board c.args.rec.now.stakes) i list item c.decisions-test.true c.judged-item.is in
    subst (λ (text : List ℕ). Puts {T = Unit {0}} {E = Failed} start end text (Ok tt)) (sym more) both

pub returns-in_err-put_full : goal.returns-in_err-put_full
returns-in_err-put_full g c =
    let list = c.args.list.now in
    let i = c.decisions.judged-index in
    let item = c.judged-item.result in
    let start = g.O.Sink.output c.args.out.now in
    let end = g.O.Sink.output c.put_full.new.out in
    let failed = c.in_err-put_full.field-0.0 in
    let both = put-both start (g.O.Sink.output c.decisions.out) end (flat_map (full_line c.args.board c.args.rec.now.stakes) (take i list)) ((full_line c.args.board c.args.rec.now.stakes) item) tt (Err failed) c.decisions.invariant c.in_err-put_full.ensures in
    let more = text-more (full_line c.args.board c.args.rec.now.stakes) i list item c.decisions-test.true c.judged-item.is in
    let front = subst (λ (text : List ℕ). Puts {T = Unit {0}} {E = Failed} start end text (Err failed)) (sym more) both in
    let whole = put-front start end (flat_map (full_line c.args.board c.args.rec.now.stakes) (take (i + 1) list)) (flat_map (full_line c.args.board c.args.rec.now.stakes) (drop (i + 1) list)) failed front in
    let p = err_from_is_err_and c.from_residual.result c.from_residual.ensures.1 in
    rw p.1 (subst (λ (text : List ℕ). Puts {T = Unit {0}} {E = Failed} start end text (Err failed)) (sym (text-parts (full_line c.args.board c.args.rec.now.stakes) (i + 1) list)) whole)
