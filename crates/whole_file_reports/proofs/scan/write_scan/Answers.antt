use Rattle.std.proofs.Common.{List, length, Ok, Err, subst}
use Rattle.std.specs.List.{flat_map}
use Rattle.std.proofs.lemmas.Result.{err_from_is_err_and}
use Rattle.outside_log.specs.Sink.{Puts}
use Rattle.hyper_outside.specs.declared.outside.Failed.{Failed}
use Rattle.interval_words.specs.WordLists.{states_of}
use Rattle.base_scan.specs.declared.found.State.{State}
use Rattle.whole_file_reports.specs.Scans.{found_end_text, found_text}
use Rattle.equity_report.proofs.PutLemmas.{put-both, put-front}
use Rattle.whole_file_reports.proofs.scan.write_scan.Goals as goal

pub returns-in_err-put_states : goal.returns-in_err-put_states
returns-in_err-put_states g c =
    let words = c.args.words.now in
    let list = c.args.found.now in
    let start = g.O.Sink.output c.args.out.now in
    let end = g.O.Sink.output c.put_states.new.out in
    let failed = c.in_err-put_states.field-0.0 in
    let p = err_from_is_err_and c.from_residual.result c.from_residual.ensures.1 in
    rw p.1 (put-front start end (flat_map (found_text words) list) (found_end_text (length list) (states_of words.game)) failed
    (subst (λ (told : List State). Puts {T = Unit {0}} {E = Failed} start end (flat_map (found_text words) told) (Err failed)) c.as_slice-states.ensures c.in_err-put_states.ensures))

pub returns : goal.returns
returns g c =
    let words = c.args.words.now in
    let list = c.args.found.now in
    let start = g.O.Sink.output c.args.out.now in
    let middle = g.O.Sink.output c.put_states.new.out in
    let end = g.O.Sink.output c.put_end.new.out in
    let lines = subst (λ (told : List State). Puts {T = Unit {0}} {E = Failed} start middle (flat_map (found_text words) told) (Ok tt)) c.as_slice-states.ensures c.in_ok-put_states.ensures in
    let last = rw (c.as_slice-states.ensures, c.states.ensures.states) at c.put_end.ensures in
    put-both start middle end (flat_map (found_text words) list) (found_end_text (length list) (states_of words.game)) tt c.put_end.result lines last
