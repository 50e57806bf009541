use Rattle.std.proofs.Common.{[], sym, refl}
use Rattle.std.proofs.lemmas.List.{append-nil}
use Rattle.std.proofs.lemmas.Result.{err_from_is_err_and}
use Rattle.equity_report.proofs.PutLemmas.{put-none}
use Rattle.whole_file_reports.proofs.scan.make_room.Goals as goal

pub returns-in_err-put-clause-put : goal.returns-in_err-put-clause-put
returns-in_err-put-clause-put g c =
    let p = err_from_is_err_and c.from_residual.result c.from_residual.ensures.1 in
    let lines = c.args.lines.now.bytes in
    rw p.1 (lines, [], rw (c.as_bytes.ensures.value, c.as_str.ensures.value) at c.in_err-put.ensures, sym (append-nil lines), tt)

pub returns-in_ok-put-clause-put : goal.returns-in_ok-put-clause-put
returns-in_ok-put-clause-put g c =
    let lines = c.args.lines.now.bytes in
    (lines, [], rw (c.as_bytes.ensures.value, c.as_str.ensures.value) at c.in_ok-put.ensures, sym (append-nil lines), c.clear.ensures)

pub returns-else-len-gt-WAITING-clause-put : goal.returns-else-len-gt-WAITING-clause-put
returns-else-len-gt-WAITING-clause-put g c = ([], c.args.lines.now.bytes, put-none (g.O.Sink.output c.args.out.now), refl, refl)
