use Rattle.std.proofs.Common.{◌≡◌, ◌++◌, List, ℕ, [], append_assoc, subst}
use Rattle.std.specs.Prelude.{codes}
use Rattle.outside_log.specs.Sink.{Puts}
use Rattle.equity_report.specs.Files.{rounds_text}
use Rattle.equity_report.specs.Reports.{counted_text}
use Rattle.whole_file_reports.specs.Files.{verified_text}
use Rattle.whole_file_reports.proofs.files.write_verified.Goals as goal

regroup : (a r s n e : List ℕ) → ((((([] ++ a) ++ r) ++ s) ++ n) ++ e) ≡ (a ++ ((r ++ s) ++ n)) ++ e
regroup a r s n e = simp append_assoc

pub returns : goal.returns
returns g c =
    let text : c.as_bytes.result.now ≡ verified_text c.args.game c.args.rounds c.args.positions =
    rw (c.as_bytes.ensures.value, c.as_str.ensures.value, c.push_str-3.ensures.bytes, c.add_counted.ensures.bytes, c.push_str-2.ensures.bytes, c.add_rounds.ensures.bytes, c.push_str.ensures.bytes, c.new-report.ensures)
    (regroup (codes "consistent ") (rounds_text c.args.game c.args.rounds) (codes " ") (counted_text (codes "positions") c.args.positions) (codes "\n")) in
    subst (λ (bytes : List ℕ). Puts (g.O.Sink.output c.args.out.now) (g.O.Sink.output c.put.new.self) bytes c.put.result) text c.put.ensures
