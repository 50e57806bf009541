use Rattle.std.proofs.Common.{◌≡◌, ◌∙◌, ◌++◌, ℕ, List, take, drop, Ok, Err, sym, subst, ap, append_assoc, arith}
use Rattle.std.specs.List.{flat_map}
use Rattle.std.proofs.lemmas.List.{take_all}
use Rattle.std.proofs.lemmas.Result.{err_from_is_err_and}
use Rattle.outside_log.specs.Sink.{Puts}
use Rattle.hyper_outside.specs.declared.outside.Failed.{Failed}
use Rattle.whole_file_reports.specs.Scans.{found_text}
use Rattle.equity_report.proofs.PutLemmas.{put-both, put-front, text-more, text-parts}
use Rattle.whole_file_reports.proofs.scan.put_states.Goals as goal

pub states-preserved : goal.states-preserved
states-preserved g c =
    let line = found_text c.args.words.now in
    let list = c.args.states.now in
    let i = c.states.state-index in
    let item = c.state-item.result in
    let before = c.states.invariant in
    let more = c.in_ok-make_room.ensures.put in
    let text = before.0 in
    let front = more.0 in
    let rest = c.make_room.new.lines.bytes in
    let lines : c.states.lines.bytes ≡ front ++ rest = more.3 ∙ ap (λ (bytes : List ℕ). front ++ bytes) (sym more.4) in
    let start = g.O.Sink.output c.args.out.now in
    let middle = g.O.Sink.output c.states.out in
    let end = g.O.Sink.output c.make_room.new.out in
    let joined : flat_map line (take i list) ≡ (text ++ front) ++ rest =
    before.2 ∙ (ap (λ (bytes : List ℕ). text ++ bytes) lines ∙ sym (append_assoc text front rest)) in (
      text ++ front,
      put-both start middle end text front tt (Ok tt) before.1 more.2,
      text-more line i list item c.states-test.true c.state-item.is
          ∙ (ap (λ (bytes : List ℕ). bytes ++ line item) joined
          ∙ (append_assoc (text ++ front) rest (line item) ∙ ap (λ (bytes : List ℕ). (text ++ front) ++ bytes) (sym c.add_found.ensures))),
    )

pub returns-in_err-make_room : goal.returns-in_err-make_room
returns-in_err-make_room g c =
    let line = found_text c.args.words.now in
    let list = c.args.states.now in
    let i = c.states.state-index in
    let before = c.states.invariant in
    let start = g.O.Sink.output c.args.out.now in
    let middle = g.O.Sink.output c.states.out in
    let end = g.O.Sink.output c.make_room.new.out in
    let failed = c.in_err-make_room.field-0.0 in
    let some = c.in_err-make_room.ensures.put in
    let text = before.0 in
    let both = put-both start middle end text some.0 tt (Err failed) before.1 some.2 in
    let later = flat_map line (drop i list) in
    let is : (text ++ some.0) ++ (some.1 ++ later) ≡ flat_map line list =
    append_assoc text some.0 (some.1 ++ later)
    ∙ (ap (λ (bytes : List ℕ). text ++ bytes) (sym (append_assoc some.0 some.1 later) ∙ ap (λ (bytes : List ℕ). bytes ++ later) (sym some.3))
    ∙ (sym (append_assoc text c.states.lines.bytes later)
    ∙ (ap (λ (bytes : List ℕ). bytes ++ later) (sym before.2) ∙ sym (text-parts line i list)))) in
    let whole = put-front start end (text ++ some.0) (some.1 ++ later) failed both in
    let p = err_from_is_err_and c.from_residual.result c.from_residual.ensures.1 in
    rw p.1 (subst (λ (text : List ℕ). Puts {T = Unit {0}} {E = Failed} start end text (Err failed)) is whole)

pub returns : goal.returns
returns g c =
    let line = found_text c.args.words.now in
    let list = c.args.states.now in
    let i = c.states.state-index in
    let before = c.states.invariant in
    let start = g.O.Sink.output c.args.out.now in
    let middle = g.O.Sink.output c.states.out in
    let end = g.O.Sink.output c.put.new.self in
    let lines = c.states.lines.bytes in
    let last = rw (c.as_bytes.ensures.value, c.as_str.ensures.value) at c.put.ensures in
    let both = put-both start middle end before.0 lines tt c.put.result before.1 last in
    let all : take i list ≡ list = take_all i list (omega (arith, c.states-test.false)) in
    let is : flat_map line list ≡ before.0 ++ lines = ap (flat_map line) (sym all) ∙ before.2 in
    subst (λ (text : List ℕ). Puts {T = Unit {0}} {E = Failed} start end text c.put.result) (sym is) both
