use Rattle.std.proofs.Common.{◌≡◌, ◌≤◌, ◌<◌, ◌-◌, ◌++◌, ◌∙◌, List, All, sym, ap, subst, arith}
use Rattle.std.proofs.lemmas.List.Elements.{All-nil}
use Rattle.base_scan.specs.declared.found.State.{State}
use Rattle.base_scan.specs.Found.{IsFoundState, meeting_among, states_of_row}
use Rattle.base_scan.proofs.Scans.{first-rise, part-done, rows-more, rows-none}
use Rattle.base_scan.proofs.scanning.scan_part.Goals as goal

pub loop-row-init : goal.loop-row-init
loop-row-init g c = record {
  found = c.new-found.ensures.items ∙ sym (rows-none c.args.words.now c.args.condition.now c.first_row-from.result);
  right = subst (All (IsFoundState c.args.words.now.game)) (sym c.new-found.ensures.items) (All-nil (IsFoundState c.args.words.now.game));
}

pub loop-row-preserved : goal.loop-row-preserved
loop-row-preserved g c = record {
  found = c.in_ok-scan_row.ensures.found
      ∙ (ap (λ (xs : List State). xs ++ meeting_among c.args.words.now c.args.condition.now (states_of_row c.args.words.now.game c.loop-row.row)) c.loop-row.invariant.found
      ∙ sym (rows-more c.args.words.now c.args.condition.now c.first_row-from.result c.loop-row.row (omega arith)));
  right = c.in_ok-scan_row.ensures.right c.loop-row.invariant.right;
}

pub returns : goal.returns
returns g c =
    let from = c.first_row-from.result in
    let to = c.first_row-to.result in
    let some : 0 < c.args.parts = omega arith in
    let rise = first-rise c.args.words.now c.args.condition.now c.args.parts some c.args.number in
    let order : from ≤ to = omega (arith, rise, c.first_row-from.ensures.start, c.first_row-to.ensures.start) in
    let many : c.loop-row.row - from ≡ to - from = omega (arith, order, c.loop-row-test.false, c.loop-row.auto.row, c.loop-row.auto.row-end) in
    part-done c.args.words.now c.args.condition.now c.args.parts some c.args.number from to c.loop-row.row c.loop-row.found.items
    c.first_row-from.ensures.start c.first_row-to.ensures.start many c.loop-row.invariant.found c.loop-row.invariant.right
