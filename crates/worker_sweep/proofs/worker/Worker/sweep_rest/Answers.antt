use Rattle.std.proofs.Common.{rules, ◌≡◌, ◌+◌, ◌<◌, true, false, length, arith, ap, sym, subst, ◌∙◌}
use Rattle.worker_sweep.specs.Workers.{SeatsAndMarks}
use Rattle.worker_sweep.proofs.RestLemmas.{HasRested, rest-swept, rest-skipped}
use Rattle.worker_sweep.proofs.worker.Worker.sweep_rest.Goals.{then-not-swept, else-not-swept}
use Rattle.worker_sweep.proofs.worker.Worker.sweep_rest.Goals as goal

pub loop-block-preserved : goal.loop-block-preserved
loop-block-preserved c =
    let board = c.args.board.now in
    let first = c.args.self.now in
    let old = c.loop-block.self in
    let block = c.loop-block.block in
    let inv = c.loop-block.invariant in
    let before : HasRested board first old block = record {
      works = inv.works;
      seat = inv.seat;
      marks = inv.marks;
      later = inv.later;
      work = inv.work;
      claims = inv.claims;
      number = inv.number;
    } in
    let inside : block < length old.marks = omega (arith, c.loop-block-test.true, c.len-block-end.ensures, inv.works.marks, c.requires.works.marks, ap (λ w. length w.marks) c.self.view_is) in
    let after : HasRested board first c.if-not-swept.self (block + 1) = elim c.if-not-swept.branch [
      | then-not-swept w ↦ (
          let free : c.swept.result ≡ false = search rules in
          subst (λ (s : SeatsAndMarks). HasRested board first s (block + 1)) (sym w.self-is)
          (rest-swept board first old w.sweep.new.self block before (sym c.swept.ensures ∙ free) inside w.sweep.ensures.seat w.sweep.ensures.works w.sweep.ensures.marks w.sweep.ensures.claims w.sweep.ensures.number))
      | else-not-swept w ↦ (
          let taken : c.swept.result ≡ true = search rules in
          subst (λ (s : SeatsAndMarks). HasRested board first s (block + 1)) (sym w.self-is) (rest-skipped board first old block before (sym c.swept.ensures ∙ taken)))
    ] in
    record {
      works = after.works;
      seat = after.seat;
      marks = after.marks;
      later = after.later;
      work = after.work;
      claims = after.claims;
      number = after.number;
    }
