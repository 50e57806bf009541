use Rattle.std.proofs.Common.{◌+◌, ◌∙◌, Bool, true, false, drop, sym, ap}
use Rattle.base_scan.specs.Meets.{says_by}
use Rattle.base_scan.proofs.Telling.{step-and, step-end, step-or, step-yes, tells}
use Rattle.base_scan.proofs.numbers.meets_by.Goals as goal
use Rattle.base_scan.proofs.numbers.meets_by.Goals.{then-begins_group+else-all, else-begins_group+then-all-2, else-begins_group+else-all-2}

pub returns-then-all : goal.returns-then-all
returns-then-all c =
    let f = says_by c.args.depth c.args.words.now c.args.seen.now.position c.args.seen.now.kind in
    let items = c.tests-joined-items.result.now in
    sym (c.loop-joined.invariant
    ∙ (ap (λ (all : Bool). tells f all (drop c.loop-joined.joined-index items)) c.if-all.true
    ∙ step-yes f items c.loop-joined.joined-index _ c.loop-joined-test.true c.begins_group.result c.begins_group.ensures c.if-begins_group.true))

pub loop-joined-preserved : goal.loop-joined-preserved
loop-joined-preserved c =
    let f = says_by c.args.depth c.args.words.now c.args.seen.now.position c.args.seen.now.kind in
    let items = c.tests-joined-items.result.now in
    let i = c.loop-joined.joined-index in
    c.loop-joined.invariant
    ∙ (elim c.if-begins_group.branch [
      | then-begins_group+else-all w ↦
          ap (λ (all : Bool). tells f all (drop i items)) w.if-all.false
          ∙ (step-or f items i _ c.loop-joined-test.true c.begins_group.result c.begins_group.ensures w.if-begins_group.true
          ∙ ap (λ (all : Bool). tells f all (drop (i + 1) items)) (sym w.says_by-all.ensures ∙ sym w.all-is))
      | else-begins_group+then-all-2 w ↦
          ap (λ (all : Bool). tells f all (drop i items)) w.if-all-2.true
          ∙ (step-and f items i _ c.loop-joined-test.true c.begins_group.result c.begins_group.ensures true w.if-begins_group.false
          ∙ ap (λ (all : Bool). tells f all (drop (i + 1) items)) (sym w.says_by-all-then-all-2.ensures ∙ sym w.all-is))
      | else-begins_group+else-all-2 w ↦
          ap (λ (all : Bool). tells f all (drop i items)) w.if-all-2.false
          ∙ (step-and f items i _ c.loop-joined-test.true c.begins_group.result c.begins_group.ensures false w.if-begins_group.false
          ∙ ap (λ (all : Bool). tells f all (drop (i + 1) items)) (sym w.if-all-2.false ∙ sym w.all-is))
    ])

pub returns : goal.returns
returns c =
    let f = says_by c.args.depth c.args.words.now c.args.seen.now.position c.args.seen.now.kind in
    sym (c.loop-joined.invariant ∙ step-end f c.tests-joined-items.result.now c.loop-joined.joined-index c.loop-joined.all c.loop-joined-test.false)
