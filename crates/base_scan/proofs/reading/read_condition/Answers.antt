use Rattle.std.proofs.Common.{◌≡◌, ◌+◌, ◌++◌, ◌∷◌, [], Bool, lit<, length, length-append, sym, subst, arith}
use Rattle.std.proofs.lemmas.Iterator.Consumers.{YieldsList-at, YieldsList-turn, YieldsList-end}
use Rattle.std.proofs.lemmas.Iterator.Splits.{YieldsList-from_str_split}
use Rattle.position_text.specs.Text.{words}
use Rattle.base_scan.specs.Conditions.{IsFirstBad}
use Rattle.base_scan.proofs.Readings.{HasRead, bad-end, bad-word, has-room, not-full, read-all, read-part}
use Rattle.base_scan.proofs.reading.read_condition.Goals as goal

pub returns-in_default-clause-bad : goal.returns-in_default-clause-bad
returns-in_default-clause-bad c =
    let road = YieldsList-at c.into_iter-word-iterator.ensures.into_iter_gives (YieldsList-from_str_split 32 c.args.text.now (lit< tt) c.split-word-items.ensures.text c.split-word-items.ensures.has_more c.split-word-items.ensures.pattern) in
    let turn = YieldsList-turn road c.loop-word.yielded _ c.loop-word.yielded_by c.next.result _ c.in-Some.word c.in-Some.is c.next.ensures.steps in
    subst (IsFirstBad (words c.args.text.now)) (sym c.loop-word.invariant.number)
    (bad-word (words c.args.text.now) c.loop-word.tests.items c.loop-word.wanted (length c.loop-word.yielded) c.loop-word.invariant.read c.in-Some.word.now c.is_full.result turn.0 turn.1
    (has-room (length c.loop-word.tests.items) c.is_full.result c.is_full.ensures.value) c.in_default.ensures)

pub loop-word-preserved : goal.loop-word-preserved
loop-word-preserved c =
    let road = YieldsList-at c.into_iter-word-iterator.ensures.into_iter_gives (YieldsList-from_str_split 32 c.args.text.now (lit< tt) c.split-word-items.ensures.text c.split-word-items.ensures.has_more c.split-word-items.ensures.pattern) in
    let turn = YieldsList-turn road c.loop-word.yielded _ c.loop-word.yielded_by c.next.result _ c.in-Some.word c.in-Some.is c.next.ensures.steps in
    let more : length (c.loop-word.yielded ++ c.in-Some.word ∷ []) ≡ length c.loop-word.yielded + 1 = length-append c.loop-word.yielded (c.in-Some.word ∷ []) in
    record {
      read = subst (HasRead (words c.args.text.now) c.take_in-wanted.new.tests.items c.take_in-wanted.result) (sym more)
          (read-part (words c.args.text.now) c.loop-word.tests.items c.take_in-wanted.new.tests.items (length c.loop-word.yielded) c.in-Some.word.now c.loop-word.wanted c.take_in-wanted.result c.is_full.result
          c.in-Some-next_part.part turn.0 turn.1 c.loop-word.invariant.read (not-full (length c.loop-word.tests.items) c.is_full.result c.is_full.ensures.value c.is_full.ensures.fits)
          c.in-Some-next_part.ensures.0 c.in-Some-next_part.ensures.1 c.take_in-wanted.ensures);
      number = omega (arith, more, c.loop-word.invariant.number);
    }

pub returns-then-wanted-clause-bad : goal.returns-then-wanted-clause-bad
returns-then-wanted-clause-bad c =
    let road = YieldsList-at c.into_iter-word-iterator.ensures.into_iter_gives (YieldsList-from_str_split 32 c.args.text.now (lit< tt) c.split-word-items.ensures.text c.split-word-items.ensures.has_more c.split-word-items.ensures.pattern) in
    let all = YieldsList-end road c.loop-word.yielded _ c.loop-word.yielded_by c.next.result _ c.in-None.is c.next.ensures.steps in
    subst (IsFirstBad (words c.args.text.now)) (sym c.loop-word.invariant.number)
    (bad-end (words c.args.text.now) c.loop-word.tests.items (length c.loop-word.yielded)
    (subst (λ (w : Bool). HasRead (words c.args.text.now) c.loop-word.tests.items w (length c.loop-word.yielded)) c.if-wanted.true c.loop-word.invariant.read) all.1)

pub returns-clause-condition : goal.returns-clause-condition
returns-clause-condition c =
    let road = YieldsList-at c.into_iter-word-iterator.ensures.into_iter_gives (YieldsList-from_str_split 32 c.args.text.now (lit< tt) c.split-word-items.ensures.text c.split-word-items.ensures.has_more c.split-word-items.ensures.pattern) in
    let all = YieldsList-end road c.loop-word.yielded _ c.loop-word.yielded_by c.next.result _ c.in-None.is c.next.ensures.steps in
    rw c.new.ensures
    (read-all (words c.args.text.now) c.loop-word.tests.items (length c.loop-word.yielded)
    (subst (λ (w : Bool). HasRead (words c.args.text.now) c.loop-word.tests.items w (length c.loop-word.yielded)) c.if-wanted.false c.loop-word.invariant.read) all.1)
