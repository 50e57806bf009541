use Rattle.std.proofs.Common.{◌≡◌, ◌+◌, ◌<◌, ◌≤◌, lit<, length, sym, rules, ◌∷◌, [], ◌++◌, length-append}
use Rattle.std.proofs.lemmas.Iterator.Consumers.{YieldsList-at, YieldsList-turn, YieldsList-end}
use Rattle.std.proofs.lemmas.Iterator.Splits.{YieldsList-from_str_split}
use Rattle.position_text.specs.Text.{words}
use Rattle.play_text.proofs.NotationTexts.{read-none, read-one, too-many, wrong-word, read-all}
use Rattle.play_text.proofs.notation.read_play.Goals as goal

pub loop-word-init : goal.loop-word-init
loop-word-init c = rw c.new-written.ensures (read-none (words c.args.text.now))

pub returns-then-is_full : goal.returns-then-is_full
returns-then-is_full c =
    let road = YieldsList-at c.into_iter-word-iterator.ensures.into_iter_gives (YieldsList-from_str_split 32 c.args.text.now (lit< tt) c.split-word-items.ensures.text c.split-word-items.ensures.has_more c.split-word-items.ensures.pattern) in
    let turn = YieldsList-turn road c.loop-word.yielded _ c.loop-word.yielded_by c.next.result _ c.in-Some.word c.in-Some.is c.next.ensures.steps in
    let full : 4 ≤ length c.loop-word.yielded = (let count = c.loop-word.invariant.count in search rules) in
    too-many c.args.text.now (length c.loop-word.yielded) (sym c.if-eq.ensures) turn.0 full

pub returns-in_err-read_step : goal.returns-in_err-read_step
returns-in_err-read_step c =
    let road = YieldsList-at c.into_iter-word-iterator.ensures.into_iter_gives (YieldsList-from_str_split 32 c.args.text.now (lit< tt) c.split-word-items.ensures.text c.split-word-items.ensures.has_more c.split-word-items.ensures.pattern) in
    let turn = YieldsList-turn road c.loop-word.yielded _ c.loop-word.yielded_by c.next.result _ c.in-Some.word c.in-Some.is c.next.ensures.steps in
    rw c.from_residual.ensures (wrong-word c.args.text.now (length c.loop-word.yielded) c.in-Some.word.now (sym c.if-eq.ensures) turn c.in_err-read_step.ensures)

pub loop-word-preserved : goal.loop-word-preserved
loop-word-preserved c =
    let ws = words c.args.text.now in
    let road = YieldsList-at c.into_iter-word-iterator.ensures.into_iter_gives (YieldsList-from_str_split 32 c.args.text.now (lit< tt) c.split-word-items.ensures.text c.split-word-items.ensures.has_more c.split-word-items.ensures.pattern) in
    let turn = YieldsList-turn road c.loop-word.yielded _ c.loop-word.yielded_by c.next.result _ c.in-Some.word c.in-Some.is c.next.ensures.steps in
    let step = c.in_ok-read_step.field-0 in
    let room : length c.loop-word.written.items < 4 = search rules in
    let more : length (c.loop-word.yielded ++ c.in-Some.word ∷ []) ≡ length c.loop-word.yielded + 1 = length-append c.loop-word.yielded (c.in-Some.word ∷ []) in
    rw (c.push.ensures.items, more) (read-one ws c.loop-word.written.items (length c.loop-word.yielded) step c.in-Some.word.now c.loop-word.invariant turn.0 turn.1 room c.in_ok-read_step.ensures.0 c.in_ok-read_step.ensures.1)

pub returns : goal.returns
returns c =
    let road = YieldsList-at c.into_iter-word-iterator.ensures.into_iter_gives (YieldsList-from_str_split 32 c.args.text.now (lit< tt) c.split-word-items.ensures.text c.split-word-items.ensures.has_more c.split-word-items.ensures.pattern) in
    let all = YieldsList-end road c.loop-word.yielded _ c.loop-word.yielded_by c.next.result _ c.in-None.is c.next.ensures.steps in
    read-all c.args.text.now c.loop-word.written.items (length c.loop-word.yielded) c.loop-word.invariant all.1
