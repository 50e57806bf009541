use Rattle.std.proofs.Common.{lit<, length, refl, sym, subst, ◌∙◌}
use Rattle.std.proofs.lemmas.Iterator.Consumers.{YieldsList-at, YieldsList-turn, YieldsList-end}
use Rattle.std.proofs.lemmas.Iterator.Splits.{YieldsList-from_str_split}
use Rattle.position_text.specs.Text.{words}
use Rattle.position_text.proofs.TextSides.{IsRead, read-start, read-slash, read-other, read-mover, read-wrong, read-done, next-word, drop_all, told-apart}
use Rattle.position_text.proofs.text.read_sides.Goals as goal

pub loop-word-init : goal.loop-word-init
loop-word-init c = rw (c.new-mover.ensures, c.new-other.ensures) (read-start (words c.args.text.now) c.requires)

pub loop-word-preserved-then-eq : goal.loop-word-preserved-then-eq
loop-word-preserved-then-eq c =
    let ws = words c.args.text.now in
    let road = YieldsList-at c.into_iter-word-iterator.ensures.into_iter_gives (YieldsList-from_str_split 32 c.args.text.now (lit< tt) c.split-word-items.ensures.text c.split-word-items.ensures.has_more c.split-word-items.ensures.pattern) in
    let turn = YieldsList-turn road c.loop-word.yielded _ c.loop-word.yielded_by c.next.result _ c.in-Some.word c.in-Some.is c.next.ensures.steps in
    let read = subst (λ left. IsRead ws c.loop-word.past_slash c.loop-word.mover.items c.loop-word.other.items left) (next-word ws c.loop-word.yielded c.in-Some.word c.in-Some.word.now turn) c.loop-word.invariant in
    read-slash ws c.loop-word.past_slash c.loop-word.mover.items c.loop-word.other.items c.in-Some.word.now _ read (sym c.eq.ensures ∙ c.if-eq.true)

pub returns-in_err-place-clause-places : goal.returns-in_err-place-clause-places
returns-in_err-place-clause-places c =
    let ws = words c.args.text.now in
    let road = YieldsList-at c.into_iter-word-iterator.ensures.into_iter_gives (YieldsList-from_str_split 32 c.args.text.now (lit< tt) c.split-word-items.ensures.text c.split-word-items.ensures.has_more c.split-word-items.ensures.pattern) in
    let turn = YieldsList-turn road c.loop-word.yielded _ c.loop-word.yielded_by c.next.result _ c.in-Some.word c.in-Some.is c.next.ensures.steps in
    let read = subst (λ left. IsRead ws c.loop-word.past_slash c.loop-word.mover.items c.loop-word.other.items left) (next-word ws c.loop-word.yielded c.in-Some.word c.in-Some.word.now turn) c.loop-word.invariant in
    let wrong = read-wrong ws c.loop-word.past_slash c.loop-word.mover.items c.loop-word.other.items c.in-Some.word.now _ read (sym c.eq.ensures ∙ c.if-eq.false) (sym c.read_place.ensures ∙ c.in_err-place.was) in
    (λ h. absurd (told-apart _ refl (rw c.from_residual.ensures at h)), λ h. absurd (told-apart _ wrong h))

pub loop-word-preserved-then-past_slash : goal.loop-word-preserved-then-past_slash
loop-word-preserved-then-past_slash c =
    let ws = words c.args.text.now in
    let road = YieldsList-at c.into_iter-word-iterator.ensures.into_iter_gives (YieldsList-from_str_split 32 c.args.text.now (lit< tt) c.split-word-items.ensures.text c.split-word-items.ensures.has_more c.split-word-items.ensures.pattern) in
    let turn = YieldsList-turn road c.loop-word.yielded _ c.loop-word.yielded_by c.next.result _ c.in-Some.word c.in-Some.is c.next.ensures.steps in
    let read = subst (λ left. IsRead ws c.loop-word.past_slash c.loop-word.mover.items c.loop-word.other.items left) (next-word ws c.loop-word.yielded c.in-Some.word c.in-Some.word.now turn) c.loop-word.invariant in
    read-other ws c.loop-word.past_slash c.loop-word.mover.items c.loop-word.other.items c.keep.new.side.items c.in-Some.word.now _ c.in_ok-place.place read c.if-past_slash.true (sym c.eq.ensures ∙ c.if-eq.false) (sym c.read_place.ensures ∙ c.in_ok-place.was) c.keep.ensures

pub loop-word-preserved : goal.loop-word-preserved
loop-word-preserved c =
    let ws = words c.args.text.now in
    let road = YieldsList-at c.into_iter-word-iterator.ensures.into_iter_gives (YieldsList-from_str_split 32 c.args.text.now (lit< tt) c.split-word-items.ensures.text c.split-word-items.ensures.has_more c.split-word-items.ensures.pattern) in
    let turn = YieldsList-turn road c.loop-word.yielded _ c.loop-word.yielded_by c.next.result _ c.in-Some.word c.in-Some.is c.next.ensures.steps in
    let read = subst (λ left. IsRead ws c.loop-word.past_slash c.loop-word.mover.items c.loop-word.other.items left) (next-word ws c.loop-word.yielded c.in-Some.word c.in-Some.word.now turn) c.loop-word.invariant in
    read-mover ws c.loop-word.past_slash c.loop-word.mover.items c.loop-word.other.items c.keep-else-past_slash.new.side.items c.in-Some.word.now _ c.in_ok-place.place read c.if-past_slash.false (sym c.eq.ensures ∙ c.if-eq.false) (sym c.read_place.ensures ∙ c.in_ok-place.was) c.keep-else-past_slash.ensures

pub returns-clause-places : goal.returns-clause-places
returns-clause-places c =
    let ws = words c.args.text.now in
    let road = YieldsList-at c.into_iter-word-iterator.ensures.into_iter_gives (YieldsList-from_str_split 32 c.args.text.now (lit< tt) c.split-word-items.ensures.text c.split-word-items.ensures.has_more c.split-word-items.ensures.pattern) in
    let all = YieldsList-end road c.loop-word.yielded _ c.loop-word.yielded_by c.next.result _ c.in-None.is c.next.ensures.steps in
    let read = subst (λ left. IsRead ws c.loop-word.past_slash c.loop-word.mover.items c.loop-word.other.items left) (drop_all ws (length c.loop-word.yielded) all.1) c.loop-word.invariant in
    let sides = read-done ws c.loop-word.past_slash c.loop-word.mover.items c.loop-word.other.items read in
    (λ h. sides.places, λ h. refl)

pub returns-clause-mover : goal.returns-clause-mover
returns-clause-mover c =
    let ws = words c.args.text.now in
    let road = YieldsList-at c.into_iter-word-iterator.ensures.into_iter_gives (YieldsList-from_str_split 32 c.args.text.now (lit< tt) c.split-word-items.ensures.text c.split-word-items.ensures.has_more c.split-word-items.ensures.pattern) in
    let all = YieldsList-end road c.loop-word.yielded _ c.loop-word.yielded_by c.next.result _ c.in-None.is c.next.ensures.steps in
    let read = subst (λ left. IsRead ws c.loop-word.past_slash c.loop-word.mover.items c.loop-word.other.items left) (drop_all ws (length c.loop-word.yielded) all.1) c.loop-word.invariant in
    let sides = read-done ws c.loop-word.past_slash c.loop-word.mover.items c.loop-word.other.items read in
    sides.mover_is

pub returns-clause-other : goal.returns-clause-other
returns-clause-other c =
    let ws = words c.args.text.now in
    let road = YieldsList-at c.into_iter-word-iterator.ensures.into_iter_gives (YieldsList-from_str_split 32 c.args.text.now (lit< tt) c.split-word-items.ensures.text c.split-word-items.ensures.has_more c.split-word-items.ensures.pattern) in
    let all = YieldsList-end road c.loop-word.yielded _ c.loop-word.yielded_by c.next.result _ c.in-None.is c.next.ensures.steps in
    let read = subst (λ left. IsRead ws c.loop-word.past_slash c.loop-word.mover.items c.loop-word.other.items left) (drop_all ws (length c.loop-word.yielded) all.1) c.loop-word.invariant in
    let sides = read-done ws c.loop-word.past_slash c.loop-word.mover.items c.loop-word.other.items read in
    sides.other_is
