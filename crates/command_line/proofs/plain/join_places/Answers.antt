use Rattle.std.proofs.Common.{◌≡◌, ◌≤◌, ◌+◌, [], ◌∷◌, lit<, length, drop, fold, refl, sym, ap, ◌∙◌, subst, arith, length-append}
use Rattle.std.proofs.lemmas.Iterator.Consumers.{YieldsList-at, YieldsList-turn, YieldsList-end}
use Rattle.std.proofs.lemmas.Iterator.Splits.{YieldsList-from_str_split}
use Rattle.std.proofs.lemmas.List.{drop_all}
use Rattle.position_text.specs.Text.{words}
use Rattle.command_line.specs.Plain.{add_place}
use Rattle.command_line.proofs.PlaceRoom.{space_for, split-space, next-place, word-room, place-step, empty-step}
use Rattle.command_line.proofs.plain.join_places.Goals as goal

pub loop-word-init : goal.loop-word-init
loop-word-init c = record {
  same = rw c.new-plain.ensures refl;
  room = rw c.new-plain.ensures (omega (arith, split-space c.args.text.now, c.requires));
}

pub push_word-requires : goal.push_word-requires
push_word-requires c =
    let road = YieldsList-at c.into_iter-word-iterator.ensures.into_iter_gives (YieldsList-from_str_split 32 c.args.text.now (lit< tt) c.split-word-items.ensures.text c.split-word-items.ensures.has_more c.split-word-items.ensures.pattern) in
    let turn = next-place (words c.args.text.now) (length c.loop-word.yielded) c.in-Some.word.now (YieldsList-turn road c.loop-word.yielded _ c.loop-word.yielded_by c.next.result _ c.in-Some.word c.in-Some.is c.next.ensures.steps) in
    let room = subst (λ left. length c.loop-word.plain.bytes + space_for left ≤ 1538) turn c.loop-word.invariant.room in
    omega (arith, room, c.whole_place.ensures.length)

pub loop-word-preserved-then-not-is_empty : goal.loop-word-preserved-then-not-is_empty
loop-word-preserved-then-not-is_empty c =
    let road = YieldsList-at c.into_iter-word-iterator.ensures.into_iter_gives (YieldsList-from_str_split 32 c.args.text.now (lit< tt) c.split-word-items.ensures.text c.split-word-items.ensures.has_more c.split-word-items.ensures.pattern) in
    let turn = next-place (words c.args.text.now) (length c.loop-word.yielded) c.in-Some.word.now (YieldsList-turn road c.loop-word.yielded _ c.loop-word.yielded_by c.next.result _ c.in-Some.word c.in-Some.is c.next.ensures.steps) in
    let room = subst (λ left. length c.loop-word.plain.bytes + space_for left ≤ 1538) turn c.loop-word.invariant.room in
    let same = subst (λ left. fold add_place c.loop-word.plain.bytes left ≡ fold add_place [] (words c.args.text.now)) turn c.loop-word.invariant.same in
    let left = drop (length c.loop-word.yielded + 1) (words c.args.text.now) in
    rw (length-append c.loop-word.yielded (c.in-Some.word ∷ []), c.push_word.ensures) record {
      same = sym (place-step c.loop-word.plain.bytes c.in-Some.word.now left c.whole_place.result.now (sym c.is_empty.ensures ∙ c.if-not-is_empty.true) c.whole_place.ensures.place) ∙ same;
      room = word-room c.loop-word.plain.bytes c.in-Some.word.now c.whole_place.result.now (space_for left) c.whole_place.ensures.length room;
    }

pub loop-word-preserved : goal.loop-word-preserved
loop-word-preserved c =
    let road = YieldsList-at c.into_iter-word-iterator.ensures.into_iter_gives (YieldsList-from_str_split 32 c.args.text.now (lit< tt) c.split-word-items.ensures.text c.split-word-items.ensures.has_more c.split-word-items.ensures.pattern) in
    let turn = next-place (words c.args.text.now) (length c.loop-word.yielded) c.in-Some.word.now (YieldsList-turn road c.loop-word.yielded _ c.loop-word.yielded_by c.next.result _ c.in-Some.word c.in-Some.is c.next.ensures.steps) in
    let room = subst (λ left. length c.loop-word.plain.bytes + space_for left ≤ 1538) turn c.loop-word.invariant.room in
    let same = subst (λ left. fold add_place c.loop-word.plain.bytes left ≡ fold add_place [] (words c.args.text.now)) turn c.loop-word.invariant.same in
    let left = drop (length c.loop-word.yielded + 1) (words c.args.text.now) in
    rw (length-append c.loop-word.yielded (c.in-Some.word ∷ [])) record {
      same = sym (empty-step c.loop-word.plain.bytes c.in-Some.word.now left (sym c.is_empty.ensures ∙ c.if-not-is_empty.false)) ∙ same;
      room = omega (arith, room);
    }

pub returns : goal.returns
returns c =
    let road = YieldsList-at c.into_iter-word-iterator.ensures.into_iter_gives (YieldsList-from_str_split 32 c.args.text.now (lit< tt) c.split-word-items.ensures.text c.split-word-items.ensures.has_more c.split-word-items.ensures.pattern) in
    let all = YieldsList-end road c.loop-word.yielded _ c.loop-word.yielded_by c.next.result _ c.in-None.is c.next.ensures.steps in
    let over : length (words c.args.text.now) ≤ length c.loop-word.yielded = omega (arith, all.1) in
    ap (fold add_place c.loop-word.plain.bytes) (sym (drop_all (length c.loop-word.yielded) (words c.args.text.now) over)) ∙ c.loop-word.invariant.same
