use Rattle.std.proofs.Common.{◌≡◌, ◌<◌, ◌+◌, ◌*◌, ◌^◌, ◌∙◌, ap, get_or, pos, length, sym, arith, ℤ}
use Rattle.std.proofs.lemmas.List.Elements.{All-set}
use Rattle.directed_fixed.specs.Bounds.{IsWithinUnits}
use Rattle.column_sums.specs.Worths.{worth_at, worths_at}
use Rattle.column_sums.proofs.AtEnds.{get-map, length-map}
use Rattle.column_turns.proofs.Places.{put-more, same-more}
use Rattle.column_turns.proofs.sums.put_sums.Goals as goal

pub loop-i-preserved : goal.loop-i-preserved
loop-i-preserved c =
    let i = c.loop-i.i in
    let end = c.args.end in
    let one = worths_at end c.args.one.now in
    let read = c.index-one-i.result in
    let x = c.worth_of.result in
    let before = c.loop-i.invariant in
    let inside : i < length c.args.one.now = omega (arith, c.loop-i-test.true, c.requires.many) in
    let there : i < length one = omega (arith, inside, length-map (worth_at end) c.args.one.now) in
    let value : (d : ℤ) → x ≡ get_or one i d = λ d. c.worth_of.ensures ∙ (ap (worth_at end) c.index-one-i.is ∙ sym (get-map (worth_at end) c.args.one.now i read d inside)) in
    let room : c.args.many * c.args.kinds < length c.loop-i.all + 1 = omega (arith, c.requires.room, c.loop-i.auto.all) in
    record {
      small = All-set (IsWithinUnits (pos (2 ^ 42))) c.loop-i.all _ x (rw (value (pos 0)) (c.requires.small_one i c.loop-i-test.true)) before.small;
      put = put-more one c.loop-i.all c.args.kinds c.args.number c.args.many i x c.requires.number c.loop-i-test.true room there (value x) before.put;
      same = same-more one c.loop-i.all c.args.kinds c.args.number c.args.many i x c.args.all.now c.requires.number before.same;
    }
