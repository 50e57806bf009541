use Rattle.std.proofs.Common.{◌≡◌, ◌<◌, ◌+◌, ◌-◌, ◌∙◌, ℕ, List, get_or, length, length-set, subst, sym, ap, arith}
use Rattle.column_sums.specs.declared.moves.DieList.{DieList}
use Rattle.column_sums.specs.MoveLists.{AreReaches, HasListRoom, IsDieList}
use Rattle.column_sums.proofs.Places.{put-more, put-all, put-rest}
use Rattle.column_sums.proofs.moves.finish_lists.Goals as goal

pub finish-requires-clause-begun : goal.finish-requires-clause-begun
finish-requires-clause-begun c =
    let d = c.loop-d.d in
    let none = c.index-lists-d.result in
    let at : d + 1 - 1 ≡ d = omega arith in
    let begun = c.requires.begun.reaches (d + 1) none (omega arith) (omega (arith, c.loop-d-test.true)) in
    subst (λ (cells : List ℕ). AreReaches c.args.steps.now c.args.layers.now (d + 1) cells (get_or c.loop-d.lists d none).reaches.items) (sym c.loop-d.invariant.same)
    (subst (λ (l : DieList). AreReaches c.args.steps.now c.args.layers.now (d + 1) c.args.listing.now l.reaches.items) (sym (c.loop-d.invariant.rest d none (omega arith)))
    (subst (λ (n : ℕ). AreReaches c.args.steps.now c.args.layers.now (d + 1) c.args.listing.now (get_or c.args.lists.now n none).reaches.items) at begun))

pub loop-d-preserved : goal.loop-d-preserved
loop-d-preserved c =
    let d = c.loop-d.d in
    let none = c.index-lists-d.result in
    let lists = c.loop-d.lists in
    let new = c.finish.new.list in
    let near = c.args.listing.now in
    let here : d < length lists = omega (arith, c.loop-d-test.true, c.loop-d.invariant.rooms.six) in
    let at : d + 1 - 1 ≡ d = omega arith in
    let count : length (get_or lists d none).reaches.items ≡ c.args.movers =
    ap (λ (l : DieList). length l.reaches.items) (c.loop-d.invariant.rest d none (omega arith))
    ∙ (ap (λ (n : ℕ). length (get_or c.args.lists.now n none).reaches.items) (sym at) ∙ c.requires.begun.many (d + 1) none (omega arith) (omega (arith, c.loop-d-test.true))) in
    let list : IsDieList c.args.steps.now c.args.layers.now near c.args.movers (d + 1) new =
    subst (λ (n : ℕ). IsDieList c.args.steps.now c.args.layers.now near n (d + 1) new) count
    (subst (λ (cells : List ℕ). IsDieList c.args.steps.now c.args.layers.now cells (length (get_or lists d none).reaches.items) (d + 1) new) c.loop-d.invariant.same c.finish.ensures.list) in
    record {
      same = c.finish.ensures.same ∙ c.loop-d.invariant.same;
      rooms = record {
        six = length-set lists d new ∙ c.loop-d.invariant.rooms.six;
        room = put-all (λ i l. HasListRoom l) lists d 6 new here c.loop-d.invariant.rooms.room c.finish.ensures.room;
      };
      done = put-more (λ i l. IsDieList c.args.steps.now c.args.layers.now near c.args.movers (i + 1) l) lists d new here c.loop-d.invariant.done list;
      rest = put-rest c.args.lists.now lists d new c.loop-d.invariant.rest;
    }
