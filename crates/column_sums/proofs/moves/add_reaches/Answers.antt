use Rattle.std.proofs.Common.{◌≡◌, ◌<◌, ◌∙◌, [], ◌∷◌, ℕ, get_or, length, length-append, ap, sym, arith}
use Rattle.std.proofs.lemmas.List.{get_or_append_left}
use Rattle.column_sums.proofs.Reached.{reaches-push}
use Rattle.column_sums.proofs.moves.add_reaches.Goals as goal

pub loop-i-preserved : goal.loop-i-preserved
loop-i-preserved c =
    let reaches = c.loop-i.reaches.items in
    let cells = c.args.cells.now in
    let reach = c.reach_of.result in
    let before = c.loop-i.invariant in
    let here : length reaches < length cells = omega (arith, before.many, c.loop-i-test.true) in
    let cell : reach.cell ≡ get_or cells (length reaches) 0 = c.reach_of.ensures.cell ∙ ap (λ (n : ℕ). get_or cells n 0) (sym before.many) in
    rw (c.push_reserved.ensures.items, c.push_reserved.ensures.capacity) (record {
      done = reaches-push c.args.steps.now c.args.layers.now c.args.die cells reaches reach before.done here c.reach_of.ensures.reach cell;
      many = omega (arith, length-append reaches (reach ∷ []), before.many);
      kept = λ i none h. get_or_append_left reaches (reach ∷ []) none i (omega (arith, h, before.many, c.loop-i.auto)) ∙ before.kept i none h;
      capacity = before.capacity;
    })
