use Rattle.std.proofs.Common.{◌≡◌, ◌<◌, ◌++◌, ◌∷◌, [], ℕ, length, get_or, below_more, subst, sym, arith}
use Rattle.std.proofs.lemmas.List.{get_or_append_left}
use Rattle.position_rank.specs.Points.{AreOtherPoints}
use Rattle.column_sums.specs.Leaps.{layout_at}
use Rattle.column_turns.proofs.MoreRanks.{at-end, length-more}
use Rattle.column_turns.proofs.movers.points_of.Goals as goal

pub loop-rank-preserved : goal.loop-rank-preserved
loop-rank-preserved c =
    let before = c.loop-rank.invariant in
    let rank = c.loop-rank.rank in
    let layouts = c.args.column.now.layouts in
    let items = c.loop-rank.points.items in
    let bits = c.of.result in
    let last : get_or (items ++ bits ∷ []) rank 0 ≡ bits = subst (λ (n : ℕ). get_or (items ++ bits ∷ []) n 0 ≡ bits) before.many (at-end items bits) in
    rw c.in_ok-push.ensures.items (record {
      many = omega (arith, length-more items bits, before.many);
      each =
          below_more (λ (r : ℕ). AreOtherPoints (get_or (items ++ bits ∷ []) r 0) (layout_at layouts r)) rank
          (λ r below.
          let here : r < length items = omega (arith, below, before.many) in
          subst (λ (n : ℕ). AreOtherPoints n (layout_at layouts r)) (sym (get_or_append_left items (bits ∷ []) 0 r here)) (before.each r below))
          (subst (λ (n : ℕ). AreOtherPoints n (layout_at layouts rank)) (sym last) (rw c.layout.ensures at c.of.ensures));
    })
