use Rattle.std.proofs.Common.{◌≡◌, ◌<◌, ◌++◌, ◌∙◌, Bool, false, IsTrue, ◌∷◌, [], ℕ, length, get_or, inl, inr, subst, arith}
use Rattle.std.proofs.lemmas.Bool.{cases_lt}
use Rattle.std.proofs.lemmas.List.{get_or_default}
use Rattle.position_rank.specs.Placement.{IsLive}
use Rattle.position_rank.specs.Points.{AreOtherPoints}
use Rattle.column_sums.specs.Leaps.{layout_at}
use Rattle.column_turns.specs.Turns.{at_rank}
use Rattle.column_turns.proofs.LivePoints.{live-swap}
use Rattle.column_turns.proofs.MoreRanks.{length-more, all-more, each-more, there-more, there-last}
use Rattle.column_turns.proofs.movers.list_movers.Goals as goal
use Rattle.column_turns.proofs.movers.list_movers.Goals.{then-are_live, else-are_live}

true-false : {b : Bool} → IsTrue b → b ≡ false → ⊥
true-false h k = cc (h, k)

pub loop-rank-preserved : goal.loop-rank-preserved
loop-rank-preserved c =
    let before = c.loop-rank.invariant in
    let rank = c.loop-rank.rank in
    let layouts = c.args.column.now.layouts in
    let other = c.args.other.now in
    let items = c.loop-rank.movers.items in
    let here : rank < length layouts = omega (arith, c.loop-rank-test.true, c.many-rank-end.ensures.many) in
    let there : rank < length c.args.points.now = omega (arith, here, c.requires.points.many) in
    let theirs : AreOtherPoints c.index-points-rank.result (layout_at layouts rank) =
    rw (c.index-points-rank.is, get_or_default c.args.points.now rank c.index-points-rank.result 0 there) (c.requires.points.each rank here) in
    let right = c.are_live.ensures (record { mover = other; other = layout_at layouts rank }) c.of-theirs.ensures theirs in
    elim c.if-are_live.branch [
      | then-are_live w ↦ (
          let live : IsLive (at_rank layouts other rank) = live-swap (record { mover = other; other = layout_at layouts rank }) (right.0 w.if-are_live.true) in
          let more = w.push_reserved.ensures.items in
          rw w.movers-is (record {
            room = w.push_reserved.ensures.capacity ∙ before.room;
            few = rw more (omega (arith, length-more items rank, before.few));
            within = rw more (all-more items rank (λ (r : ℕ). r < length layouts) before.within here);
            live = rw more (each-more items rank (λ (r : ℕ). IsLive (at_rank layouts other r)) before.live live);
            all = rw more (λ r below good. elim (cases_lt r rank) [
              | inl earlier ↦ there-more items rank r (before.all r earlier good)
              | inr from ↦ (let last : rank ≡ r = omega (arith, below, from) in subst (λ (n : ℕ). (i : ℕ) × (i < length (items ++ rank ∷ [])) × (get_or (items ++ rank ∷ []) i 0 ≡ n)) last (there-last items rank))
            ]);
          }))
      | else-are_live w ↦ (
          let dead : IsLive (at_rank layouts other rank) → ⊥ = λ live. true-false (right.1 (live-swap (at_rank layouts other rank) live)) w.if-are_live.false in
          rw w.movers-is (record {
            room = before.room;
            few = omega (arith, before.few);
            within = before.within;
            live = before.live;
            all = λ r below live. elim (cases_lt r rank) [
              | inl earlier ↦ before.all r earlier live
              | inr from ↦ (let last : r ≡ rank = omega (arith, below, from) in absurd (dead (subst (λ (n : ℕ). IsLive (at_rank layouts other n)) last live)))
            ];
          }))
    ]
