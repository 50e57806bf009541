use Rattle.std.proofs.Common.{◌≡◌, ◌∙◌, ◌+◌, ◌<◌, ◌++◌, ℕ, List, [], ◌∷◌, All, length, sym, ap, subst, arith}
use Rattle.std.proofs.lemmas.List.{length-append}
use Rattle.std.proofs.lemmas.List.Elements.{All-push, All-weaker}
use Rattle.game_census.specs.Censuses.{may_double_in}
use Rattle.game_census.proofs.Numbers.{filter-keeps, filter-leaves}
use Rattle.game_census.proofs.cube.doubling_kinds.Goals as goal
use Rattle.game_census.proofs.cube.doubling_kinds.Goals.{then-is_some, else-is_some}

pub loop-kind-preserved : goal.loop-kind-preserved
loop-kind-preserved c =
    let kind = c.loop-kind.kind in
    let before = c.loop-kind.found.items in
    let kept = c.loop-kind.invariant in
    let may : may_double_in c.args.stakes.now kind ≡ c.is_some.result = search (c.kind.ensures.kind, c.is_some.ensures) in
    let below : All (λ (k : ℕ). k < kind + 1) before = All-weaker (λ (k : ℕ). k < kind) (λ (k : ℕ). k < kind + 1) (λ (k : ℕ) less. omega arith) before kept.there in
    elim c.if-is_some.branch [
      | then-is_some w ↦
          let more : c.if-is_some.found.items ≡ before ++ kind ∷ [] = search (w.found-is, w.push.ensures.items) in
          let keeps = filter-keeps (may_double_in c.args.stakes.now) kind (may ∙ w.if-is_some.true) in
          record {
            few = omega (arith, ap length more, length-append before (kind ∷ []), kept.few);
            there = subst (All (λ (k : ℕ). k < kind + 1)) (sym more) (All-push (λ (k : ℕ). k < kind + 1) before kind below (omega arith));
            found = more ∙ ap (λ (l : List ℕ). l ++ kind ∷ []) kept.found ∙ sym keeps;
          }
      | else-is_some w ↦
          let same : c.if-is_some.found.items ≡ before = search w.found-is in
          let leaves = filter-leaves (may_double_in c.args.stakes.now) kind (may ∙ w.if-is_some.false) in
          record {
            few = omega (arith, ap length same, kept.few);
            there = subst (All (λ (k : ℕ). k < kind + 1)) (sym same) below;
            found = same ∙ kept.found ∙ sym leaves;
          }
    ]
