use Rattle.std.proofs.Common.{◌≡◌, ◌∙◌, ◌++◌, [], ◌∷◌, ℕ, List, ap, sym, subst, arith}
use Rattle.column_sums.specs.AfterHits.{AreHits, AreLayers}
use Rattle.column_sums.proofs.LayerHits.{hits-start}
use Rattle.column_sums.proofs.layers.Layers.set.Goals as goal

pub add_hits-requires-clause-first : goal.add_hits-requires-clause-first
add_hits-requires-clause-first c =
    let is : c.push_reserved.new.self.items ≡ c.args.other.now ∷ [] = c.push_reserved.ensures.items ∙ ap (λ (xs : List (List ℕ)). xs ++ c.args.other.now ∷ []) c.clear.ensures.items in
    subst (λ (xs : List (List ℕ)). AreHits c.args.other.now xs 1) (sym is) (hits-start c.args.other.now c.checkers-checkers.ensures.valid.places)

pub invariant_of-self : goal.invariant_of-self
invariant_of-self c =
    let hits = c.add_hits.ensures.hits in
    let layers : AreLayers c.deref.result.now c.fill_next.new.next = c.fill_next.ensures in
    record {
      room = omega (arith, c.add_hits.ensures.capacity, c.push_reserved.ensures.capacity, c.clear.ensures.capacity, c.self.invariant.room);
      few = c.add_hits.ensures.few;
      distinct = hits.distinct;
      layers = subst (λ (xs : List (List ℕ)). AreLayers xs c.fill_next.new.next) c.deref.ensures.value layers;
    }
