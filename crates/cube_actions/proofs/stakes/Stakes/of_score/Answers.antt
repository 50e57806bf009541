use Rattle.std.proofs.Common.{◌≡◌, ◌≤◌, ◌<◌, ℕ, ap, sym, subst, ◌∙◌, map, take, length, List, [], ◌∷◌, ◌++◌, get_or, length-take-le, arith}
use Rattle.std.proofs.lemmas.List.{take_all, length-map, map_more}
use Rattle.cube_actions.specs.declared.kind.Kind.{Kind}
use Rattle.cube_actions.specs.declared.match_kind.MatchKind.{MatchKind}
use Rattle.cube_actions.specs.MatchKinds.{match_kinds}
use Rattle.cube_actions.specs.Names.{name_of}
use Rattle.cube_actions.specs.Matches.{match_kind, terms_of}
use Rattle.cube_actions.proofs.MatchTerms.{cubes_small, few_kinds, terms-valid}
use Rattle.cube_actions.proofs.stakes.Stakes.of_score.Goals as goal

pub push-requires : goal.push-requires
push-requires c =
    let made = c.loop-kind.invariant in
    let kinds = c.as_slice-kind-items.result.now in
    let all : length kinds ≡ length (match_kinds c.args.score) = ap length made.all in
    let so_far : length c.loop-kind.kinds.items ≡ c.loop-kind.kind-index = ap length made.made ∙ length-map (take c.loop-kind.kind-index kinds) (match_kind c.args.starts.now c.args.score) ∙ length-take-le c.loop-kind.kind-index kinds (omega arith) in
    (omega arith, omega (arith, few_kinds c.args.score))

pub kind-requires-clause-from : goal.kind-requires-clause-from
kind-requires-clause-from c =
    let starts = c.match_length.ensures.valid in
    let small = cubes_small c.args.starts.now.match_length starts.from starts.to c.args.score c.requires.listed in
    (subst (λ (kinds : List MatchKind). (k : ℕ) (d : MatchKind) → k < length kinds → (1 ≤ (get_or kinds k d).cube) × ((get_or kinds k d).cube ≤ 8)) (sym c.loop-kind.invariant.all) small c.loop-kind.kind-index _ c.loop-kind-test.true).0

pub kind-requires-clause-to : goal.kind-requires-clause-to
kind-requires-clause-to c =
    let starts = c.match_length.ensures.valid in
    let small = cubes_small c.args.starts.now.match_length starts.from starts.to c.args.score c.requires.listed in
    (subst (λ (kinds : List MatchKind). (k : ℕ) (d : MatchKind) → k < length kinds → (1 ≤ (get_or kinds k d).cube) × ((get_or kinds k d).cube ≤ 8)) (sym c.loop-kind.invariant.all) small c.loop-kind.kind-index _ c.loop-kind-test.true).1

pub invariant_of-result : goal.invariant_of-result
invariant_of-result c =
    let made = c.loop-kind.invariant in
    let kinds = c.as_slice-kind-items.result.now in
    let whole : take c.loop-kind.kind-index kinds ≡ match_kinds c.args.score = take_all c.loop-kind.kind-index kinds (omega arith) ∙ made.all in
    let same : c.loop-kind.kinds.items ≡ map (match_kind c.args.starts.now c.args.score) (match_kinds c.args.score) = made.made ∙ ap (map (match_kind c.args.starts.now c.args.score)) whole in
    rw (same, c.whole.ensures) (record {
      valid = terms-valid c.args.score c.args.starts.now c.match_length.ensures.valid c.requires.listed;
      named = length-map (match_kinds c.args.score) (match_kind c.args.starts.now c.args.score) ∙ sym (length-map (match_kinds c.args.score) name_of);
    })

pub returns : goal.returns
returns c =
    let made = c.loop-kind.invariant in
    let kinds = c.as_slice-kind-items.result.now in
    let whole : take c.loop-kind.kind-index kinds ≡ match_kinds c.args.score = take_all c.loop-kind.kind-index kinds (omega arith) ∙ made.all in
    let same : c.loop-kind.kinds.items ≡ map (match_kind c.args.starts.now c.args.score) (match_kinds c.args.score) = made.made ∙ ap (map (match_kind c.args.starts.now c.args.score)) whole in
    rw (same, c.whole.ensures) (λ i. terms_of c.args.score c.args.starts.now)

pub loop-kind-preserved : goal.loop-kind-preserved
loop-kind-preserved c =
    let made = c.loop-kind.invariant in
    let kinds = c.as_slice-kind-items.result.now in
    let one = match_kind c.args.starts.now c.args.score in
    record {
      all = made.all;
      made = c.push.ensures.items ∙ ap (λ (items : List Kind). items ++ c.kind.result ∷ []) made.made ∙ ap (λ (kind : Kind). map one (take c.loop-kind.kind-index kinds) ++ kind ∷ []) c.kind.ensures ∙ sym (map_more one kinds c.loop-kind.kind-index _ c.loop-kind-test.true);
    }
