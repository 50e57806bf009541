use Rattle.std.proofs.Common.{◌≡◌, ◌+◌, ◌-◌, ℕ, suc, slice_index, subst, sym, arith}
use Rattle.game_census.specs.Censuses.{AddsState, IsCensus, census_at}
use Rattle.game_census.proofs.cube.censuses_of.Goals as goal

pub loop-rank-preserved : goal.loop-rank-preserved
loop-rank-preserved c i here =
    let words = c.args.words.now in
    let kind = slice_index c.args.kinds.now i in
    let now = census_at c.add_position.new.censuses i in
    let next : suc (c.loop-rank.rank - c.args.from) ≡ c.loop-rank.rank + 1 - c.args.from = omega (arith, c.loop-rank.auto.rank) in
    let at : c.args.from + (c.loop-rank.rank - c.args.from) ≡ c.loop-rank.rank = omega (arith, c.loop-rank.auto.rank) in
    let added : AddsState words kind (c.args.from + (c.loop-rank.rank - c.args.from)) (census_at c.loop-rank.censuses i) now =
    subst (λ (rank : ℕ). AddsState words kind rank (census_at c.loop-rank.censuses i) now) (sym at) (c.add_position.ensures i here) in
    subst (λ (n : ℕ). IsCensus words kind c.args.from n now) next (census_at c.loop-rank.censuses i, c.loop-rank.invariant i here, added)

pub returns : goal.returns
returns c i here =
    let many : c.loop-rank.rank - c.args.from ≡ c.args.to - c.args.from = omega (arith, c.loop-rank-test.false, c.loop-rank.auto.rank, c.loop-rank.auto.rank-end) in
    subst (λ (n : ℕ). IsCensus c.args.words.now (slice_index c.args.kinds.now i) c.args.from n (census_at c.loop-rank.censuses i)) many (c.loop-rank.invariant i here)
