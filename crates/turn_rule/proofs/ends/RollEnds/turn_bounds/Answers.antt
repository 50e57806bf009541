use Rattle.std.proofs.Common.{◌≡◌, ◌∙◌}
use Rattle.std.proofs.lemmas.Result.{err_from_is_err_and}
use Rattle.directed_fixed.specs.declared.bounds.End.{End}
use Rattle.turn_rule.specs.Turn.{Words, turn}
use Rattle.turn_rule.specs.Looks.{MayFollowTurn}
use Rattle.turn_rule.proofs.Found.{then-err}
use Rattle.turn_rule.proofs.Values.{paired, turn-order}
use Rattle.turn_rule.proofs.ends.RollEnds.turn_bounds.Goals as goal

pub returns-clause-looked : goal.returns-clause-looked
returns-clause-looked g c =
    let s = (g.P.Pairs.seen c.args.pairs.now).source in
    let stakes = c.args.stakes.now in
    let p = c.args.self.now in
    let k = c.args.kind in
    let last = (g.P.Pairs.seen c.turn_at-2.new.pairs).notes in
    let same : (g.P.Pairs.seen c.turn_at-2.new.pairs).source ≡ s = c.in_ok-upper.ensures.source ∙ c.in_ok-lower.ensures.source in
    let within = rw same at (g.met.P.Pairs.notes_within c.turn_at-2.new.pairs) in
    paired _ s (MayFollowTurn stakes p k) s.bound (λ (end : End) (u : Words). turn stakes u end p k) _ _ last _ _ _ c.in_ok-lower.lower c.in_ok-upper.upper _ c.pair_of.ensures.lower c.pair_of.ensures.upper
    (λ told. turn-order s stakes c.in_ok-lower.ensures.valid c.requires.stakes last.words (within told) p k c.requires.state)
    c.in_ok-lower.ensures.found (rw c.in_ok-lower.ensures.source at c.in_ok-upper.ensures.found)

pub returns-in_err-upper-clause-looked : goal.returns-in_err-upper-clause-looked
returns-in_err-upper-clause-looked g c =
    let s = (g.P.Pairs.seen c.args.pairs.now).source in
    let p = err_from_is_err_and c.from_residual-in_err-upper.result c.from_residual-in_err-upper.ensures.1 in
    rw (p.1, p.2) (then-err s _ _ _ _ _ _ _ _ _ _ _ _ c.in_ok-lower.lower _ c.in_ok-lower.ensures.found (rw c.in_ok-lower.ensures.source at c.in_err-upper.ensures.found) (λ damage told met. met))
