use Rattle.std.proofs.Common.{◌≡◌, inl, inr, ℕ, get_or, subst, arith, sym}
use Rattle.std.proofs.lemmas.Bool.{cases_lt}
use Rattle.column_sums.specs.Listings.{IsListed}
use Rattle.column_sums.proofs.Listed.{listed-again, listed-some, rank-cell}
use Rattle.column_sums.proofs.moves.list_movers.Goals as goal

pub loop-mover-preserved : goal.loop-mover-preserved
loop-mover-preserved c =
    let movers = c.args.movers.now in
    let at = c.loop-mover.mover-index in
    let kept = c.add.ensures.kept in
    record {
      listed = λ i below. elim (cases_lt i at) [
        | inl before ↦ listed-again c.loop-mover.listing c.add.new.self (get_or movers i 0) kept (c.loop-mover.invariant.listed i before)
        | inr last ↦ (
            let same : at ≡ i = omega (arith, last, below) in
            subst (λ (j : ℕ). IsListed c.add.new.self (get_or movers j 0)) same (listed-some c.add.new.self (get_or movers at 0) (c.requires at 0 c.loop-mover-test.true) c.add.ensures.listed))
      ];
      only = λ i below. elim (c.add.ensures.only i below) [
        | inl old ↦ subst (IsListed movers) old.2 (c.loop-mover.invariant.only old.0 old.1)
        | inr is ↦ (at, c.loop-mover-test.true, sym is)
      ];
      cells = λ many few all. c.add.ensures.cells many 1 (c.loop-mover.invariant.cells many few all) (inr (rank-cell many (get_or movers at 0) few (all at 0 c.loop-mover-test.true)));
    }
