use Rattle.std.proofs.Common.{◌≡◌, inl, inr, ℕ, get_or, subst, arith}
use Rattle.std.proofs.lemmas.Bool.{cases_lt}
use Rattle.column_sums.specs.declared.cells.Reach.{Reach}
use Rattle.column_sums.specs.Listings.{LeadsInto}
use Rattle.column_sums.proofs.Listed.{kept-again, listed-kept, into-kept, into-at, cell-short}
use Rattle.column_sums.proofs.listing.Listing.add_after.Goals as goal

abbrev no_reach : Reach
no_reach = record { cell = 0; first = 0; second = 0; third = 0 }

pub add-requires : goal.add-requires
add-requires c = cell-short _ (c.requires c.loop-reach.reach-index no_reach c.loop-reach-test.true).first

pub add-requires-in-loop-reach : goal.add-requires-in-loop-reach
add-requires-in-loop-reach c = cell-short _ (c.requires c.loop-reach.reach-index no_reach c.loop-reach-test.true).second

pub add-requires-in-loop-reach-2 : goal.add-requires-in-loop-reach-2
add-requires-in-loop-reach-2 c = cell-short _ (c.requires c.loop-reach.reach-index no_reach c.loop-reach-test.true).third

pub loop-reach-preserved : goal.loop-reach-preserved
loop-reach-preserved c =
    let reaches = c.args.reaches.now in
    let at = c.loop-reach.reach-index in
    let start = c.args.self.now in
    let s0 = c.loop-reach.self in
    let s1 = c.add.new.self in
    let s2 = c.add-in-loop-reach.new.self in
    let s3 = c.add-in-loop-reach-2.new.self in
    let k1 = c.add.ensures.kept in
    let k2 = c.add-in-loop-reach.ensures.kept in
    let k3 = c.add-in-loop-reach-2.ensures.kept in
    let k13 = kept-again s1 s2 s3 k2 k3 in
    let k03 = kept-again s0 s1 s3 k1 k13 in
    record {
      kept = kept-again start s0 s3 c.loop-reach.invariant.kept k03;
      listed = λ i none below. elim (cases_lt i at) [
        | inl before ↦ into-kept s0 s3 (get_or reaches i none) k03 (c.loop-reach.invariant.listed i none before)
        | inr last ↦ (
            let same : at ≡ i = omega (arith, last, below) in
            subst (λ (j : ℕ). LeadsInto s3 (get_or reaches j none)) same
            (into-at reaches at no_reach none s3 c.loop-reach-test.true (listed-kept s1 s3 _ k13 c.add.ensures.listed) (listed-kept s2 s3 _ k3 c.add-in-loop-reach.ensures.listed) c.add-in-loop-reach-2.ensures.listed))
      ];
      cells = λ many layers are leads. (
          let here = leads at no_reach c.loop-reach-test.true in
          c.add-in-loop-reach-2.ensures.cells many layers (c.add-in-loop-reach.ensures.cells many layers (c.add.ensures.cells many layers (c.loop-reach.invariant.cells many layers are leads) here.first) here.second) here.third);
    }
