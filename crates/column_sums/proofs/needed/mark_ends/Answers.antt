use Rattle.std.proofs.Common.{◌≡◌, ◌<◌, inl, inr, true, ℕ, get_or, set, length, subst, arith}
use Rattle.std.proofs.lemmas.Bool.{cases_lt}
use Rattle.column_sums.specs.declared.cells.Reach.{Reach}
use Rattle.column_sums.specs.Needed.{LeadsToNeeded}
use Rattle.column_sums.proofs.Listed.{any-reach}
use Rattle.column_sums.proofs.Marks.{mark-needed, mark-still, still-same, still-again, leads-still}
use Rattle.column_sums.proofs.needed.mark_ends.Goals as goal

abbrev no_reach : Reach
no_reach = record { cell = 0; first = 0; second = 0; third = 0 }

pub loop-reach-init : goal.loop-reach-init
loop-reach-init c = record { ends = λ i none below. absurd (omega (arith, below)); kept = still-same c.args.needed.now }

pub loop-reach-preserved : goal.loop-reach-preserved
loop-reach-preserved c =
    let reaches = c.args.reaches.now in
    let at = c.loop-reach.reach-index in
    let s0 = c.loop-reach.needed in
    let s1 = set s0 (get_or reaches at no_reach).first true in
    let s2 = set s1 (get_or reaches at no_reach).second true in
    let s3 = set s2 (get_or reaches at no_reach).third true in
    let before = c.loop-reach.invariant in
    let within = c.requires.within at no_reach c.loop-reach-test.true in
    let first : (get_or reaches at no_reach).first < length s0 = omega (arith, within.first, before.kept.many, c.requires.many) in
    let k1 = mark-still s0 (get_or reaches at no_reach).first first in
    let second : (get_or reaches at no_reach).second < length s1 = omega (arith, within.second, k1.many, before.kept.many, c.requires.many) in
    let k2 = mark-still s1 (get_or reaches at no_reach).second second in
    let third : (get_or reaches at no_reach).third < length s2 = omega (arith, within.third, k2.many, k1.many, before.kept.many, c.requires.many) in
    let k3 = mark-still s2 (get_or reaches at no_reach).third third in
    let k13 = still-again s1 s2 s3 k2 k3 in
    let k03 = still-again s0 s1 s3 k1 k13 in
    let this : LeadsToNeeded s3 (get_or reaches at no_reach) = record {
      first = k13.kept _ (mark-needed s0 (get_or reaches at no_reach).first first);
      second = k3.kept _ (mark-needed s1 (get_or reaches at no_reach).second second);
      third = mark-needed s2 (get_or reaches at no_reach).third third;
    } in
    rw (c.from.ensures, c.from-in-loop-reach.ensures, c.from-in-loop-reach-2.ensures) (record {
      ends = λ i none below. elim (cases_lt i at) [
        | inl earlier ↦ leads-still s0 s3 (get_or reaches i none) k03 (before.ends i none earlier)
        | inr last ↦ (
            let same : at ≡ i = omega (arith, last, below) in
            subst (λ (j : ℕ). LeadsToNeeded s3 (get_or reaches j none)) same (subst (LeadsToNeeded s3) (any-reach reaches at no_reach none c.loop-reach-test.true) this))
      ];
      kept = still-again c.args.needed.now s0 s3 before.kept k03;
    })
