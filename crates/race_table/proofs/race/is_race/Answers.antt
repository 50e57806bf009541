use Rattle.std.proofs.Common.{◌≡◌, ◌+◌, ◌<◌, refl, sym, subst, arith}
use Rattle.std.proofs.lemmas.Bool.Decides.{nat_tests}
use Rattle.position_rank.specs.Placement.{IsPosition, swap}
use Rattle.race_table.specs.Races.{highest_of}
use Rattle.race_table.proofs.Counts.{highest-is, race-by-tops}
use Rattle.race_table.proofs.race.is_race.Goals as goal

pub returns-clause-race : goal.returns-clause-race
returns-clause-race c =
    let p = c.args.position.now in
    let a = c.highest_below.result in
    let b = c.highest_below-2.result in
    let turned : IsPosition (swap p) = subst IsPosition c.swap.ensures.swap c.swap.ensures.valid in
    let theirs = rw c.swap.ensures.swap at c.highest_below-2.ensures in
    let tells = race-by-tops p a b (record { mover = turned.other; other = turned.mover; same = sym turned.same }) c.requires
    (record { held = c.highest_below.ensures.held; empty = c.highest_below.ensures.empty })
    (record { held = theirs.held; empty = theirs.empty }) in (
      λ less. tells.1 (let below : a + b < 25 = grind (arith, nat_tests) in below),
      λ race. let below = tells.0 race in grind (arith, nat_tests),
    )

pub returns-clause-highest : goal.returns-clause-highest
returns-clause-highest c =
    let p = c.args.position.now in
    let turned : IsPosition (swap p) = subst IsPosition c.swap.ensures.swap c.swap.ensures.valid in
    let theirs = rw c.swap.ensures.swap at c.highest_below-2.ensures in
    let mine : c.highest_below.result ≡ highest_of p.mover = highest-is p.mover _ turned.other.places (record { held = c.highest_below.ensures.held; empty = c.highest_below.ensures.empty }) in
    let other : c.highest_below-2.result ≡ highest_of p.other = highest-is p.other _ turned.mover.places (record { held = theirs.held; empty = theirs.empty }) in
    rw (mine, other) refl
