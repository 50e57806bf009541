use Rattle.std.proofs.Common.{◌≡◌, ◌+◌, ◌-◌, ◌<◌, ◌≤◌, arith, inl, inr, ℕ}
use Rattle.std.proofs.lemmas.Bool.{cases_lt}
use Rattle.position_rank.specs.Ranks.{choose}
use Rattle.position_rank.proofs.Choose.{choose-too_many}
use Rattle.position_rank.proofs.rank.top_place.Goals as goal

more : (rank number place ways : ℕ) → 1 ≤ number → rank < ways → ways ≡ choose (place + number - 1) number → 1 ≤ place
more rank number place ways low less is = elim (cases_lt 0 place) [
  | inl on ↦ on
  | inr off ↦ absurd (omega (arith, choose-too_many (place + number - 1) number (omega arith)))
]

pub overflow_sub-place : goal.overflow_sub-place
overflow_sub-place c = more c.args.rank c.args.number c.loop-place.place c.ways.result c.requires.low c.loop-place-test.true c.ways.ensures.ways

pub loop-place-preserved : goal.loop-place-preserved
loop-place-preserved c =
    let on : 1 ≤ c.loop-place.place = more c.args.rank c.args.number c.loop-place.place c.ways.result c.requires.low c.loop-place-test.true c.ways.ensures.ways in
    let same : c.loop-place.place - 1 + c.args.number ≡ c.loop-place.place + c.args.number - 1 = omega arith in
    record { within = omega arith; below = rw same (omega arith) }

pub loop-place-smaller : goal.loop-place-smaller
loop-place-smaller c =
    let on : 1 ≤ c.loop-place.place = more c.args.rank c.args.number c.loop-place.place c.ways.result c.requires.low c.loop-place-test.true c.ways.ensures.ways in
    omega arith
