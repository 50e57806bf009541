use Rattle.std.proofs.Common.{bit_and}
use Rattle.std.proofs.lemmas.Bool.{eq-eqb, eqb-true}
use Rattle.position_rank.proofs.PointLaws.{live-from-points, points-from-live}
use Rattle.position_rank.proofs.points.MoverPoints.are_live.Goals as goal

pub returns : goal.returns
returns c = rw (c.self.view_is, c.other.view_is) (λ p mover other. (
  λ none. live-from-points c.args.self c.args.other p mover other (eqb-true (bit_and c.args.self c.args.other) 0 none),
  λ live. eq-eqb (bit_and c.args.self c.args.other) 0 (points-from-live c.args.self c.args.other p mover other live),
))
