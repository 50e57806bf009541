use Rattle.std.proofs.Common.{◌≤◌, ◌<◌, ◌*◌, subst, arith}
use Rattle.game_record.specs.Ready.{IfMatch}
use Rattle.game_record.proofs.CubeLaws.{at-most-8, few-points}
use Rattle.game_record.proofs.moment.Moment.standing_after.Goals as goal

-- src/moment.rt:138:36
pub overflow_mul-points : goal.overflow_mul-points
overflow_mul-points c =
    let turns = c.args.self.now.progress.cube.turns in
    let few : turns ≤ 3 = subst (λ stakes. IfMatch stakes (λ length. turns ≤ 3)) c.in-Match.is c.requires.turns in
    let shown : c.shows.result ≤ 8 = omega (arith, at-most-8 turns few, c.shows.ensures) in
    let small : c.args.points * c.shows.result < 256 = few-points c.args.points c.shows.result c.requires.points shown in
    omega (arith, small)
