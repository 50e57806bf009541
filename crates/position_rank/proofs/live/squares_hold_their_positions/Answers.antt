use Rattle.position_rank.proofs.LiveLaws.{board_at-rank, live-from, from-live}
use Rattle.position_rank.proofs.live.squares_hold_their_positions.Goals as goal

pub returns-clause-at : goal.returns-clause-at
returns-clause-at c = board_at-rank

pub returns-clause-live : goal.returns-clause-live
returns-clause-live c = λ p. (live-from p, from-live p)
