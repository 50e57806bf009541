use Rattle.std.proofs.Common.{◌≡◌, ◌*◌, ◌∙◌, ℕ, length, ap}
use Rattle.position_rank.specs.LiveRanks.{live_positions}
use Rattle.cube_actions.specs.Stakes.{Terms}
use Rattle.interval_words.specs.Numbers.{states_in}
use Rattle.game_census.proofs.widths.state_count.Goals as goal

pub returns-clause-states : goal.returns-clause-states
unfolding states_in
returns-clause-states c =
    let count : c.count.result ≡ live_positions c.args.board.now.game.checkers = c.count.ensures.count ∙ ap (λ (n : ℕ). live_positions n) c.index.ensures in
    let kinds : c.kinds.result ≡ length c.args.board.now.game.stakes.kinds = c.kinds.ensures.kinds ∙ ap (λ (t : Terms). length t.kinds) c.stakes.ensures in
    ap (λ (n : ℕ). n * c.kinds.result) count ∙ ap (λ (n : ℕ). live_positions c.args.board.now.game.checkers * n) kinds
