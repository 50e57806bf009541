use Rattle.std.proofs.Common.{◌≡◌, ◌+◌, ℕ, [], drop, ap, sym, arith}
use Rattle.std.proofs.lemmas.List.{drop_all}
use Rattle.std.proofs.lemmas.Result.{err_from_is_err_and}
use Rattle.game_record.specs.Lines.{game_lines, games_lines}
use Rattle.game_record.specs.Replay.{first_moment}
use Rattle.game_record.proofs.GoOn.{game-counts, next-item, on-begins, on-ends, on-lines, on-same, ready-front, stops-among}
use Rattle.game_record.proofs.Keeps.{ready-record}
use Rattle.game_record.proofs.replaying.replay_games.Goals as goal

pub loop-game-init : goal.loop-game-init
loop-game-init c =
    let rec = c.args.rec.now in
    let start : c.first-moment.result ≡ first_moment rec = c.first-moment.ensures in
    let items : c.as_slice-game-items.result.now ≡ rec.games = c.as_slice-game-items.ensures in
    rw (start, items, c.new-decisions.ensures) (on-begins (first_moment rec) (games_lines 1 rec.games) [] (ready-record rec c.requires))

pub play-requires : goal.play-requires
play-requires c =
    let items = c.as_slice-game-items.result.now in
    let left = next-item items c.loop-game.game-index c.game-item.result c.loop-game-test.true c.game-item.is in
    let on = on-same _ _ _ _ _ _ _ c.loop-game.invariant (ap (λ xs. games_lines (c.loop-game.moment.game + 1) xs) left) in
    ready-front (game_lines (c.loop-game.moment.game + 1) c.game-item.result) _ c.loop-game.moment on.ready

pub returns-in_err-moment-clause-err : goal.returns-in_err-moment-clause-err
returns-in_err-moment-clause-err c =
    let p = err_from_is_err_and c.from_residual.result c.from_residual.ensures.1 in
    let items = c.as_slice-game-items.result.now in
    let left = next-item items c.loop-game.game-index c.game-item.result c.loop-game-test.true c.game-item.is in
    let on = on-same _ _ _ _ _ _ _ c.loop-game.invariant (ap (λ xs. games_lines (c.loop-game.moment.game + 1) xs) left) in
    rw (p.1, p.2) (stops-among _ _ _ _ (game_lines (c.loop-game.moment.game + 1) c.game-item.result) _ _ c.in_err-moment.field-0.0 on c.in_err-moment.ensures.err)

pub loop-game-preserved : goal.loop-game-preserved
loop-game-preserved c =
    let items = c.as_slice-game-items.result.now in
    let number = c.loop-game.moment.game + 1 in
    let left = next-item items c.loop-game.game-index c.game-item.result c.loop-game-test.true c.game-item.is in
    let on = on-same _ _ _ _ _ _ _ c.loop-game.invariant (ap (λ xs. games_lines number xs) left) in
    let told = c.in_ok-moment.ensures.ok in
    let count : c.in_ok-moment.moment.game ≡ number = game-counts number c.game-item.result c.loop-game.moment told.0 c.in_ok-moment.moment told.2 in
    let next = on-lines _ _ _ _ (game_lines number c.game-item.result) _ _ _ _ _ on told.2 told.1 in
    on-same _ _ _ _ _ _ _ next (ap (λ (n : ℕ). games_lines (n + 1) (drop (c.loop-game.game-index + 1) items)) (sym count))

pub returns-clause-ok : goal.returns-clause-ok
returns-clause-ok c =
    let left = drop_all c.loop-game.game-index c.as_slice-game-items.result.now (omega arith) in
    let on = on-same _ _ _ _ _ _ _ c.loop-game.invariant (ap (λ xs. games_lines (c.loop-game.moment.game + 1) xs) left) in
    let all = on-ends _ _ _ _ _ on in
    (c.loop-game.moment, rw (all.1) all.2)
