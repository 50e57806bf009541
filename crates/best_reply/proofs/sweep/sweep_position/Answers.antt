use Rattle.std.proofs.Common.{◌∙◌, List, ap}
use Rattle.directed_fixed.specs.Bounds.{Bounds}
use Rattle.cube_actions.specs.Stakes.{Terms, IsValid}
use Rattle.best_reply.specs.ReplyPairs.{turn_by}
use Rattle.best_reply.specs.Tables.{policy_of, sums_in, turn_from, words_by}
use Rattle.best_reply.proofs.Filling.{bank-place, fill-step, followed-turn}
use Rattle.best_reply.proofs.OutcomeLemmas.{some-at}
use Rattle.best_reply.proofs.sweep.sweep_position.Goals as goal

pub put_turns-requires-clause-inside : goal.put_turns-requires-clause-inside
put_turns-requires-clause-inside c = bank-place c.args.words.now.game c.args.new.now c.args.rank c.requires.before.full c.requires.rank

pub returns : goal.returns
returns c =
    let words = c.args.words.now in
    let game = words.game in
    let rank = c.args.rank in
    let u = words_by c.args.old.now in
    let target = turn_by (policy_of words) game.stakes u in
    let valid : IsValid game.stakes = c.requires.game.stakes in
    let at = some-at game c.requires.game rank 0 c.requires.rank valid.some in
    let q = at.position in
    let state = at.state in
    fill-step game target rank q state.position state.live state.many at.ranked (turn_from c.stakes.result.now (sums_in c.deref.result.now)) c.args.new.now c.put_turns.new.bank
    (λ k inside.
    ap (λ (s : Terms). turn_from s (sums_in c.deref.result.now) k) c.stakes.ensures
    ∙ (ap (λ (xs : List Bounds). turn_from game.stakes (sums_in xs) k) c.deref.ensures.0
    ∙ followed-turn game target rank q state.position state.live state.many at.ranked valid c.follow_sums-sums.result.items (policy_of words) u
    (λ j kind. c.follow_sums-sums.ensures.sums q j (record { position = state.position; many = state.many; live = state.live; kind = kind }) at.ranked) k inside))
    c.requires.before c.put_turns.ensures.put
