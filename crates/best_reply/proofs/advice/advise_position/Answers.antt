use Rattle.std.proofs.Common.{◌≡◌, ◌+◌, ◌*◌, ◌∙◌, ℕ, length, ap, sym, arith}
use Rattle.position_rank.specs.LiveRanks.{live_rank_of}
use Rattle.cube_actions.specs.Stakes.{Terms}
use Rattle.turn_rule.specs.Games.{kinds_of}
use Rattle.interval_words.specs.Numbers.{state_of}
use Rattle.best_reply.proofs.advice.advise_position.Goals as goal

pub loop-number-init : goal.loop-number-init
loop-number-init c = record { advised = c.requires.so_far.advised; many = omega (arith, c.requires.so_far.many) }

pub push_advised-requires-clause-state : goal.push_advised-requires-clause-state
push_advised-requires-clause-state c =
    let kinds : c.kinds-number-end.result ≡ kinds_of c.args.words.now.game = c.kinds-number-end.ensures.kinds ∙ ap (λ (s : Terms). length s.kinds) c.stakes.ensures in
    rw c.fill.ensures (record {
      position = c.unrank-position.ensures.valid;
      many = c.unrank-position.ensures.checkers ∙ c.index.ensures;
      live = c.unrank-position.ensures.live;
      kind = omega (arith, kinds, c.loop-number-test.true);
    })

pub push_advised-requires-clause-many : goal.push_advised-requires-clause-many
unfolding state_of
push_advised-requires-clause-many c =
    let ranked : live_rank_of c.fill.new.self ≡ c.args.rank = ap live_rank_of c.fill.ensures ∙ c.unrank-position.ensures.rank in
    c.loop-number.invariant.many ∙ sym (ap (λ (n : ℕ). (n * kinds_of c.args.words.now.game + c.loop-number.number) * 21) ranked)

pub loop-number-preserved : goal.loop-number-preserved
unfolding state_of
loop-number-preserved c =
    let ranked : live_rank_of c.fill.new.self ≡ c.args.rank = ap live_rank_of c.fill.ensures ∙ c.unrank-position.ensures.rank in
    record {
      advised = c.in_ok-push_advised.ensures.advised;
      many = omega (arith, c.in_ok-push_advised.ensures.many ∙ ap (λ (n : ℕ). (n * kinds_of c.args.words.now.game + c.loop-number.number + 1) * 21) ranked);
    }

pub returns : goal.returns
returns c =
    let kinds : c.kinds-number-end.result ≡ kinds_of c.args.words.now.game = c.kinds-number-end.ensures.kinds ∙ ap (λ (s : Terms). length s.kinds) c.stakes.ensures in
    let last : c.loop-number.number ≡ kinds_of c.args.words.now.game = omega (arith, c.loop-number-test.false, c.loop-number.auto.number-end, kinds) in
    record {
      advised = c.loop-number.invariant.advised;
      many = omega (arith, c.loop-number.invariant.many ∙ ap (λ (n : ℕ). (c.args.rank * kinds_of c.args.words.now.game + n) * 21) last);
    }
