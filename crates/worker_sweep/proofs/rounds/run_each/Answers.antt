use Rattle.std.proofs.Common.{rules, ◌≡◌, ◌+◌, ℕ, false, All, IfSome, inl, inr, arith, sym, subst, ◌∙◌}
use Rattle.std.proofs.lemmas.Bool.{cases_lt}
use Rattle.turn_rule.specs.Turn.{rounds}
use Rattle.interval_words.specs.WordLists.{AreNarrow}
use Rattle.worker_sweep.specs.Shares.{IsOnLeft, shares_of}
use Rattle.worker_sweep.proofs.RoundLemmas.{ready-on}
use Rattle.worker_sweep.proofs.rounds.run_each.Goals as goal

pub loop-base-preserved : goal.loop-base-preserved
loop-base-preserved g c =
    let board = c.args.board.now in
    let now = c.loop-base.base + 1 in
    let before = c.loop-base.invariant in
    let round = c.run_round.ensures in
    let asked = c.has_met.ensures in
    let unmet : c.has_met.result ≡ false = search rules in
    record {
      owner = ready-on board c.args.claims.now now c.run_round.new.owner c.has_met.new.owner round.owner asked.seat asked.marks asked.claims asked.number;
      workers = round.crew;
      claims = asked.claims ∙ (round.claims ∙ before.claims);
      hands = asked.seat.hands ∙ (round.hands ∙ before.hands);
      many = round.len ∙ before.many;
      done = round.done;
      rest = subst (All (IsOnLeft board.game now (shares_of c.run_round.new.crew))) (sym asked.work) round.rest;
      unmet = λ earlier some within. elim (cases_lt earlier now) [
        | inl before_now ↦ before.unmet earlier some (omega arith)
        | inr last ↦ (
            let here : c.run_round.new.owner.seat.view.base ≡ earlier = omega (arith, round.owner.works.after) in
            subst (λ (n : ℕ). IfSome c.args.goal (λ widest. AreNarrow board.game (rounds board.game.stakes n) widest → ⊥)) here (asked.unmet unmet))
      ];
    }
