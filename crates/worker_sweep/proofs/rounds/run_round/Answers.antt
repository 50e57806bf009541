use Rattle.std.proofs.Common.{◌≡◌, All, List, ◌+◌, ap, sym, subst, ◌∙◌}
use Rattle.worker_sweep.specs.Shares.{Share, HasDone, IsOnLeft, shares_of}
use Rattle.worker_sweep.proofs.RoundLemmas.{work-settled, hands-settled}
use Rattle.worker_sweep.proofs.ShareLemmas.{done-all, rest-round}
use Rattle.worker_sweep.proofs.rounds.run_round.Goals as goal

pub returns-clause-done : goal.returns-clause-done
returns-clause-done g c =
    subst (All (HasDone c.args.board.now.game (c.args.base + 1))) (sym (c.follow_all.ensures.shares ∙ c.take_all_in.ensures.shares))
    (done-all c.args.board.now.game c.args.base c.args.claims.now.blocks c.requires.many c.args.crew.now c.sweep_together.new.crew c.sweep_together.ensures.len c.sweep_together.ensures.through c.requires.done)

pub returns-clause-rest : goal.returns-clause-rest
returns-clause-rest g c =
    let game = c.args.board.now.game in
    let shares : shares_of c.sweep_together.new.crew ≡ shares_of c.follow_all.new.crew = sym (c.follow_all.ensures.shares ∙ c.take_all_in.ensures.shares) in
    let work : c.sweep_rest.new.self.seat.view.work ≡ c.follow_all.new.owner.seat.view.work = sym (ap (λ w. w.seat.view.work) c.follow_all.ensures.owner ∙ work-settled c.sweep_rest.new.self c.settle.new.self c.settle.ensures) in
    let owner = c.take_all_in.new.owner in
    let rest =
    rest-round game c.args.base c.args.claims.now.blocks c.requires.many c.args.crew.now c.sweep_together.new.crew c.sweep_together.ensures.len c.sweep_together.ensures.through c.requires.done
    c.args.owner.now.seat.view.work owner c.sweep_rest.new.self.seat.view.work c.requires.rest c.take_all_in.ensures.work c.take_all_in.ensures.owner.after c.take_all_in.ensures.marks c.sweep_rest.ensures.work in
    subst (λ (ss : List Share). All (IsOnLeft game (c.args.base + 1) ss) c.follow_all.new.owner.seat.view.work) shares
    (subst (All (IsOnLeft game (c.args.base + 1) (shares_of c.sweep_together.new.crew))) work rest)

pub returns-clause-hands : goal.returns-clause-hands
returns-clause-hands g c =
    ap (λ w. w.seat.view.hands) c.follow_all.ensures.owner
    ∙ (hands-settled c.sweep_rest.new.self c.settle.new.self c.settle.ensures ∙ (c.sweep_rest.ensures.seat.hands ∙ c.take_all_in.ensures.hands))
