use Rattle.std.proofs.Common.{◌≡◌, ◌∙◌, List, ap, sym, subst}
use Rattle.cube_actions.specs.declared.kind.Kind.{Kind}
use Rattle.cube_actions.specs.Stakes.{Terms, kind_at, IsValid}
use Rattle.turn_rule.specs.States.{IsState}
use Rattle.interval_words.specs.WordLists.{words_in_list}
use Rattle.play_analyser.specs.Regrets.{play_pair}
use Rattle.best_reply.specs.declared.left.Left.{Left}
use Rattle.best_reply.specs.Tables.{IsFirstBest, RollAt, ends_in, policy_of}
use Rattle.best_reply.proofs.Lefts.{first-advised}
use Rattle.best_reply.proofs.Lines.{advised-alone}
use Rattle.best_reply.proofs.Listed.{listed-states}
use Rattle.best_reply.proofs.roll_lefts.RollLefts.advised.Goals as goal

pub first_best-requires-clause-states : goal.first_best-requires-clause-states
first_best-requires-clause-states c =
    let game = c.args.words.now.game in
    let valid : IsValid game.stakes = rw (← c.stakes.ensures) c.kind-kind.ensures.valid in
    let kind : c.kind-kind.result.now ≡ kind_at game.stakes c.args.number = c.kind-kind.ensures.kind ∙ ap (λ (s : Terms). kind_at s c.args.number) c.stakes.ensures in
    let at : RollAt = record { position = c.self.inside.position; roll = c.self.inside.roll; times = c.self.inside.times } in
    let listed = c.self.invariant.listed in
    rw (kind, c.as_slice.ensures.value) (listed-states game valid at.position c.args.number (subst (λ (a : RollAt). IsState game a.position c.args.number) (sym c.self.view_is) c.requires) at.roll listed.right (ends_in c.self.inside.lefts.items) listed.legal)

pub returns-clause-end : goal.returns-clause-end
returns-clause-end c =
    let game = c.args.words.now.game in
    let u = words_in_list c.args.words.now in
    let kind : c.kind-kind.result.now ≡ kind_at game.stakes c.args.number = c.kind-kind.ensures.kind ∙ ap (λ (s : Terms). kind_at s c.args.number) c.stakes.ensures in
    let at : RollAt = record { position = c.self.inside.position; roll = c.self.inside.roll; times = c.self.inside.times } in
    let first : IsFirstBest (play_pair (kind_at game.stakes c.args.number) u) c.self.inside.lefts.items c.first_best.result =
    subst (λ (k : Kind). IsFirstBest (play_pair k u) c.self.inside.lefts.items c.first_best.result) kind (subst (λ (xs : List Left). IsFirstBest (play_pair c.kind-kind.result.now u) xs c.first_best.result) c.as_slice.ensures.value c.first_best.ensures) in
    let left = c.index-deref-first_best.result in
    let here = c.index-deref-first_best.is in
    let is = first-advised game.stakes u at c.args.number c.self.inside.lefts.items c.self.invariant.listed c.first_best.result first left (rw (← c.deref.ensures.0) here) in
    advised-alone game.stakes u at.position c.args.number at.roll left.end is ∙ ap (λ (a : RollAt). policy_of c.args.words.now a.position c.args.number a.roll) c.self.view_is
