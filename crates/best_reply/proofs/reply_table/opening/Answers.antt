use Rattle.std.proofs.Common.{◌≡◌, ◌∙◌, ap, refl, length}
use Rattle.cube_actions.specs.Stakes.{Terms}
use Rattle.turn_rule.specs.Games.{kinds_of}
use Rattle.turn_rule.specs.Turn.{bound_pair}
use Rattle.best_reply.proofs.Filling.{opening-agrees, opening-rounds}
use Rattle.best_reply.proofs.reply_table.opening.Goals as goal

pub returns-clause-rounds : goal.returns-clause-rounds
returns-clause-rounds c =
    let words = c.args.words.now in
    let right = c.right.ensures.game in
    let states = c.states-states.result in
    let pair : c.new-pair.result ≡ bound_pair words.game.stakes = rw (c.new-pair.ensures, c.neg.ensures, c.bound-bound.ensures.bound, c.stakes-stakes.ensures) refl in
    let kinds : c.kinds.result ≡ kinds_of words.game = c.kinds.ensures.kinds ∙ ap (λ (s : Terms). length s.kinds) c.stakes-stakes.ensures in
    let kinds_too : c.kinds-2.result ≡ kinds_of words.game = c.kinds-2.ensures.kinds ∙ ap (λ (s : Terms). length s.kinds) c.stakes-stakes.ensures in
    opening-rounds words right (record { follow = c.in_ok-filled.field-0; reply = c.in_ok-filled-2.field-0 })
    (opening-agrees words right c.in_ok-filled.field-0 c.kinds.result states c.new-pair.result c.in_ok-filled.ensures kinds c.states-states.ensures.states pair)
    (opening-agrees words right c.in_ok-filled-2.field-0 c.kinds-2.result states c.new-pair.result c.in_ok-filled-2.ensures kinds_too c.states-states.ensures.states pair)
