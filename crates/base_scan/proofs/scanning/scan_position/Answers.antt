use Rattle.std.proofs.Common.{rules, arith, ◌≡◌, ◌<◌, ◌*◌, ◌∙◌, refl, sym, ap, subst}
use Rattle.position_rank.specs.LiveRanks.{live_rank_of}
use Rattle.position_rank.specs.Placement.{Placement}
use Rattle.turn_rule.specs.Games.{kinds_of}
use Rattle.turn_rule.specs.States.{IsState}
use Rattle.base_scan.specs.Found.{IsFoundState}
use Rattle.base_scan.specs.declared.numbers.Depth.TheVariants.{Checkers}
use Rattle.base_scan.specs.Meets.{meets, meets_by}
use Rattle.base_scan.specs.Sides.{position_of}
use Rattle.base_scan.proofs.Numbered.{is-seen}
use Rattle.base_scan.proofs.Scans.{kind-more, right-more, state-at}
use Rattle.base_scan.proofs.Looks.{no-checkers}
use Rattle.base_scan.proofs.scanning.scan_position.Goals as goal
use Rattle.base_scan.proofs.scanning.scan_position.Goals.{then-may, else-may}

pub meets_with-kept-requires : goal.meets_with-kept-requires
meets_with-kept-requires c =
    let words = c.args.words.now in
    let kind = c.loop-kind.kind in
    let p = position_of c.args.mover.now c.args.other.now in
    let at : c.unwrap-position.result ≡ p = search rules in
    let low : kind < kinds_of words.game = search rules in
    let state : IsState words.game p kind =
    record {
      position = record { mover = c.requires.mover.valid; other = c.requires.other.valid; same = c.requires.mover.many ∙ sym c.requires.other.many };
      many = c.requires.mover.many;
      live = c.requires.live;
      kind = low;
    }
    in
    is-seen words p kind c.first_state-first.result _ state (c.states_are_numbered.ensures.below words.game p kind state)
    (c.first_state-first.ensures.first ∙ ap (λ (q : Placement). live_rank_of q * kinds_of words.game) at) at refl refl c.requires.mover.side c.requires.other.side

pub may_meet-may-requires : goal.may_meet-may-requires
may_meet-may-requires c =
    let words = c.args.words.now in
    let p = position_of c.args.mover.now c.args.other.now in
    let at : c.unwrap-position.result ≡ p = search rules in
    let low : 0 < kinds_of words.game = search rules in
    let state : IsState words.game p 0 =
    record {
      position = record { mover = c.requires.mover.valid; other = c.requires.other.valid; same = c.requires.mover.many ∙ sym c.requires.other.many };
      many = c.requires.mover.many;
      live = c.requires.live;
      kind = low;
    }
    in
    is-seen words p 0 c.first_state-first.result _ state (c.states_are_numbered.ensures.below words.game p 0 state)
    (c.first_state-first.ensures.first ∙ ap (λ (q : Placement). live_rank_of q * kinds_of words.game) at) at refl (omega arith) c.requires.mover.side c.requires.other.side

pub loop-kind-preserved : goal.loop-kind-preserved
loop-kind-preserved c =
    let words = c.args.words.now in
    let groups = c.args.condition.now in
    let kind = c.loop-kind.kind in
    let p = position_of c.args.mover.now c.args.other.now in
    let at : c.unwrap-position.result ≡ p = search rules in
    let low : kind < kinds_of words.game = search rules in
    let state : IsState words.game p kind =
    record {
      position = record { mover = c.requires.mover.valid; other = c.requires.other.valid; same = c.requires.mover.many ∙ sym c.requires.other.many };
      many = c.requires.mover.many;
      live = c.requires.live;
      kind = low;
    }
    in
    let kept : c.if-may.kept ≡ meets words groups p kind =
    elim c.if-may.branch [
      | then-may w ↦ w.kept-is ∙ (w.meets_with-kept.ensures ∙ ap (λ (q : Placement). meets words groups q kind) at)
      | else-may w ↦
          w.kept-is ∙ (w.if-may.false ∙ sym (no-checkers words groups p 0 kind
          (ap (λ (q : Placement). meets_by Checkers words groups q 0) (sym at) ∙ c.may_meet-may.ensures w.if-may.false)))
    ]
    in
    let told = state-at c.unwrap-position.result p kind c.state_of.result c.state_of.ensures at in
    record {
      found = kind-more words groups p kind c.if-may.kept c.state_of.result c.args.found.now.items c.loop-kind.found.items c.push_if.new.found.items
          kept told c.loop-kind.invariant.found c.in_ok-push_if.ensures;
      right = λ before. right-more words groups c.if-may.kept c.state_of.result c.loop-kind.found.items c.push_if.new.found.items
          (subst (IsFoundState words.game) (sym told) state) (c.loop-kind.invariant.right before) c.in_ok-push_if.ensures;
    }
