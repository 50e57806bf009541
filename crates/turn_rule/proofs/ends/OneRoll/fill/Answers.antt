use Rattle.std.proofs.Common.{ap, sym, subst, ℕ, ◌≡◌, ◌∙◌, ◌↔◌, List, take}
use Rattle.std.specs.List.{Contains}
use Rattle.std.proofs.lemmas.List.{length-map, take_all}
use Rattle.position_rank.specs.Placement.{Placement}
use Rattle.roll_table.specs.Rolls.{Dice}
use Rattle.move_rules.specs.Order.{ends_of}
use Rattle.move_rules.specs.Sequences.{IsLegalEnd}
use Rattle.turn_rule.specs.Looks.{AreEndsInOrder}
use Rattle.turn_rule.proofs.ends.OneRoll.fill.Goals as goal

pub returns-clause-ends : goal.returns-clause-ends
returns-clause-ends c =
    let p = c.args.position.now in
    let all : take c.loop-entry.entry-index c.as_slice-entry-items.result.now ≡ c.as_slice-entry-items.result.now = take_all c.loop-entry.entry-index _ c.loop-entry-test.false in
    let is : c.loop-entry.self.ends.items ≡ ends_of c.plays.new.list.items = c.loop-entry.invariant.ends ∙ ap ends_of (all ∙ c.as_slice-entry-items.ensures.value) in
    let roll : c.loop-entry.self.roll ≡ c.args.self.now.roll = ap (λ (w : Dice × ℕ). w.0) c.loop-entry.invariant.weighted in
    record {
      some = rw (is, length-map) c.plays.ensures.some;
      ends = subst (λ (r : Dice). AreEndsInOrder p r c.loop-entry.self.ends.items) (sym roll) (record {
        entries = c.plays.new.list.items;
        are = is;
        legal = λ q. subst (λ (xs : List Placement). Contains xs q ↔ IsLegalEnd p c.args.self.now.roll q) (sym is) (c.plays.ensures.ends q);
        first = c.plays.ensures.first;
        in_order = c.plays.ensures.in_order;
      });
    }
