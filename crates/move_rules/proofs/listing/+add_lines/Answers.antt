use Rattle.std.proofs.Common.{rules, ◌≡◌, ◌≢◌, ℕ, ◌+◌, ◌<◌, List, length, drop, ap, subst, sym, arith}
use Rattle.std.proofs.lemmas.Bool.Decides.{nat_tests}
use Rattle.move_rules.specs.Ends.{Line}
use Rattle.move_rules.specs.Listing.{full, AddsNewEnds, lines_of}
use Rattle.move_rules.specs.declared.play.Move.{Move}
use Rattle.move_rules.proofs.LinesAdded.{full-end, adds-begin, room-here, rest-is, rest-right, rest-length, length-lines, popped-is, adds-some, adds-none}
use Rattle.move_rules.proofs.listing.+add_lines.Goals as goal
use Rattle.move_rules.proofs.listing.+add_lines.Goals.{in-Some, in_default}

pub add_end-requires : goal.add_end-requires
add_end-requires t c =
    let none : length c.args.dice.now ≡ 0 = grind (arith, nat_tests) in
    omega (arith, ap (λ (x : List Line). length x) (full-end c.args.dice.now c.args.play.now.items c.args.position.now none))

pub returns-then-is_empty-clause-adds : goal.returns-then-is_empty-clause-adds
returns-then-is_empty-clause-adds t c =
    let none : length c.args.dice.now ≡ 0 = grind (arith, nat_tests) in
    rw (full-end c.args.dice.now c.args.play.now.items c.args.position.now none) c.add_end.ensures

pub loop-from-init : goal.loop-from-init
loop-from-init t c =
    let some : 0 < length c.args.dice.now = grind (arith, nat_tests) in
    let h = c.highest_below-from.ensures in
    adds-begin _ _ _ _ _ some h.below h.held h.empty (omega (arith, c.requires.room, length-lines c.args.list.now.items))

pub add_lines-requires : goal.add_lines-requires
add_lines-requires t c =
    let some : length c.args.dice.now ≢ 0 = grind (arith, nat_tests) in
    let dice = c.args.dice.now in
    let less : length (drop 1 dice) + 1 ≡ length dice = rest-length dice some in
    let room = room-here dice _ _ _ _ _ _ _ _ c.loop-from.invariant c.loop-from-test.true (sym c.in-Some.ensures) c.push.ensures.items in
    rw (rest-is dice) (search rules, (rest-right dice c.requires.dice, (omega (arith, c.requires.few, less, c.push.ensures.len, ap (λ (x : List Move). length x) c.loop-from.invariant.same), omega (arith, room, length-lines c.loop-from.list.items))))

pub loop-from-preserved : goal.loop-from-preserved
loop-from-preserved t c =
    let low = c.highest_below-from-in-loop-from.ensures in
    elim c.match-after_move.branch [
      | in-Some w ↦ (
          let same = popped-is _ _ _ _ _ w.push.ensures.items w.add_lines.ensures.play w.pop.ensures.rest in
          let adds = subst (λ (x : List ℕ). AddsNewEnds (lines_of c.loop-from.list.items) (full x w.push.new.self.items w.in-Some.next) (lines_of w.add_lines.new.list.items)) (rest-is c.args.dice.now) w.add_lines.ensures.adds in
          rw (w.list-is, w.play-is) (adds-some _ _ _ _ _ _ _ _ _ _ _ _ c.loop-from.invariant same low.below low.held low.empty (sym w.in-Some.ensures) w.push.ensures.items adds))
      | in_default w ↦ rw (w.list-is, w.play-is) (adds-none _ _ _ _ _ _ _ _ c.loop-from.invariant low.below low.held low.empty (sym w.in_default.ensures))
    ]
