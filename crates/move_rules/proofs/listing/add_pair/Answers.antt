use Rattle.std.proofs.Common.{List, length, ap, arith}
use Rattle.move_rules.specs.Listing.{lines_of}
use Rattle.move_rules.specs.declared.play.Entry.{Entry}
use Rattle.move_rules.proofs.LinesAdded.{Adds-length, adds-pair, length-lines}
use Rattle.move_rules.proofs.LineCounts.{pair-few}
use Rattle.move_rules.proofs.listing.add_pair.Goals as goal

pub add_all-requires-clause-room : goal.add_all-requires-clause-room
add_all-requires-clause-room c =
    let few = pair-few c.args.high c.args.low c.args.position.now c.requires.valid.mover.places c.requires.valid.mover.at_most_three in
    omega (arith, few, ap (λ (x : List Entry). length x) c.requires.empty)

pub add_all-requires-2-clause-room : goal.add_all-requires-2-clause-room
add_all-requires-2-clause-room c =
    let first = pair-few c.args.high c.args.low c.args.position.now c.requires.valid.mover.places c.requires.valid.mover.at_most_three in
    let few = pair-few c.args.low c.args.high c.args.position.now c.requires.valid.mover.places c.requires.valid.mover.at_most_three in
    omega (arith, few, first, ap (λ (x : List Entry). length (lines_of x)) c.requires.empty, Adds-length _ _ _ c.add_all.ensures, length-lines c.add_all.new.list.items)

pub returns : goal.returns
returns c =
    adds-pair c.args.position.now c.args.high c.args.low (lines_of c.args.list.now.items) (lines_of c.add_all.new.list.items) (lines_of c.add_all-2.new.list.items) (lines_of c.add_if_none.new.list.items) (lines_of c.add_if_none-2.new.list.items) (lines_of c.add_if_none-3.new.list.items)
    (ap (λ (x : List Entry). lines_of x) c.requires.empty) c.add_all.ensures c.add_all-2.ensures c.add_if_none.ensures c.add_if_none-2.ensures c.add_if_none-3.ensures
