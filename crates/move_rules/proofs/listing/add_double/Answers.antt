use Rattle.std.proofs.Common.{List, ap}
use Rattle.move_rules.specs.Listing.{lines_of}
use Rattle.move_rules.specs.declared.play.Entry.{Entry}
use Rattle.move_rules.proofs.LinesAdded.{adds-double}
use Rattle.move_rules.proofs.listing.add_double.Goals as goal

pub returns : goal.returns
returns c =
    adds-double c.args.position.now c.args.die (lines_of c.args.list.now.items) (lines_of c.add_if_none.new.list.items) (lines_of c.add_if_none-2.new.list.items) (lines_of c.add_if_none-3.new.list.items) (lines_of c.add_if_none-4.new.list.items) (lines_of c.add_if_none-5.new.list.items)
    (ap (λ (x : List Entry). lines_of x) c.requires.empty) c.add_if_none.ensures c.add_if_none-2.ensures c.add_if_none-3.ensures c.add_if_none-4.ensures c.add_if_none-5.ensures
