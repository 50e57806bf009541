use Rattle.std.proofs.Common.{◌≡◌, ◌<◌, length, refl, arith}
use Rattle.std.proofs.lemmas.Bool.Decides.{nat_tests}
use Rattle.move_rules.specs.Listing.{lines_of}
use Rattle.move_rules.proofs.LinesAdded.{or_else-adds, length-lines}
use Rattle.move_rules.proofs.LineCounts.{full-few}
use Rattle.move_rules.proofs.listing.add_if_none.Goals as goal

pub add_all-requires-clause-room : goal.add_all-requires-clause-room
add_all-requires-clause-room c =
    let none : length c.args.list.now.items ≡ 0 = grind (arith, nat_tests) in
    omega (arith, none, full-few c.args.dice.now c.args.position.now c.requires.valid.mover.places c.requires.valid.mover.at_most_three c.requires.few)

pub returns-then-is_empty : goal.returns-then-is_empty
returns-then-is_empty c =
    let none : length c.args.list.now.items ≡ 0 = grind (arith, nat_tests) in
    λ found adds. or_else-adds found _ (lines_of c.args.list.now.items) _ adds (λ _. c.add_all.ensures) (λ some. absurd (omega (arith, none, some, length-lines c.args.list.now.items)))

pub returns-else-is_empty : goal.returns-else-is_empty
returns-else-is_empty c =
    let some : 0 < length c.args.list.now.items = grind (arith, nat_tests) in
    λ found adds. or_else-adds found _ (lines_of c.args.list.now.items) _ adds (λ none. absurd (omega (arith, none, some, length-lines c.args.list.now.items))) (λ _. refl)
