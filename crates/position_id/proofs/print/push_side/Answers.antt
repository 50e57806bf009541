use Rattle.std.proofs.Common.{◌≡◌, ◌++◌, [], drop, length-drop, append-nil, ap, arith, ◌∙◌, sym}
use Rattle.std.proofs.lemmas.List.{nil_from_length}
use Rattle.std.specs.List.{flat_map}
use Rattle.position_id.specs.Ids.{place_bits}
use Rattle.position_id.proofs.RoundTrip.{sum-behind}
use Rattle.position_id.proofs.print.push_side.Goals as goal

pub returns-clause-bits : goal.returns-clause-bits
returns-clause-bits c =
    let none : drop c.loop-place.place c.args.side.now ≡ [] = nil_from_length (drop c.loop-place.place c.args.side.now) (omega (arith, length-drop c.loop-place.place c.args.side.now, c.requires.side.places)) in
    sym (append-nil c.loop-place.bits.items) ∙ (ap (λ counts. c.loop-place.bits.items ++ flat_map place_bits counts) (sym none) ∙ c.loop-place.invariant.bits)

pub returns-clause-length : goal.returns-clause-length
returns-clause-length c = omega (arith, sum-behind c.args.side.now, c.requires.side.at_most_three)
