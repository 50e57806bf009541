use Rattle.std.proofs.Common.{◌<◌, ℕ, [], subst, sym, ◌∙◌, arith}
use Rattle.move_rules.specs.Listing.{double_lines, pair_lines, AddsNewEnds, lines_of}
use Rattle.move_rules.proofs.RollLines.{double-listing, pair-listing}
use Rattle.move_rules.proofs.FirstLines.{plays-of_adds}
use Rattle.move_rules.proofs.FaultLaws.{entry-some}
use Rattle.move_rules.proofs.listing.plays.Goals as goal

pub returns-then-high-low : goal.returns-then-high-low
returns-then-high-low c =
    let p = c.args.position.now in
    let entries = c.add_double.new.list.items in
    let same = sym c.high-high.ensures.high ∙ (c.if-high-low.true ∙ c.low-low.ensures.low) in
    let adds = subst (λ (x : ℕ). AddsNewEnds [] (double_lines p x) (lines_of entries)) c.high-high.ensures.high c.add_double.ensures in
    let r = plays-of_adds p c.args.roll (double_lines p c.args.roll.high) entries (double-listing p c.args.roll same) adds in
    record { ends = r.ends; distinct = r.distinct; first = r.first; in_order = r.in_order; some = entry-some p c.args.roll entries c.low-low.ensures.valid r }

pub returns-else-high-low : goal.returns-else-high-low
returns-else-high-low c =
    let p = c.args.position.now in
    let entries = c.add_pair.new.list.items in
    let less : c.args.roll.low < c.args.roll.high = omega arith in
    let adds = subst (λ (x : ℕ). AddsNewEnds [] (pair_lines p c.args.roll.high x) (lines_of entries)) c.low-low.ensures.low
    (subst (λ (x : ℕ). AddsNewEnds [] (pair_lines p x c.low-low.result) (lines_of entries)) c.high-high.ensures.high c.add_pair.ensures) in
    let r = plays-of_adds p c.args.roll (pair_lines p c.args.roll.high c.args.roll.low) entries (pair-listing p c.args.roll less) adds in
    record { ends = r.ends; distinct = r.distinct; first = r.first; in_order = r.in_order; some = entry-some p c.args.roll entries c.low-low.ensures.valid r }
