use Rattle.std.proofs.Common.{◌≡◌, ◌∙◌}
use Rattle.directed_fixed.specs.declared.bounds.End.{End}
use Rattle.turn_rule.specs.Turn.{Words, worth}
use Rattle.turn_rule.specs.Looks.{IsLeft}
use Rattle.turn_rule.proofs.Values.{paired}
use Rattle.play_analyser.proofs.PairLists.{play-order}
use Rattle.play_analyser.proofs.play_pairs.play_pair.Goals as goal

pub returns-clause-looked : goal.returns-clause-looked
returns-clause-looked g c =
    let s = (g.P.Pairs.seen c.args.pairs.now).source in
    let kind = c.args.kind.now in
    let left = c.args.left.now in
    let last = (g.P.Pairs.seen c.worth_at-2.new.pairs).notes in
    let same : (g.P.Pairs.seen c.worth_at-2.new.pairs).source ≡ s = c.in_ok-upper.ensures.source ∙ c.in_ok-lower.ensures.source in
    let within = rw same at (g.met.P.Pairs.notes_within c.worth_at-2.new.pairs) in
    paired _ s (IsLeft kind.next left) s.bound (λ (end : End) (u : Words). worth end kind u left) _ _ last _ _ _ c.in_ok-lower.lower c.in_ok-upper.upper _ c.pair_of.ensures.lower c.pair_of.ensures.upper
    (λ told. play-order s kind left last.words (within told) c.requires.state c.requires.wins)
    c.in_ok-lower.ensures.found (rw c.in_ok-lower.ensures.source at c.in_ok-upper.ensures.found)
