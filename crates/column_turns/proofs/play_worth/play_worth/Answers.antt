use Rattle.std.proofs.Common.{◌≡◌, ◌∙◌, Bool, false, IsTrue, Some, None, refl, sum, ap, sym, arith}
use Rattle.std.proofs.lemmas.Int.{ints}
use Rattle.position_rank.specs.Placement.{Placement}
use Rattle.move_rules.specs.declared.payoff.Won.TheVariants.{Single}
use Rattle.move_rules.specs.Payoff.{points}
use Rattle.turn_rule.specs.Turn.{win}
use Rattle.turn_rule.proofs.Values.{end-within, within-positive}
use Rattle.turn_rule.proofs.Sure.{sure-answer}
use Rattle.column_turns.proofs.Laters.{later-refl}
use Rattle.column_turns.proofs.PlayWorths.{won-found, word-found}
use Rattle.column_turns.proofs.play_worth.play_worth.Goals as goal

true-false : {b : Bool} → IsTrue b → b ≡ false → ⊥
true-false h k = cc (h, k)

pub word_of-word-requires-clause-state : goal.word_of-word-requires-clause-state
word_of-word-requires-clause-state g c =
    let theirs = c.swap-theirs.ensures in
    record {
      position = theirs.valid;
      many = theirs.valid.same ∙ (ap (λ (p : Placement). sum p.other) theirs.swap ∙ c.requires.many);
      live = rw theirs.swap (c.requires.live.0 c.if-live.true);
      kind = c.requires.next;
    }

pub word_of-word-requires-clause-square : goal.word_of-word-requires-clause-square
word_of-word-requires-clause-square g c = rw c.swap-theirs.ensures.swap c.requires.square

pub unwrap-requires : goal.unwrap-requires
unwrap-requires g c = sure-answer _ _ _ _ _ _ _ _ c.requires.sure c.word_of-word.ensures.found

pub returns-in-Some-clause-found : goal.returns-in-Some-clause-found
returns-in-Some-clause-found g c = λ leaves.
    let seen = g.P.Pairs.seen c.args.pairs.now in
    let some : points c.args.left.now ≡ Some c.in-Some.won = sym c.requires.won ∙ c.in-Some.is in
    won-found c.args.end seen.source seen.notes c.args.left.now c.args.kind.now c.in-Some.won c.end_of.result some (rw (← c.win_of.ensures) c.end_of.ensures) (c.requires.wins c.in-Some.won)

pub returns-in-Some-clause-within : goal.returns-in-Some-clause-within
returns-in-Some-clause-within g c =
    let s = (g.P.Pairs.seen c.args.pairs.now).source in
    rw (c.end_of.ensures, c.win_of.ensures) (end-within c.args.end s.bound (win c.args.kind.now c.in-Some.won) (c.requires.wins c.in-Some.won))

pub returns-in-Some-clause-later : goal.returns-in-Some-clause-later
returns-in-Some-clause-later g c = later-refl _

pub returns-in-Some-clause-stays : goal.returns-in-Some-clause-stays
returns-in-Some-clause-stays g c = refl

pub returns-then-live-clause-found : goal.returns-then-live-clause-found
returns-then-live-clause-found g c = λ leaves.
    let seen = g.P.Pairs.seen c.args.pairs.now in
    let none : points c.args.left.now ≡ None = sym c.requires.won ∙ c.in-None.is in
    word-found c.args.end seen.source (g.P.Pairs.seen c.word_of-word.new.pairs).notes c.args.left.now c.args.kind.now seen.notes _ _ _ c.unwrap.result c.neg.result none c.unwrap.ensures c.neg.ensures
    (rw (c.other_end.ensures, c.swap-theirs.ensures.swap) at c.word_of-word.ensures.found)

pub returns-then-live-clause-within : goal.returns-then-live-clause-within
returns-then-live-clause-within g c =
    let within = (rw c.unwrap.ensures at c.word_of-word.ensures.found).answer.within in
    rw c.neg.ensures (record { from = omega (arith, ints, within.to); to = omega (arith, ints, within.from) })

pub returns-then-live-clause-later : goal.returns-then-live-clause-later
returns-then-live-clause-later g c =
    let word = c.word_of-word.ensures in
    record { source = word.source; notes = word.found.notes; faults = word.found.later }

pub returns-then-live-clause-stays : goal.returns-then-live-clause-stays
returns-then-live-clause-stays g c = c.word_of-word.ensures.stays

pub returns-else-live-clause-found : goal.returns-else-live-clause-found
returns-else-live-clause-found g c = λ leaves.
    let none : points c.args.left.now ≡ None = sym c.requires.won ∙ c.in-None.is in
    absurd (true-false (c.requires.live.1 (leaves none).live) c.if-live.false)

pub returns-else-live-clause-within : goal.returns-else-live-clause-within
returns-else-live-clause-within g c =
    let s = (g.P.Pairs.seen c.args.pairs.now).source in
    let positive = within-positive s.bound (win c.args.kind.now Single) (c.requires.wins Single) in
    rw c.whole.ensures (record { from = omega (arith, ints, positive); to = positive })

pub returns-else-live-clause-later : goal.returns-else-live-clause-later
returns-else-live-clause-later g c = later-refl _

pub returns-else-live-clause-stays : goal.returns-else-live-clause-stays
returns-else-live-clause-stays g c = refl
