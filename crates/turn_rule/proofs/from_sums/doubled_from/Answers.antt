use Rattle.std.proofs.Common.{◌<◌, ◌≤◌, pos, ◌≤ℤ◌, length, get_or}
use Rattle.turn_rule.proofs.Values.{rolled-sum, next-answer, all-answers, answer-at, no_answer, an_answer, min-most, within-positive}
use Rattle.turn_rule.proofs.from_sums.doubled_from.Goals as goal

pub loop-taken-preserved : goal.loop-taken-preserved
loop-taken-preserved c =
    let stakes = c.args.stakes.now in
    let double = c.args.double.now in
    let answers = double.answers.items in
    let i = c.loop-taken.taken-index in
    let before = c.loop-taken.invariant in
    let here : i < length answers = rw (← before.answers) c.loop-taken-test.true in
    let taken = get_or answers i no_answer in
    let answer = answer-at stakes double i c.requires.right here in
    record {
      answers = before.answers;
      found = λ s noted p fits found.
          let positive : pos 0 ≤ℤ s.bound = rw fits.bound (within-positive stakes.bound double.pass c.requires.right.pass) in
          let sum = rw before.answers at c.index-sums-taken.is in
          let mean = rw before.answers at c.mean_of.ensures in
          let value = rolled-sum (λ damage. ⊥) c.args.end s noted stakes p c.args.sums.now taken.kind taken.factor c.index-sums-taken.result c.mean_of.result found c.requires.many answer.0 sum mean in
          next-answer c.args.end s stakes p double _ noted noted noted 0 0 0 i taken c.loop-taken.least c.mean_of.result _ here (an_answer answers i here) answer.1 positive c.min-least.ensures (before.found s noted p fits found) value;
      most = rw c.min-least.ensures (min-most stakes.bound c.loop-taken.least c.mean_of.result before.most);
    }

pub returns-clause-found : goal.returns-clause-found
returns-clause-found c = λ s noted p fits found.
    let answers = c.args.double.now.answers.items in
    let past : length answers ≤ c.loop-taken.taken-index = rw (← c.loop-taken.invariant.answers) c.loop-taken-test.false in
    (all-answers c.args.end s c.args.stakes.now p c.args.double.now (λ damage. ⊥) noted noted 0 0 c.loop-taken.taken-index c.loop-taken.least past (c.loop-taken.invariant.found s noted p fits found)).answer
