use Rattle.std.proofs.Common.{◌≡◌, ◌<◌, ◌≤◌, ◌+◌, ◌*◌, ◌^◌, ◌∙◌, ℕ, List, length, get_or, ap, sym, subst, arith}
use Rattle.position_rank.specs.LiveRanks.{live_positions}
use Rattle.position_rank.specs.Placement.{Placement}
use Rattle.roll_table.specs.Rolls.{Dice, all_rolls}
use Rattle.cube_actions.specs.declared.kind.Kind.{Kind}
use Rattle.cube_actions.specs.Stakes.{Terms, kind_at}
use Rattle.turn_rule.specs.Games.{kinds_of}
use Rattle.play_analyser.specs.Regrets.{play_pair}
use Rattle.best_reply.specs.declared.outcome.Outcome.{Outcome}
use Rattle.best_reply.specs.Outcomes.{IsAdvisedTo, IsOutcomeOf}
use Rattle.best_reply.specs.Tables.{words_by}
use Rattle.best_reply.proofs.Lefts.{small-place}
use Rattle.best_reply.proofs.OutcomeLemmas.{live-few, outcome-room, step-inside, step-small, step-sums, sums-all, sums-small}
use Rattle.best_reply.proofs.RollSums.{all-at}
use Rattle.best_reply.proofs.advice.Advice.follow_sum.Goals as goal

pub overflow_mul-first : goal.overflow_mul-first
overflow_mul-first c =
    let kinds : c.kinds.result ≡ kinds_of c.args.words.now.game = c.kinds.ensures.kinds ∙ ap (λ (s : Terms). length s.kinds) c.stakes-2.ensures in
    let low : c.args.rank < 2 ^ 24 = omega (arith, c.requires.rank, live-few c.args.words.now.game c.requires.game) in
    let number : c.args.number < c.kinds.result = rw kinds c.requires.number in
    omega (arith, small-place c.args.rank c.kinds.result c.args.number low c.kinds.ensures.few number)

pub overflow_add-first : goal.overflow_add-first
overflow_add-first c =
    let kinds : c.kinds.result ≡ kinds_of c.args.words.now.game = c.kinds.ensures.kinds ∙ ap (λ (s : Terms). length s.kinds) c.stakes-2.ensures in
    let low : c.args.rank < 2 ^ 24 = omega (arith, c.requires.rank, live-few c.args.words.now.game c.requires.game) in
    let number : c.args.number < c.kinds.result = rw kinds c.requires.number in
    omega (arith, small-place c.args.rank c.kinds.result c.args.number low c.kinds.ensures.few number)

pub overflow_mul-first-2 : goal.overflow_mul-first-2
overflow_mul-first-2 c =
    let kinds : c.kinds.result ≡ kinds_of c.args.words.now.game = c.kinds.ensures.kinds ∙ ap (λ (s : Terms). length s.kinds) c.stakes-2.ensures in
    let low : c.args.rank < 2 ^ 24 = omega (arith, c.requires.rank, live-few c.args.words.now.game c.requires.game) in
    let number : c.args.number < c.kinds.result = rw kinds c.requires.number in
    omega (arith, small-place c.args.rank c.kinds.result c.args.number low c.kinds.ensures.few number)

pub index-requires : goal.index-requires
index-requires c =
    let kinds : c.kinds.result ≡ kinds_of c.args.words.now.game = c.kinds.ensures.kinds ∙ ap (λ (s : Terms). length s.kinds) c.stakes-2.ensures in
    let words = c.args.words.now in
    let bank = c.args.bank.now in
    let rank = c.args.rank in
    let number = c.args.number in
    let i = c.loop-i.i in
    let outcomes = c.self.inside.outcomes.items in
    let advice : IsAdvisedTo words (live_positions words.game.checkers) outcomes = subst (λ (xs : List Outcome). IsAdvisedTo words (live_positions words.game.checkers) xs) (sym c.self.view_is) c.requires.advice in
    let here : i < length all_rolls = subst (λ (xs : List (Dice × ℕ)). i < length xs) c.requires.rolls c.loop-i-test.true in
    let room : (rank * c.kinds.result + number) * 21 + i < length outcomes = rw kinds (outcome-room words bank rank number c.requires.game c.requires.rank c.requires.number c.requires.bank outcomes advice i here) in
    omega (arith, room)

pub pair_after-pair-requires : goal.pair_after-pair-requires
pair_after-pair-requires c =
    let kinds : c.kinds.result ≡ kinds_of c.args.words.now.game = c.kinds.ensures.kinds ∙ ap (λ (s : Terms). length s.kinds) c.stakes-2.ensures in
    let words = c.args.words.now in
    let bank = c.args.bank.now in
    let rank = c.args.rank in
    let number = c.args.number in
    let i = c.loop-i.i in
    let outcomes = c.self.inside.outcomes.items in
    let advice : IsAdvisedTo words (live_positions words.game.checkers) outcomes = subst (λ (xs : List Outcome). IsAdvisedTo words (live_positions words.game.checkers) xs) (sym c.self.view_is) c.requires.advice in
    let here : i < length all_rolls = subst (λ (xs : List (Dice × ℕ)). i < length xs) c.requires.rolls c.loop-i-test.true in
    let roll = c.index-rolls-i.result in
    let is : roll ≡ get_or all_rolls i roll = subst (λ (xs : List (Dice × ℕ)). roll ≡ get_or xs i roll) c.requires.rolls c.index-rolls-i.is in
    let outcome = c.index.result.now in
    let read : outcome ≡ get_or outcomes ((rank * kinds_of words.game + number) * 21 + i) outcome = subst (λ (n : ℕ). outcome ≡ get_or outcomes ((rank * n + number) * 21 + i) outcome) kinds c.index.ensures in
    let kind : c.kind-kind.result.now ≡ kind_at words.game.stakes number = c.kind-kind.ensures.kind ∙ ap (λ (s : Terms). kind_at s number) c.stakes.ensures in
    rw kind (step-inside words bank rank number c.requires.game c.requires.rank c.requires.number c.requires.bank outcomes advice i here roll is outcome read)

pub add_times-sum-requires-clause-sum : goal.add_times-sum-requires-clause-sum
add_times-sum-requires-clause-sum c =
    let words = c.args.words.now in
    let bank = c.args.bank.now in
    let rank = c.args.rank in
    let number = c.args.number in
    let i = c.loop-i.i in
    let here : i < length all_rolls = subst (λ (xs : List (Dice × ℕ)). i < length xs) c.requires.rolls c.loop-i-test.true in
    let few : i ≤ length all_rolls = omega (arith, here) in
    sums-small words bank rank number c.requires.game c.requires.rank c.requires.number i c.loop-i.sum few c.loop-i.invariant

pub add_times-sum-requires-clause-times : goal.add_times-sum-requires-clause-times
add_times-sum-requires-clause-times c =
    let i = c.loop-i.i in
    let here : i < length all_rolls = subst (λ (xs : List (Dice × ℕ)). i < length xs) c.requires.rolls c.loop-i-test.true in
    let roll = c.index-rolls-i.result in
    let is : roll ≡ get_or all_rolls i roll = subst (λ (xs : List (Dice × ℕ)). roll ≡ get_or xs i roll) c.requires.rolls c.index-rolls-i.is in
    (all-at i roll here is).times

pub add_times-sum-requires-clause-pair : goal.add_times-sum-requires-clause-pair
add_times-sum-requires-clause-pair c =
    let kinds : c.kinds.result ≡ kinds_of c.args.words.now.game = c.kinds.ensures.kinds ∙ ap (λ (s : Terms). length s.kinds) c.stakes-2.ensures in
    let words = c.args.words.now in
    let bank = c.args.bank.now in
    let rank = c.args.rank in
    let number = c.args.number in
    let i = c.loop-i.i in
    let outcomes = c.self.inside.outcomes.items in
    let advice : IsAdvisedTo words (live_positions words.game.checkers) outcomes = subst (λ (xs : List Outcome). IsAdvisedTo words (live_positions words.game.checkers) xs) (sym c.self.view_is) c.requires.advice in
    let here : i < length all_rolls = subst (λ (xs : List (Dice × ℕ)). i < length xs) c.requires.rolls c.loop-i-test.true in
    let roll = c.index-rolls-i.result in
    let is : roll ≡ get_or all_rolls i roll = subst (λ (xs : List (Dice × ℕ)). roll ≡ get_or xs i roll) c.requires.rolls c.index-rolls-i.is in
    let outcome = c.index.result.now in
    let read : outcome ≡ get_or outcomes ((rank * kinds_of words.game + number) * 21 + i) outcome = subst (λ (n : ℕ). outcome ≡ get_or outcomes ((rank * n + number) * 21 + i) outcome) kinds c.index.ensures in
    let kind : c.kind-kind.result.now ≡ kind_at words.game.stakes number = c.kind-kind.ensures.kind ∙ ap (λ (s : Terms). kind_at s number) c.stakes.ensures in
    let gives : (end : Placement) → IsOutcomeOf end outcome → c.pair_after-pair.result ≡ play_pair (kind_at words.game.stakes number) (words_by bank) end = λ end of. c.pair_after-pair.ensures end of ∙ ap (λ (k : Kind). play_pair k (words_by bank) end) kind in
    step-small words bank rank number c.requires.game c.requires.rank c.requires.number c.requires.bank outcomes advice i here roll is outcome read c.pair_after-pair.result gives

pub loop-i-preserved : goal.loop-i-preserved
loop-i-preserved c =
    let kinds : c.kinds.result ≡ kinds_of c.args.words.now.game = c.kinds.ensures.kinds ∙ ap (λ (s : Terms). length s.kinds) c.stakes-2.ensures in
    let words = c.args.words.now in
    let bank = c.args.bank.now in
    let rank = c.args.rank in
    let number = c.args.number in
    let i = c.loop-i.i in
    let outcomes = c.self.inside.outcomes.items in
    let advice : IsAdvisedTo words (live_positions words.game.checkers) outcomes = subst (λ (xs : List Outcome). IsAdvisedTo words (live_positions words.game.checkers) xs) (sym c.self.view_is) c.requires.advice in
    let here : i < length all_rolls = subst (λ (xs : List (Dice × ℕ)). i < length xs) c.requires.rolls c.loop-i-test.true in
    let roll = c.index-rolls-i.result in
    let is : roll ≡ get_or all_rolls i roll = subst (λ (xs : List (Dice × ℕ)). roll ≡ get_or xs i roll) c.requires.rolls c.index-rolls-i.is in
    let outcome = c.index.result.now in
    let read : outcome ≡ get_or outcomes ((rank * kinds_of words.game + number) * 21 + i) outcome = subst (λ (n : ℕ). outcome ≡ get_or outcomes ((rank * n + number) * 21 + i) outcome) kinds c.index.ensures in
    let kind : c.kind-kind.result.now ≡ kind_at words.game.stakes number = c.kind-kind.ensures.kind ∙ ap (λ (s : Terms). kind_at s number) c.stakes.ensures in
    let gives : (end : Placement) → IsOutcomeOf end outcome → c.pair_after-pair.result ≡ play_pair (kind_at words.game.stakes number) (words_by bank) end = λ end of. c.pair_after-pair.ensures end of ∙ ap (λ (k : Kind). play_pair k (words_by bank) end) kind in
    step-sums words bank rank number c.requires.game c.requires.rank c.requires.number c.requires.bank outcomes advice i here roll is outcome read c.pair_after-pair.result gives c.loop-i.sum c.add_times-sum.result c.loop-i.invariant c.add_times-sum.ensures.lower c.add_times-sum.ensures.upper

pub returns-clause-sum : goal.returns-clause-sum
returns-clause-sum c =
    let words = c.args.words.now in
    let bank = c.args.bank.now in
    let rank = c.args.rank in
    let number = c.args.number in
    let i = c.loop-i.i in
    let past : length all_rolls ≤ i = subst (λ (xs : List (Dice × ℕ)). length xs ≤ i) c.requires.rolls c.loop-i-test.false in
    sums-all words bank rank number c.requires.game c.requires.rank c.requires.number i c.loop-i.sum past c.loop-i.invariant

pub returns-clause-small : goal.returns-clause-small
returns-clause-small c =
    let words = c.args.words.now in
    let bank = c.args.bank.now in
    let rank = c.args.rank in
    let number = c.args.number in
    let i = c.loop-i.i in
    let few : i ≤ length all_rolls = subst (λ (xs : List (Dice × ℕ)). i ≤ length xs) c.requires.rolls c.loop-i.auto.i-end in
    sums-small words bank rank number c.requires.game c.requires.rank c.requires.number i c.loop-i.sum few c.loop-i.invariant
