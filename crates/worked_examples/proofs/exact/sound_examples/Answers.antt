-- Two points are the words after a round, and so bound every game of a turn or more from both sides.
use Rattle.std.proofs.Common.{rules, ◌≡◌, ◌≤◌, ◌^◌, ◌*◌, ◌*ℤ◌, ◌≤ℤ◌, ◌<ℤ◌, ◌+ℤ◌, ℕ, ℤ, pos, suc, refl, arith}
use Rattle.std.proofs.lemmas.Int.{ints, by_lt_z}
use Rattle.std.proofs.Math.Nat.{one-le-pow}
use Rattle.position_rank.specs.Packed.{counts_of}
use Rattle.roll_table.specs.Rolls.{all_rolls}
use Rattle.move_rules.specs.Ends.{legal_ends, legal_lines, all_lines, lines, lines_from, places, after_move}
use Rattle.directed_fixed.specs.declared.bounds.End.TheVariants.{Lower, Upper}
use Rattle.cube_actions.specs.Money.{cubeless}
use Rattle.cube_actions.specs.Stakes.{exactly}
use Rattle.turn_rule.specs.Games.{game_of}
use Rattle.turn_rule.specs.Turn.{turn, rounds}
use Rattle.turn_rule.specs.States.{pair_of}
use Rattle.turn_rule.specs.Exact.{Scoring}
use Rattle.turn_rule.specs.Truth.{IsScoring, IsBoundAt, EnclosesAt}
use Rattle.worked_examples.specs.Turns.{win_points, scored}
use Rattle.turn_rule.proofs.Integers.{le_trans, mul_mono, distribute}
use Rattle.turn_rule.proofs.Enclosing.{rounds-enclose}
use Rattle.turn_rule.proofs.Cubeless.{cubeless-valid, one_each, one_each-state}
use Rattle.worked_examples.proofs.exact.sound_examples.Goals as goal

two_points : pair_of (rounds cubeless 1) one_each 0 ≡ exactly 2
unfolding rounds turn all_rolls counts_of legal_ends legal_lines all_lines lines lines_from places after_move
two_points = refl

encloses : (scoring : Scoring) → IsScoring (game_of 1 cubeless) scoring → (turns : ℕ) → 1 ≤ turns → EnclosesAt cubeless scoring turns (exactly 2) one_each 0
encloses scoring within turns h = rw two_points at (rounds-enclose (game_of 1 cubeless) cubeless-valid 1 turns h scoring within one_each 0 one_each-state)

pub returns-clause-two_points : goal.returns-clause-two_points
returns-clause-two_points c = (1, λ turns more scoring within. encloses scoring within turns more)

cancelled : (n : ℕ) (a b : ℤ) → 1 ≤ n → (pos n *ℤ a) ≤ℤ (pos n *ℤ b) → a ≤ℤ b
cancelled n a b h k = by_lt_z b a above (λ le. le) where
  above : b <ℤ a → a ≤ℤ b
  above lt =
      let more : (b +ℤ pos 1) ≤ℤ a = omega (arith, ints) in
      let times = rw (distribute n b (pos 1)) at (mul_mono n (b +ℤ pos 1) a more) in
      absurd (omega (arith, ints, times, k))

abbrev some_scoring : Scoring
some_scoring = scored (win_points 1 2 3) (pos 0)

positive : (n : ℕ) → 1 ≤ n → 1 ≤ 1 * n
positive n h = omega arith

-- a lower bound of long games is at most their upper bound
in_order : (a b : ℤ) (turns : ℕ) → IsBoundAt Lower cubeless some_scoring turns a one_each 0 → IsBoundAt Upper cubeless some_scoring turns b one_each 0 → a ≤ℤ b
in_order a b turns h k = cancelled (1 * 36 ^ turns) a b (positive (36 ^ turns) (one-le-pow turns 36 (omega arith))) (le_trans _ _ _ h k)

within : IsScoring (game_of 1 cubeless) some_scoring
within = search rules

pub returns-clause-a_unit_more : goal.returns-clause-a_unit_more
returns-clause-a_unit_more c = λ sound.
    let below = sound.1 (suc sound.0) (omega arith) some_scoring within in
    let above = (encloses some_scoring within (suc sound.0) (omega arith)).upper in
    let impossible = in_order (pos 8589934593) (pos 8589934592) (suc sound.0) below above in
    omega (arith, ints, impossible)

pub returns-clause-a_unit_less : goal.returns-clause-a_unit_less
returns-clause-a_unit_less c = λ sound.
    let above = sound.1 (suc sound.0) (omega arith) some_scoring within in
    let below = (encloses some_scoring within (suc sound.0) (omega arith)).lower in
    let impossible = in_order (pos 8589934592) (pos 8589934591) (suc sound.0) below above in
    omega (arith, ints, impossible)
