-- What is read keeps to its limits.
use Rattle.std.proofs.Common.{◌≡◌, ◌≢◌, ◌^◌, ◌<◌, ◌≤◌, ◌-◌, ◌&&◌, ℕ, Bool, true, false, inl, inr, slice_index, sym, List, [], ◌∷◌, Option, Some, None, Result, Ok, Err, subst, arith, ◌*◌, ◌/◌, ℤ, pos, if◌then◌else◌, option_map, option_and_then, refl}
use Rattle.std.specs.Prelude.{IfOk, IfSome, nat_le}
use Rattle.std.specs.Option.{option_map_or}
use Rattle.std.proofs.lemmas.Bool.{cases_lt}
use Rattle.std.proofs.lemmas.Int.{ints}
use Rattle.std.proofs.lemmas.Bool.Decides.{nat_tests}
use Rattle.std.proofs.lemmas.Slice.Eq.{bytes_eq-Decides}
use Rattle.position_rank.specs.Placement.{Placement, IsPosition, IsLive, swap}
use Rattle.command_line.proofs.Positions.{given-live}
use Rattle.roll_table.specs.Rolls.{Dice, IsRoll}
use Rattle.cube_actions.specs.declared.name.MoneyRule.{MoneyRule}
use Rattle.cube_actions.specs.declared.name.MoneyRule.TheVariants.{Jacoby}
use Rattle.word_forms.specs.Form.{Bytes, FormValues}
use Rattle.command_line.specs.declared.command.Command.{Command}
use Rattle.command_line.specs.declared.command.CommandName.{CommandName}
use Rattle.command_line.specs.declared.command.CommandName.TheVariants as name
use Rattle.command_line.specs.declared.command.Shown.{Shown}
use Rattle.command_line.specs.declared.stop.WordsStop.{WordsStop}
use Rattle.command_line.specs.Values.{long_number_given, number_given, number_or, rule_or, file_name, other_name, prefix, position_given, roll_given, seen_by_doubler, shown_given, usual_rounds, millionths_of, width_given}
use Rattle.command_line.specs.declared.away.Away.{Away}
use Rattle.cube_actions.specs.Scores.{IsScore}
use Rattle.command_line.specs.Away.{away_given}
use Rattle.command_line.proofs.AwayScores.{away-is, name-at}
use Rattle.command_line.specs.Commands.{Asked, value_checked, value_read, command_values}
use Rattle.command_line.specs.Words.{reading}
use Rattle.command_line.specs.Reading.{Gives}
use Rattle.command_line.specs.Right.{IsName, IsPrefix, IsWidth, IsRightShown, IsRightCommand}

-- what is asked keeps to its limits
record Right (asked : Asked) : Type 0 where
  is : IfOk asked IsRightCommand

ok-right : (command : Command) → IsRightCommand command → Right (Ok command)
ok-right command is = record { is = is }

option-right : {X : Type 0} (value : Option X) (next : X → Asked) (none : Asked) → ((x : X) → Right (next x)) → Right none → Right (option_map_or next value none)
option-right None next none each last = last
option-right (Some x) next none each last = each x

within-right : (number most : ℕ) (given : Option Bytes) (next : ℕ → Asked) → ((n : ℕ) → 1 ≤ n → n ≤ most → Right (next n)) → Right (value_checked number (number_given most given) next)
within-right number most given next each = grind (arith, nat_tests)

or-right : (number most usual : ℕ) (given : Option Bytes) (next : ℕ → Asked) → (nat_le 1 usual && nat_le usual most) ≡ true → ((n : ℕ) → 1 ≤ n → n ≤ most → Right (next n)) → Right (value_checked number (number_or most usual given) next)
or-right number most usual given next is each = grind (arith, nat_tests)

rounds-right : (number : ℕ) (width given : Option Bytes) (next : ℕ → Asked) → ((n : ℕ) → 1 ≤ n → n ≤ 4096 → Right (next n)) → Right (value_checked number (number_or 4096 (usual_rounds width) given) next)
rounds-right number None given next each = or-right number 4096 64 given next refl each
rounds-right number (Some word) given next each = or-right number 4096 4096 given next refl each

width-is : (n : ℕ) → 1 ≤ n → n ≤ 64000000 → IsWidth (pos (n * 2 ^ 32 / 1000000))
width-is n some few = record { above = omega (arith, ints); within = omega (arith, ints) }

some-width : (number n : ℕ) (next : Option ℤ → Asked) → ((width : Option ℤ) → IfSome width IsWidth → Right (next width))
    → Right (value_checked number (option_map (λ width. Some width) (if nat_le 1 n && nat_le n 64000000 then Some (pos (n * 2 ^ 32 / 1000000)) else None)) next)
some-width number n next each = grind (arith, nat_tests, width-is n, each (Some (pos (n * 2 ^ 32 / 1000000))))

width-right : (number : ℕ) (given : Option Bytes) (next : Option ℤ → Asked) → ((width : Option ℤ) → IfSome width IsWidth → Right (next width)) → Right (value_checked number (width_given given) next)
width-right number None next each = each None tt
width-right number (Some word) next each = width-of number (millionths_of word) next each where
  width-of : (number : ℕ) (n : Option ℕ) (next : Option ℤ → Asked) → ((width : Option ℤ) → IfSome width IsWidth → Right (next width))
      → Right (value_checked number (option_map (λ width. Some width) (option_and_then (λ n. if nat_le 1 n && nat_le n 64000000 then Some (pos (n * 2 ^ 32 / 1000000)) else None) n)) next)
  width-of number None next each = record { is = tt }
  width-of number (Some n) next each = some-width number n next each

long-right : (number : ℕ) (given : Option Bytes) (next : ℕ → Asked) → ((n : ℕ) → n < 2 ^ 64 → Right (next n)) → Right (value_checked number (long_number_given given) next)
long-right number given next each = grind (arith, nat_tests)

rule-right : (number : ℕ) (given : Option Bytes) (next : MoneyRule → Asked) → ((rule : MoneyRule) → Right (next rule)) → Right (value_checked number (rule_or Jacoby given) next)
rule-right number given next each = grind arith

name-right : (number : ℕ) (given : Option Bytes) (next : Bytes → Asked) → ((name : Bytes) → IsName name → Right (next name)) → Right (value_checked number (file_name given) next)
name-right number given next each = grind (arith, nat_tests)

prefix-right : (number : ℕ) (given : Option Bytes) (next : Bytes → Asked) → ((name : Bytes) → IsPrefix name → Right (next name)) → Right (value_checked number (prefix given) next)
prefix-right number given next each = grind (arith, nat_tests)

other-right : (number : ℕ) (old : Bytes) (given : Option Bytes) (next : Bytes → Asked) → ((new : Bytes) → IsName new → old ≢ new → Right (next new)) → Right (value_checked number (other_name old given) next)
other-right number old given next each = grind (arith, nat_tests, bytes_eq-Decides)

position-right : (word : Bytes) (next : Placement → Asked) → ((p : Placement) → IsPosition p → IsLive p → Right (next p)) → Right (value_read (position_given word) next)
position-right word next each = grind (arith, given-live word)

roll-right : (given : Option Bytes) (next : Option Dice → Asked) → ((roll : Option Dice) → IfSome roll IsRoll → Right (next roll)) → Right (value_read (roll_given given) next)
roll-right given next each = grind (arith, nat_tests)

shown-right : (number : ℕ) (full board : Bool) (given : Option Bytes) (next : Shown → Asked) → ((shown : Shown) → IsRightShown shown → Right (next shown)) → Right (value_checked number (shown_given full board given) next)
shown-right number true board None next each = each _ tt
shown-right number false true None next each = each _ tt
shown-right number false false None next each = each _ tt
shown-right number true board (Some word) next each = record { is = tt }
shown-right number false board (Some word) next each = grind (arith, nat_tests)

away-right : (number : ℕ) (given : Option Bytes) (crawford post : Bool) (next : Away → Asked) → ((away : Away) → IsScore away.score → Right (next away)) → Right (value_checked number (away_given given crawford post) next)
away-right number given crawford post next each = kept (away_given given crawford post) (away-is given crawford post) where
  kept : (away : Option Away) → IfSome away (λ away. IsScore away.score) → Right (value_checked number away next)
  kept None is = record { is = tt }
  kept (Some away) is = each away is

-- a live position is one from either side
live-swap : (p : Placement) → IsLive p → IsLive (swap p)
live-swap p live = record {
  apart = λ point from to held.
      let back : 25 - (25 - point) ≡ point = omega arith in
      elim (cases_lt 0 (slice_index p.mover (25 - point))) [
        | inl other ↦ absurd (omega (arith, held, subst (λ n. slice_index p.other n ≡ 0) back (live.apart (25 - point) (omega arith) (omega arith) other)))
        | inr none ↦ omega (arith, none)
      ];
  mover = live.other;
  other = live.mover;
}

seen-right : (take : Bool) (p : Placement) → IsPosition p → IsPosition (seen_by_doubler take p)
seen-right true p valid = record { mover = valid.other; other = valid.mover; same = sym valid.same }
seen-right false p valid = valid

seen-live : (take : Bool) (p : Placement) → IsLive p → IsLive (seen_by_doubler take p)
seen-live true p live = live-swap p live
seen-live false p live = live

-- one value after another, and then the command
values-right : (command : CommandName) (given : FormValues) → Right (command_values command given)
values-right name.Bound given = search (within-right, option-right, position-right, ok-right) depth 9
values-right name.Race given = search (within-right, option-right, position-right, ok-right) depth 9
values-right name.Solve given = search (name-right, or-right, rule-right, rounds-right, width-right, ok-right) depth 9
values-right name.Show given = search (name-right, option-right, position-right, ok-right) depth 9
values-right name.ShowList given = search (name-right, or-right, ok-right) depth 9
values-right name.ShowMatch given = search (prefix-right, option-right, away-right, position-right, name-at, ok-right) depth 9
values-right name.Migrate given = search (name-right, other-right, or-right, ok-right) depth 9
values-right name.Advise given = search (name-right, option-right, position-right, roll-right, seen-right, seen-live, ok-right) depth 9
values-right name.AdviseList given = search (name-right, option-right, or-right, ok-right) depth 9
values-right name.AdviseMatch given = search (prefix-right, option-right, away-right, position-right, roll-right, seen-right, seen-live, name-at, ok-right) depth 11
values-right name.Verify given = search (name-right, or-right, ok-right) depth 9
values-right name.Ladder given = search (prefix-right, or-right, ok-right) depth 9
values-right name.Analyse given = search (name-right, shown-right, ok-right) depth 9
values-right name.Study given = search (name-right, or-right, shown-right, ok-right) depth 9
values-right name.Make given = search (long-right, within-right, name-right, ok-right) depth 9
values-right name.Plan given = search (prefix-right, or-right, ok-right) depth 9
values-right name.Scan given = search (name-right, option-right, or-right, ok-right) depth 9
values-right name.Reply given = search (name-right, option-right, or-right, position-right, ok-right) depth 9
values-right name.Board given = search (option-right, position-right, ok-right) depth 9

right : (words : List Bytes) → Right (reading words)
right [] = record { is = tt }
right (first ∷ words) = search (option-right, values-right)

pub reading-right : (words : List Bytes) → IfOk (reading words) IsRightCommand
reading-right words = (right words).is

pub given-right : (words : List Bytes) (result : Result Command WordsStop) → Gives (reading words) result → IfOk result IsRightCommand
given-right words (Ok command) is = subst (λ asked. IfOk asked IsRightCommand) is (reading-right words)
given-right words (Err stop) is = tt
