-- The numbers of a state, and which states meet a condition.
use Rattle.std.specs.Prelude.{ℕ, ◌*◌, ℤ, pos, int_lt, int_le, Bool, true, false, not, ◌&&◌, if◌then◌else◌, List, [], ◌∷◌, map, sum, slice_index, Option, Some, None, Result, Ok, Err}
use Rattle.std.specs.List.{list_all, list_any, range_with_len}
use Rattle.position_rank.specs.Placement.{Placement}
use Rattle.directed_fixed.specs.Bounds.{Bounds}
use Rattle.directed_fixed.specs.declared.bounds.End.TheVariants.{Lower, Upper}
use Rattle.cube_actions.specs.declared.kind.Double.{Double as DoubleOf}
use Rattle.cube_actions.specs.declared.kind.Taken.{Taken}
use Rattle.cube_actions.specs.Stakes.{kind_at}
use Rattle.hyper_outside.specs.declared.outside.LookStop.{LookStop}
use Rattle.turn_rule.specs.Looks.{roll_pair}
use Rattle.turn_rule.specs.States.{pair_of}
use Rattle.cube_actions.specs.declared.action.Offer.{Offer}
use Rattle.cube_actions.specs.declared.action.Offer.TheVariants.{NoDouble, Double}
use Rattle.cube_actions.specs.declared.action.Answer.{Answer}
use Rattle.cube_actions.specs.declared.action.Answer.TheVariants.{Take, Pass, Beaver}
use Rattle.play_analyser.specs.declared.advice.CubeAction.{CubeAction}
use Rattle.play_analyser.specs.declared.advice.CubeAdvice.{CubeAdvice}
use Rattle.play_analyser.specs.Losses.{least_pair}
use Rattle.play_analyser.specs.Regrets.{taken_pair}
use Rattle.interval_words.specs.WordLists.{WordList, width, words_in_list}
use Rattle.base_scan.specs.declared.condition.Test.{Test}
use Rattle.base_scan.specs.declared.condition.Field.{Field}
use Rattle.base_scan.specs.declared.condition.Field.TheVariants.{LowerWord, UpperWord, Width, KindNumber, Pips, OtherPips, Off, OtherOff, OnBar, OtherOnBar, Offered, Answered}
use Rattle.base_scan.specs.declared.numbers.Depth.{Depth}
use Rattle.base_scan.specs.declared.numbers.Depth.TheVariants.{Checkers, Words, Advice}
use Rattle.base_scan.specs.declared.condition.Comparison.{Comparison}
use Rattle.base_scan.specs.declared.condition.Comparison.TheVariants.{Below, Equal, Above}

-- the sum of the places of a side's checkers
abbrev pub pips_at : List ℕ → ℕ → ℕ
pips_at counts place = place * slice_index counts place

abbrev pub side_pips : List ℕ → ℕ
side_pips counts = sum (map (pips_at counts) (range_with_len 0 26))

-- ---- cube actions, over the words of a list

-- what rolling is worth
abbrev pub rolling : WordList → Placement → ℕ → Bounds
rolling words p k = roll_pair words.game.stakes (words_in_list words) p k 1

-- what the answers that play on give
abbrev pub taken : WordList → Placement → DoubleOf → List Bounds
taken words p double = map
    (λ (answer : Taken). taken_pair words.game.stakes (words_in_list words) p answer)
    double.answers.items

-- to double where that is sure to give more than rolling is
abbrev pub best_offer : Bounds → Bounds → Offer
best_offer rolls doubles = if int_lt rolls.lower doubles.lower then Double else NoDouble

-- the first of a take, a beaver and a pass that leaves the doubler at most the least
abbrev pub best_answer : Bounds → List Bounds → Answer
best_answer pass [] = Pass
best_answer pass (take ∷ []) = if int_le take.upper pass.upper then Take else Pass
best_answer pass (take ∷ beaver ∷ more) =
    if int_le take.upper beaver.upper && int_le take.upper pass.upper then Take
    else (if int_le beaver.upper pass.upper then Beaver else Pass)

abbrev pub offer_number : Offer → ℤ
offer_number NoDouble = pos 0
offer_number Double = pos 1

abbrev pub answer_number : Answer → ℤ
answer_number Take = pos 1
answer_number Pass = pos 2
answer_number Beaver = pos 3

-- 0 where there is no double
abbrev pub number_of_double : Option DoubleOf → (DoubleOf → ℤ) → ℤ
number_of_double None number = pos 0
number_of_double (Some double) number = number double

-- the action of advice that was found
abbrev pub action_in : Result CubeAdvice LookStop → Option CubeAction
action_in (Ok advice) = advice.action
action_in (Err stop) = None

-- the numbers of what is advised, 0 where there is no double
abbrev pub offer_told : Option CubeAction → ℤ
offer_told None = pos 0
offer_told (Some action) = offer_number action.offer

abbrev pub answer_told : Option CubeAction → ℤ
answer_told None = pos 0
answer_told (Some action) = answer_number action.answer

-- ---- tests

-- the number of a state that a field asks for
abbrev pub number_of : WordList → Placement → ℕ → Field → ℤ
number_of words p k LowerWord = words_in_list words Lower p k
number_of words p k UpperWord = words_in_list words Upper p k
number_of words p k Width = width (pair_of (words_in_list words) p k)
number_of words p k KindNumber = pos k
number_of words p k Pips = pos (side_pips p.mover)
number_of words p k OtherPips = pos (side_pips p.other)
number_of words p k Off = pos (slice_index p.mover 0)
number_of words p k OtherOff = pos (slice_index p.other 0)
number_of words p k OnBar = pos (slice_index p.mover 25)
number_of words p k OtherOnBar = pos (slice_index p.other 25)
number_of words p k Offered =
    number_of_double (kind_at words.game.stakes k).double
    (λ double. offer_number
    (best_offer (rolling words p k) (least_pair double.pass (taken words p double))))
number_of words p k Answered =
    number_of_double (kind_at words.game.stakes k).double
    (λ double. answer_number (best_answer double.pass (taken words p double)))

abbrev pub compares : Comparison → ℤ → ℤ → Bool
compares Below a b = int_lt a b
compares Equal a b = int_le a b && int_le b a
compares Above a b = int_lt b a

-- what a test says of a number
abbrev pub says : Test → ℤ → Bool
says test number =
    if test.negated then not (compares test.comparison number
    test.number) else compares test.comparison number test.number

abbrev pub says_of : WordList → Placement → ℕ → Test → Bool
says_of words p k test = says test (number_of words p k test.field)

-- a state meets a condition where all tests of some group say yes
abbrev pub meets : WordList → List (List Test) → Placement → ℕ → Bool
meets words groups p k = list_any (λ group. list_all (says_of words p k) group) groups

-- ---- looks that don't go all the way

-- a field asks for more than a look finds that goes so far
abbrev pub asks_more : Depth → Field → Bool
asks_more Checkers LowerWord = true
asks_more Checkers UpperWord = true
asks_more Checkers Width = true
asks_more Checkers KindNumber = true
asks_more Checkers Pips = false
asks_more Checkers OtherPips = false
asks_more Checkers Off = false
asks_more Checkers OtherOff = false
asks_more Checkers OnBar = false
asks_more Checkers OtherOnBar = false
asks_more Checkers Offered = true
asks_more Checkers Answered = true
asks_more Words LowerWord = false
asks_more Words UpperWord = false
asks_more Words Width = false
asks_more Words KindNumber = false
asks_more Words Pips = false
asks_more Words OtherPips = false
asks_more Words Off = false
asks_more Words OtherOff = false
asks_more Words OnBar = false
asks_more Words OtherOnBar = false
asks_more Words Offered = true
asks_more Words Answered = true
asks_more Advice field = false

-- what a test says by a look that goes so far: yes where it asks for more
abbrev pub says_by : Depth → WordList → Placement → ℕ → Test → Bool
says_by depth words p k test = if asks_more depth test.field then true else says_of words p k test

-- all tests of some group say yes by a look that goes so far
abbrev pub meets_by : Depth → WordList → List (List Test) → Placement → ℕ → Bool
meets_by depth words groups p k =
    list_any (λ group. list_all (says_by depth words p k) group) groups
