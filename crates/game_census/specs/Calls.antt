-- What is advised on the cube, its number among all calls, and how often each came.
use Rattle.std.specs.Prelude.{◌+◌, ◌-◌, ◌^◌, ℕ, pos, min, Bool, true, false, List, codes, slice_index, slice_set, int_le, if◌then◌else◌}
use Rattle.cube_actions.specs.declared.action.Offer.{Offer}
use Rattle.cube_actions.specs.declared.action.Offer.TheVariants.{NoDouble, Double}
use Rattle.cube_actions.specs.declared.action.Answer.{Answer}
use Rattle.cube_actions.specs.declared.action.Answer.TheVariants.{Take, Pass, Beaver}
use Rattle.play_analyser.specs.declared.advice.CubeAction.{CubeAction}
use Rattle.game_census.specs.declared.call.Call.{Call}

-- the advised offer and answer, and whether each loses at most nothing
abbrev pub call_of : CubeAction → Call
call_of action = record {
  offer = action.offer;
  answer = action.answer;
  sure_offer = int_le action.offer_bound (pos 0);
  sure_answer = int_le action.answer_bound (pos 0);
}

abbrev pub number_of_offer_told : Offer → ℕ
number_of_offer_told NoDouble = 0
number_of_offer_told Double = 12

abbrev pub number_of_answer_told : Answer → ℕ
number_of_answer_told Take = 0
number_of_answer_told Beaver = 4
number_of_answer_told Pass = 8

-- by the offer, then the answer, then whether the offer is sure, then whether the answer is
abbrev pub call_number : Call → ℕ
call_number call =
    number_of_offer_told call.offer + number_of_answer_told call.answer
    + (if call.sure_offer then 0 else 2) + (if call.sure_answer then 0 else 1)

-- one more, or the greatest number that is kept
abbrev pub one_more : ℕ → ℕ
one_more count = min (count + 1) (2 ^ 64 - 1)

-- the counts of all calls, by their numbers, after one call more
abbrev pub counted_call : List ℕ → Call → List ℕ
counted_call counts call =
    slice_set counts (call_number call) (one_more (slice_index counts (call_number call)))

-- what is told of an offer
abbrev pub told_offer : Offer → List ℕ
told_offer NoDouble = codes "no-double"
told_offer Double = codes "double"

-- what is told of an answer
abbrev pub told_answer : Answer → List ℕ
told_answer Take = codes "take"
told_answer Beaver = codes "beaver"
told_answer Pass = codes "pass"

-- what is told of a choice that loses at most nothing, or of one that may lose
abbrev pub certainty_text : Bool → List ℕ
certainty_text true = codes "certain"
certainty_text false = codes "open"
