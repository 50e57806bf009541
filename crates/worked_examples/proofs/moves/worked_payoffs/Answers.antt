-- By computation.
use Rattle.std.proofs.Common.{refl}
use Rattle.position_rank.specs.Packed.{counts_of}
use Rattle.worked_examples.proofs.moves.worked_payoffs.Goals as goal

pub returns-clause-on_the_bar : goal.returns-clause-on_the_bar
unfolding counts_of
returns-clause-on_the_bar c = refl

pub returns-clause-far_end_of_the_winners_home : goal.returns-clause-far_end_of_the_winners_home
unfolding counts_of
returns-clause-far_end_of_the_winners_home c = refl

pub returns-clause-near_end_of_the_winners_home : goal.returns-clause-near_end_of_the_winners_home
unfolding counts_of
returns-clause-near_end_of_the_winners_home c = refl

pub returns-clause-just_outside_it : goal.returns-clause-just_outside_it
unfolding counts_of
returns-clause-just_outside_it c = refl

pub returns-clause-about_to_bear_off : goal.returns-clause-about_to_bear_off
unfolding counts_of
returns-clause-about_to_bear_off c = refl

pub returns-clause-one_of_two_in_the_winners_home : goal.returns-clause-one_of_two_in_the_winners_home
unfolding counts_of
returns-clause-one_of_two_in_the_winners_home c = refl

pub returns-clause-none_of_three_in_it : goal.returns-clause-none_of_three_in_it
unfolding counts_of
returns-clause-none_of_three_in_it c = refl

pub returns-clause-one_borne_off : goal.returns-clause-one_borne_off
unfolding counts_of
returns-clause-one_borne_off c = refl

pub returns-clause-one_borne_off_and_one_on_the_bar : goal.returns-clause-one_borne_off_and_one_on_the_bar
unfolding counts_of
returns-clause-one_borne_off_and_one_on_the_bar c = refl

pub returns-clause-one_checker_left : goal.returns-clause-one_checker_left
unfolding counts_of
returns-clause-one_checker_left c = refl

pub returns-clause-one_of_three_left : goal.returns-clause-one_of_three_left
unfolding counts_of
returns-clause-one_of_three_left c = refl

pub returns-clause-both_on_the_bar : goal.returns-clause-both_on_the_bar
unfolding counts_of
returns-clause-both_on_the_bar c = refl
