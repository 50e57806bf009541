use Rattle.std.proofs.Common.{◌≡◌, map}
use Rattle.cube_actions.specs.declared.kind.Taken.{Taken}
use Rattle.turn_rule.specs.Looks.{of_roll, roll_pair}
use Rattle.play_analyser.specs.Regrets.{taken_pair}
use Rattle.play_analyser.specs.Sought.{ArePairsFor, of_answer}
use Rattle.play_analyser.proofs.AdvisedLosses.{action-loses, all-over-tighter, over-tighter}
use Rattle.play_analyser.proofs.CubeLosses.{taken_over}
use Rattle.play_analyser.proofs.LossPairs.{pair-notes, pairs-notes}
use Rattle.play_analyser.proofs.look_laws.advised_actions_lose_at_most_their_bounds.Goals as goal

pub returns-clause-over : goal.returns-clause-over
returns-clause-over c = λ game scoring turns u words p k state advice is.
    action-loses game scoring turns u words p k state (λ answers pairs. pairs ≡ map (λ (taken : Taken). taken_pair game.stakes u p taken) answers) (λ double pairs h. all-over-tighter (taken_over game.stakes p double u) pairs h)
    advice.no_double (over-tighter (roll_pair game.stakes u p k 1) advice.no_double is.no_double) advice.action is.action

pub returns-clause-looked : goal.returns-clause-looked
returns-clause-looked c = λ game scoring turns noted words p k state source advice told is.
    action-loses game scoring turns noted.words words p k state (λ answers pairs. ArePairsFor (of_answer game.stakes p) answers source noted pairs)
    (λ double pairs h. pairs-notes source (of_answer game.stakes p) noted told double.answers.items pairs h) advice.no_double
    (pair-notes source (of_roll game.stakes p k 1) noted advice.no_double is.no_double told) advice.action is.action
