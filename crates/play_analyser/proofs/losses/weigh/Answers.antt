use Rattle.play_analyser.proofs.losses.weigh.Goals as goal

pub returns-in-Played-clause-looked : goal.returns-in-Played-clause-looked
returns-in-Played-clause-looked g c = rw c.in-Played.is c.weigh_play.ensures.looked

pub returns-in-Offered-clause-looked : goal.returns-in-Offered-clause-looked
returns-in-Offered-clause-looked g c = rw c.in-Offered.is c.weigh_offer.ensures.looked

pub returns-in-Answered-clause-looked : goal.returns-in-Answered-clause-looked
returns-in-Answered-clause-looked g c = rw c.in-Answered.is c.weigh_answer.ensures.looked
