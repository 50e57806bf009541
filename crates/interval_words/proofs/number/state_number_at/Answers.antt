use Rattle.std.proofs.Common.{◌<◌, ℕ, length, sym, subst}
use Rattle.interval_words.specs.Numbers.{states_in}
use Rattle.interval_words.proofs.Places.{state-in}
use Rattle.interval_words.proofs.Calls.{number-is}
use Rattle.interval_words.proofs.number.state_number_at.Goals as goal

pub returns-clause-number : goal.returns-clause-number
returns-clause-number c = number-is _ c.args.position.now c.args.kind _ _ c.rank_at.ensures.rank c.kinds.ensures.kinds

pub returns-clause-below : goal.returns-clause-below
returns-clause-below c =
    subst (λ (n : ℕ). n < states_in c.args.index.now (length c.args.stakes.now.kinds)) (sym (number-is _ c.args.position.now c.args.kind _ _ c.rank_at.ensures.rank c.kinds.ensures.kinds))
    (state-in c.args.index.now (length c.args.stakes.now.kinds) c.args.position.now c.args.kind c.requires.state)
