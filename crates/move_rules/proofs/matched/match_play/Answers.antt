use Rattle.std.proofs.Common.{inl, inr}
use Rattle.move_rules.proofs.NoFault.{written-right}
use Rattle.move_rules.proofs.WrittenLaws.{steps-of, written-sequence}
use Rattle.move_rules.proofs.matched.match_play.Goals as goal

pub judge-requires-clause-sequence : goal.judge-requires-clause-sequence
judge-requires-clause-sequence c = (c.in_ok-entry.entry.end, written-sequence _ _ _ _ _ c.in_ok-entry.ensures.ok)

pub returns-clause-right : goal.returns-clause-right
returns-clause-right c = record {
  roll_is = c.in_ok-entry.ensures.valid;
  moves = c.in_ok-entry.entry.play.items;
  legal = c.in_ok-judge.ensures.ok c.in_ok-entry.entry.end (written-sequence _ _ _ _ _ c.in_ok-entry.ensures.ok);
  written = steps-of _ _ _ _ _ c.in_ok-entry.ensures.ok;
}

pub returns-clause-legal : goal.returns-clause-legal
returns-clause-legal c = c.in_ok-judge.ensures.ok c.in_ok-entry.entry.end (written-sequence _ _ _ _ _ c.in_ok-entry.ensures.ok)

pub returns-in_err-entry-clause-complete : goal.returns-in_err-entry-clause-complete
returns-in_err-entry-clause-complete c = λ end leaves. absurd (written-right _ _ _ end _ leaves (inl c.in_err-entry.ensures.err))

pub returns-in_err-judge-clause-complete : goal.returns-in_err-judge-clause-complete
returns-in_err-judge-clause-complete c = λ end leaves.
    absurd (written-right _ _ _ end _ leaves (inr (c.in_ok-entry.entry.play.items, c.in_ok-entry.entry.end, c.in_ok-entry.ensures.ok, c.in_err-judge.ensures.err)))
