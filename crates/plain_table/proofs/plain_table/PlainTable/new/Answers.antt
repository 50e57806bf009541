use Rattle.std.proofs.Common.{◌∙◌, sym, refl}
use Rattle.cube_actions.specs.Stakes.{IsValid}
use Rattle.plain_table.specs.Tables.{IsFull}
use Rattle.plain_table.specs.Rounds.{HasTable}
use Rattle.plain_table.proofs.GameLemmas.{opening-rounds, rounds-agree-within, replicate-full}
use Rattle.plain_table.proofs.plain_table.PlainTable.new.Goals as goal

pub invariant_of-result : goal.invariant_of-result
invariant_of-result c =
    let now = c.in_ok-current.current in
    let stakes = c.copied.result in
    let valid : IsValid stakes = rw c.copied.ensures c.kinds.ensures.valid in
    let has : HasTable (record { stakes = stakes; table = now }) 0 =
    rw (c.copied.ensures, c.in_ok-current.ensures, c.new-bound_pair.ensures, c.neg.ensures, c.bound-bound.ensures.bound)
    (opening-rounds c.args.stakes.now c.args.checkers c.kinds.result c.kinds.ensures.kinds) in
    let full : IsFull now = rw c.in_ok-current.ensures (replicate-full c.args.checkers c.kinds.result c.new-bound_pair.result) in
    record {
      valid = valid;
      over = record {
        layouts = rw c.in_ok-current.ensures c.in_ok-turns.ensures.layouts;
        kinds = rw c.copied.ensures c.in_ok-turns.ensures.kinds;
        kinds_too = rw (c.copied.ensures, c.in_ok-current.ensures) c.kinds.ensures.kinds;
        within = rounds-agree-within (record { stakes = stakes; table = now }) 0 valid has;
      };
      alike = rw (c.in_ok-current.ensures, c.in_ok-next.ensures) (record { checkers = refl; kinds = c.kinds-2.ensures.kinds ∙ sym c.kinds.ensures.kinds });
      full_now = full;
      full_next = rw c.in_ok-next.ensures (replicate-full c.args.checkers c.kinds-2.result c.new-bound_pair.result);
    }

pub returns-clause-rounds : goal.returns-clause-rounds
returns-clause-rounds c =
    rw (c.copied.ensures, c.in_ok-current.ensures, c.new-bound_pair.ensures, c.neg.ensures, c.bound-bound.ensures.bound)
    (opening-rounds c.args.stakes.now c.args.checkers c.kinds.result c.kinds.ensures.kinds)
