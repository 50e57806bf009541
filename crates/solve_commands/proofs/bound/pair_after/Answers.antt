use Rattle.std.proofs.Common.{◌≡◌, ◌∙◌, refl, subst, sym, arith}
use Rattle.directed_fixed.specs.Bounds.{Bounds}
use Rattle.directed_fixed.specs.declared.bounds.End.TheVariants.{Lower, Upper}
use Rattle.cube_actions.specs.Money.{cubeless}
use Rattle.turn_rule.specs.Games.{game_of}
use Rattle.turn_rule.specs.Turn.{rounds}
use Rattle.turn_rule.specs.States.{IsState, pair_of}
use Rattle.turn_rule.proofs.Cubeless.{cubeless-valid}
use Rattle.turn_rule.proofs.Enclosing.{rounds-enclose}
use Rattle.plain_table.specs.Tables.{words_at}
use Rattle.solve_commands.specs.Truth.{IsTrueOfBound, asked_pair}
use Rattle.solve_commands.proofs.bound.pair_after.Goals as goal

pub returns : goal.returns
returns c =
    let task = c.args.task.now in
    let p = task.position in
    let right = c.requires.right in
    let table = c.loop-round.table in
    let reached = c.loop-round.invariant in
    let last : c.loop-round._round ≡ task.rounds = omega (arith, c.loop-round-test.false, c.loop-round.auto._round-end) in
    let state : IsState (game_of task.checkers cubeless) p 0 = record { position = right.position; many = c.requires.same; live = right.live; kind = omega arith } in
    let there : IsState (game_of table.table.checkers table.stakes) p 0 = rw (reached.checkers, reached.stakes) state in
    let same : pair_of (words_at table.table) p 0 ≡ pair_of (rounds table.stakes c.loop-round._round) p 0 = rw (reached.rounds Lower p 0 there, reached.rounds Upper p 0 there) refl in
    let is : c.pair.result ≡ asked_pair task = c.pair.ensures ∙ (rw (reached.stakes, last) at same) in
    let true_of : IsTrueOfBound task (asked_pair task) = record { encloses = λ turns scoring more within. rounds-enclose (game_of task.checkers cubeless) cubeless-valid task.rounds turns more scoring within p 0 state } in
    record { pair = is; truth = subst (λ (pair : Bounds). IsTrueOfBound task pair) (sym is) true_of }
