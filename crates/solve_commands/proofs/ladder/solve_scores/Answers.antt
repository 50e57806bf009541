use Rattle.std.proofs.Common.{◌≡◌, ◌∙◌, ap, subst, rules}
use Rattle.outside_log.specs.Log.{LeavesPlaces, failures}
use Rattle.match_scores.specs.Keepers.{Keeper}
use Rattle.command_line.specs.declared.command.Ladder.{Ladder}
use Rattle.solve_commands.specs.Ladders.{HasKeptSince, LadderPast, LadderStays, SolvesScores}
use Rattle.solve_commands.proofs.LadderEnds.{begun, scores-ended}
use Rattle.solve_commands.proofs.ladder.solve_scores.Goals as goal

pub returns-clause-solves : goal.returns-clause-solves
returns-clause-solves g c before leaves =
    let task = c.args.task.now in
    let old = g.O.Sink.output c.args.out.now in
    let past : LadderPast = record { before = before; old = old } in
    let made = c.new-keep.ensures in
    let left : LeavesPlaces before (g.F.Files.log c.new-keep.result.files.now) = rw made.files leaves in
    let since = c.solve_ladder.ensures.since past (begun past task _ _ _ _ _ made.task made.starts made.works (ap g.O.Sink.output made.out) left) in
    let keep = c.solve_ladder.new.keep in
    let same : keep.task.now ≡ task = ap (λ (stays : LadderStays). stays.task) c.solve_ladder.ensures.stays ∙ made.task in
    let keeper : Keeper = record {
      checkers = keep.task.now.checkers;
      rounds = keep.task.now.rounds;
      starts = keep.starts;
      failed = keep.failed;
      write_faults = failures (g.F.Files.log keep.files.now);
      put_faults = (g.O.Sink.output keep.out.now).faults;
    } in
    let done : SolvesScores task before (g.F.Files.log keep.files.now) old (g.O.Sink.output keep.out.now) c.solve_ladder.result =
    scores-ended task before _ old keeper _ _ (subst (λ (t : Ladder). HasKeptSince past t keep.starts keep.failed (g.F.Files.log keep.files.now) (g.O.Sink.output keep.out.now)) same since)
    c.solve_ladder.ensures.hands.failed c.solve_ladder.ensures.kept c.solve_ladder.ensures.whole in
    search rules
