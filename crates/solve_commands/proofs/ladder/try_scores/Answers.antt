use Rattle.std.proofs.Common.{◌≡◌, ◌∙◌, ◌<◌, ℕ, Bool, List, Option, Result, Ok, Err, IfErr, IsErrAnd, get_or, inl, inr, sym, ap, subst, arith}
use Rattle.std.specs.Prelude.{IsFalse}
use Rattle.std.proofs.lemmas.List.{get_or_default}
use Rattle.outside_log.specs.Files.{Contents}
use Rattle.cube_actions.specs.Ladder.{ladder}
use Rattle.cube_actions.specs.Scores.{MatchScore, last_game}
use Rattle.command_line.specs.declared.command.Ladder.{Ladder}
use Rattle.run_endings.specs.declared.ending.RunStop.{RunStop}
use Rattle.run_endings.specs.Beginnings.{StopsBeginning}
use Rattle.std.proofs.lemmas.Bool.{cases_lt}
use Rattle.outside_log.specs.Log.{GivenUp, standing}
use Rattle.outside_log.specs.Reading.{begins_otherwise}
use Rattle.outside_log.proofs.Logs.{leaves-both, leaves-one, stay}
use Rattle.outside_log.proofs.Readings.{leaves-before, leaves-faults}
use Rattle.base_head.specs.Headers.{magic}
use Rattle.solve_commands.specs.Ladders.{StopsTrying, file_of, scores_in}
use Rattle.run_endings.specs.Scores.{score_file}
use Rattle.run_endings.proofs.Beginning.{leaves-failures}
use Rattle.solve_commands.proofs.ladder.try_scores.Goals as goal

pub returns-in_err-begin-clause-leaves : goal.returns-in_err-begin-clause-leaves
returns-in_err-begin-clause-leaves g c = leaves-both _ _ _ c.scores.invariant.leaves c.begin.ensures.leaves

-- the name of a score's file
named : (given : List ℕ) (scores : List MatchScore) (score : MatchScore) (task : Ladder) (place : ℕ) (name bytes : List ℕ) → scores ≡ ladder task.match_length → place < scores_in task → score ≡ get_or scores place score
    → given ≡ task.prefix → bytes ≡ score_file given score → name ≡ bytes → name ≡ file_of task place
named given scores score task place name bytes of inside is own text shown =
    shown ∙ text ∙ (λ i. score_file (own i) ((is ∙ ap (λ (all : List MatchScore). get_or all place score) of ∙ get_or_default (ladder task.match_length) place score last_game inside) i))

-- why it isn't begun stops the ladder
stops : (task : Ladder) (place : ℕ) → place < scores_in task → (told : Bool) (held now : Contents) (name : List ℕ) → name ≡ file_of task place → now name ≡ held name → (stop : RunStop) (result : Result (Unit {0}) RunStop)
    → StopsBeginning magic name told (now name) stop → IsErrAnd result (λ given. given ≡ stop) → IfErr result (StopsTrying task told held)
stops task place inside told held now name is same stop (Ok x) cause wrong = absurd wrong
stops task place inside told held now name is same stop (Err given) cause due = record {
  place = place;
  inside = inside;
  cause = subst (λ (n : List ℕ). StopsBeginning magic n told (held n) given) is
      (subst (λ (file : Option (List ℕ)). StopsBeginning magic name told file given) same
      (subst (StopsBeginning magic name told (now name)) (sym due) cause));
}

pub returns-in_err-begin-clause-told : goal.returns-in_err-begin-clause-told
returns-in_err-begin-clause-told g c =
    let task = c.args.task.now in
    let place = c.scores.place in
    let inside : place < scores_in task = omega (arith, c.scores-test.true, c.scores.auto.place-end, c.scores.invariant.end) in
    let name = named _ _ _ task place _ _ (c.as_slice.ensures.value ∙ c.ladder-scores.ensures) inside c.index-as_slice-place.is c.as_str.ensures c.score_file-name.ensures c.as_str-name.ensures.value in
    stops task place inside _ (standing (g.F.Files.log c.args.files.now)) (standing (g.F.Files.log c.scores.files)) _ name (stay _ _ c.scores.invariant.leaves _) _ _ c.in_err-begin.ensures.told c.from_residual.ensures.1

pub scores-preserved : goal.scores-preserved
scores-preserved g c =
    let task = c.args.task.now in
    let place = c.scores.place in
    let held = standing (g.F.Files.log c.args.files.now) in
    let inside : place < scores_in task = omega (arith, c.scores-test.true, c.scores.auto.place-end, c.scores.invariant.end) in
    let name = named _ _ _ task place _ _ (c.as_slice.ensures.value ∙ c.ladder-scores.ensures) inside c.index-as_slice-place.is c.as_str.ensures c.score_file-name.ensures c.as_str-name.ensures.value in
    let given = leaves-one _ _ (GivenUp c.as_str-name.result.now) tt c.give_up.ensures in
    let last = leaves-both _ _ _ c.begin.ensures.leaves given in
    record {
      end = c.scores.invariant.end;
      may = λ earlier less all.
          let here : IsFalse (begins_otherwise magic (held (file_of task place))) = rw (← name, ← stay _ _ c.scores.invariant.leaves c.as_str-name.result.now) (c.in_ok-begin.ensures.may (leaves-before given all)) in
          elim (cases_lt earlier place) [
            | inl before ↦ c.scores.invariant.may earlier before (leaves-before last all)
            | inr behind ↦ subst (λ n. IsFalse (begins_otherwise magic (held (file_of task n)))) (omega (arith, behind, less)) here
          ];
      leaves = leaves-both _ _ _ c.scores.invariant.leaves last;
      later = (let one = c.scores.invariant.later in let two = leaves-failures last in omega (arith, one, two));
      read_later = (let one = c.scores.invariant.read_later in let two = leaves-faults last in omega (arith, one, two));
    }
