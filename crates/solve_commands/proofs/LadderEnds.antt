-- How solving a ladder ends, by what was done when its scores were.
use Rattle.std.proofs.Common.{◌≡◌, ◌∙◌, ◌++◌, ℕ, zero, suc, Bool, true, false, IsTrue, List, [], ◌∷◌, length, Result, Ok, Err, inl, inr, refl, sym, ap, subst}
use Rattle.std.specs.Prelude.{IfOk, IsErrOf, ◌↔◌}
use Rattle.outside_log.specs.Log.{Event, LeavesPlaces, Started, standing}
use Rattle.outside_log.specs.Readings.{WritesFile, is_faithful}
use Rattle.outside_log.specs.Sink.{Output}
use Rattle.outside_log.proofs.Logs.{leaves-none}
use Rattle.outside_log.proofs.Readings.{completed-before, grown-before, leaves-before, reads-before}
use Rattle.cube_actions.specs.Starts.{StartPairs}
use Rattle.match_scores.specs.declared.ladder.LadderStop.{LadderStop}
use Rattle.match_scores.specs.declared.ladder.LadderStop.TheVariants.{Keep, NoMemory}
use Rattle.match_scores.specs.Keepers.{Keeper, HasKept, IsWholeLadder, no_pairs}
use Rattle.command_line.specs.declared.command.Ladder.{Ladder}
use Rattle.run_endings.specs.declared.ending.RunStop.{RunStop}
use Rattle.run_endings.specs.declared.ending.RunStop.TheVariants.{NotWritten, Refused}
use Rattle.run_endings.specs.Endings.{IsPut, WasCut}
use Rattle.solve_commands.specs.Ladders.{HasKeptSince, HasSolvedLadder, HasStoppedLadder, LadderPast, SolvedScore, SolvesLadder, SolvesScores, StopsTrying, WroteScores, end_line, scores_in}
use Rattle.solve_commands.proofs.LadderSteps.{nothing-since}
use Rattle.solve_commands.proofs.Puts.{put-both}

-- a keeper that has kept nothing yet
pub begun : (past : LadderPast) (task own : Ladder) (starts : StartPairs) (failed : Bool) (after : List Event) (new : Output) → own ≡ task → starts ≡ no_pairs task.match_length → failed ≡ false → new ≡ past.old → LeavesPlaces past.before after
    → HasKeptSince past own starts failed after new
begun past task own starts failed after new same_task none works same_out leaves =
    subst (λ (t : Ladder). HasKeptSince past t starts failed after new) (sym same_task)
    (subst (λ (s : StartPairs). HasKeptSince past task s failed after new) (sym none)
    (subst (λ (b : Bool). HasKeptSince past task (no_pairs task.match_length) b after new) (sym works)
    (subst (λ (o : Output). HasKeptSince past task (no_pairs task.match_length) false after o) (sym same_out) (nothing-since past task after leaves))))

not-failed : (failed : Bool) → (failed ≡ true → ⊥) → failed ≡ false
not-failed true not = absurd (not refl)
not-failed false not = refl

module _ (task : Ladder) (before after : List Event) (old : Output) where
  abbrev past : LadderPast
  past = record { before = before; old = old }

  -- what was done when solving the scores ended, by what the keeper has then
  pub scores-ended : (keeper : Keeper) (new : Output) (result : Result StartPairs LadderStop)
      → HasKeptSince past task keeper.starts keeper.failed after new → (IsErrOf result Keep ↔ (keeper.failed ≡ true)) → IfOk result (λ starts. HasKept starts keeper) → IfOk result (IsWholeLadder task.checkers task.match_length task.rounds)
      → SolvesScores task before after old new result
  scores-ended keeper new (Ok starts) since hands kept whole = (
    keeper.starts,
    subst (λ (b : Bool). HasKeptSince past task keeper.starts b after new) kept.works since,
    ap (λ (s : StartPairs). length s.pairs) kept.held ∙ whole.whole,
  )
  scores-ended keeper new (Err Keep) since hands kept whole = (
    keeper.starts,
    subst (λ (b : Bool). HasKeptSince past task keeper.starts b after new) (hands.0 refl) since,
  )
  scores-ended keeper new (Err NoMemory) since hands kept whole = (
    keeper.starts,
    subst (λ (b : Bool). HasKeptSince past task keeper.starts b after new) (not-failed keeper.failed (λ failed. let same = hands.1 failed in cc)) since,
  )

  -- a keeper that has kept nothing, and failed
  pub nothing-kept : LeavesPlaces before after → HasStoppedLadder task before after old old
  nothing-kept leaves =
      let none = nothing-since past task before (leaves-none before) in (
        no_pairs task.match_length,
        record { behind = before; scores = record { scores = none.scores; solved = none.solved; files = none.files; lines = (old, none.lines, inl refl) }; leaves = leaves },
      )

  -- one of the files couldn't be begun
  pub not-tried : (stop : RunStop) → StopsTrying task (is_faithful after) (standing before) stop → LeavesPlaces before after → SolvesLadder task before after old old (Err stop)
  not-tried NotWritten told leaves = nothing-kept leaves
  not-tried (Refused refusal) told leaves = inr (told, refl, leaves)

  module _ (middle new : Output) (starts : StartPairs) (since : HasKeptSince past task starts false after middle) (whole : length starts.pairs ≡ scores_in task) where
    pub whole-solved : IsPut middle new (end_line task) → HasSolvedLadder task before after old new
    whole-solved put = record {
      starts = starts;
      scores = record { scores = since.scores; solved = since.solved; files = since.files; lines = put-both old middle new _ _ since.lines put };
      whole = whole;
    }

    pub end-stopped : WasCut middle new (end_line task) → HasStoppedLadder task before after old new
    end-stopped cut = (
      starts,
      record {
        behind = after;
        scores = record { scores = since.scores; solved = since.solved; files = since.files; lines = (middle, since.lines, inr (inr (whole, cut))) };
        leaves = leaves-none after;
      },
    )

-- ---- where all answers were faithful behind some scores, so they were before them

writes-before : {name bytes : List ℕ} {old new : List Event} → WritesFile name bytes old new → IsTrue (is_faithful new) → IsTrue (is_faithful old)
writes-before {name} {bytes} {old} {new} writes all = grown-before old (old ++ Started name ∷ []) (Started name ∷ []) refl (reads-before writes.begins (completed-before writes.completes all))

pub wrote-before : (task : Ladder) (starts : StartPairs) (scores : ℕ → SolvedScore) (many : ℕ) (before after : List Event) → WroteScores task starts scores many before after → IsTrue (is_faithful after) → IsTrue (is_faithful before)
wrote-before task starts scores zero before after wrote all = leaves-before wrote all
wrote-before task starts scores (suc many) before after (middle, wrote, writes) all = wrote-before task starts scores many before middle wrote (writes-before writes all)
