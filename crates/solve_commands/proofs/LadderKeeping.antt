-- What a keeper does with a score that it may keep.
use Rattle.std.proofs.Common.{◌≡◌, ◌∙◌, ◌≤◌, ◌<◌, ◌⊎◌, ℕ, ℤ, List, true, false, inl, inr, length, sym, ap, subst}
use Rattle.std.specs.List.{AllPairs}
use Rattle.outside_log.specs.Log.{Event, LeavesPlaces}
use Rattle.outside_log.specs.Readings.{WritesFile}
use Rattle.outside_log.specs.Sink.{Output}
use Rattle.directed_fixed.specs.Bounds.{Bounds}
use Rattle.cube_actions.specs.Ladder.{ladder, ScoreComesBefore}
use Rattle.cube_actions.specs.Scores.{MatchScore}
use Rattle.cube_actions.specs.Starts.{StartPairs, AreStarts}
use Rattle.turn_rule.specs.declared.game.Game.{Game}
use Rattle.interval_words.specs.WordLists.{WordList, AreRight, IsWidest, words_in_list}
use Rattle.match_scores.specs.Ladders.{score_at, with_pair, AreWordsAt}
use Rattle.match_scores.specs.Openings.{start_over}
use Rattle.command_line.specs.declared.command.Ladder.{Ladder}
use Rattle.command_line.specs.Right.{IsRightLadder}
use Rattle.solve_reports.specs.Ladder.{ladder_score_text}
use Rattle.solve_commands.specs.Ladders.{HasKeptSince, IsScoreSolved, LadderPast, SolvedScore, score_bytes, score_line, ladder_score, scores_in}
use Rattle.run_endings.specs.Scores.{score_file}
use Rattle.run_endings.specs.Endings.{IsPut, WasPut}
use Rattle.match_scores.proofs.WholeLadder.{and_then}
use Rattle.solve_commands.proofs.LadderSteps.{LadderLaw, head-valid, lines-more, longer, score-solved, scores-more, wrote-more}
use Rattle.solve_commands.proofs.Puts.{put-both}

-- the scores of each match stand in order
abbrev pub AreInOrder : Type 0
AreInOrder = (match_length : ℕ) → 1 ≤ match_length → match_length ≤ 5 → AllPairs ScoreComesBefore (ladder match_length)

module _ (task : Ladder) (right : IsRightLadder task) (law : LadderLaw) (order : AreInOrder)
    (past : LadderPast) (own given : StartPairs) (score : MatchScore) (words : WordList) (widest : ℤ) (pair : Bounds)
    (same : given ≡ own) (valid : AreStarts given) (more : length given.pairs < length (ladder given.match_length)) (is_next : score ≡ score_at given.match_length (length given.pairs))
    (closed : AreWordsAt task.checkers task.rounds score given words) (are_right : AreRight words) (is_widest : IsWidest words widest)
    (start : pair ≡ start_over words.game.checkers (words_in_list words) score)
    (after : List Event) (middle : Output) (since : HasKeptSince past task own false after middle) where
  abbrev next : SolvedScore
  next = record { words = words; widest = widest }

  of_length : own.match_length ≡ task.match_length
  of_length = since.solved.of_length

  next-is : score ≡ ladder_score task (length own.pairs)
  next-is = is_next ∙ (ap (λ (s : StartPairs). score_at s.match_length (length s.pairs)) same ∙ ap (λ (n : ℕ). score_at n (length own.pairs)) of_length)

  at-own : (P : StartPairs → MatchScore → Type 0) → P given score → P own (ladder_score task (length own.pairs))
  at-own P p = subst (λ (s : StartPairs). P s (ladder_score task (length own.pairs))) same (subst (λ (sc : MatchScore). P given sc) next-is p)

  more-own : length own.pairs < scores_in task
  more-own =
      subst (λ (n : ℕ). length own.pairs < length (ladder n)) of_length
      (subst (λ (s : StartPairs). length s.pairs < length (ladder s.match_length)) same more)

  solved : IsScoreSolved task score given next
  solved = score-solved task score given words widest (head-valid task right given valid (order given.match_length valid.from valid.to) score more is_next) closed are_right is_widest

  solved-own : IsScoreSolved task (ladder_score task (length own.pairs)) own next
  solved-own = at-own (λ s sc. IsScoreSolved task sc s next) solved

  pair-is : pair ≡ start_over task.checkers (words_in_list words) score
  pair-is = start ∙ ap (λ (n : ℕ). start_over n (words_in_list words) score) (ap (λ (g : Game). g.checkers) closed.game)

  module _ (later : List Event) (new : Output) where
    -- its file was written and its line was put
    pub keeps : WritesFile (score_file task.prefix score) (score_bytes task score given words) after later → IsPut middle new (ladder_score_text score pair widest) → (more_starts : StartPairs) → more_starts ≡ with_pair own pair → AreStarts more_starts → HasKeptSince past task more_starts false later new
    keeps written line more_starts added are_starts =
        let line' : IsPut middle new (score_line task (ladder_score task (length own.pairs)) words widest) =
        at-own (λ s sc. IsPut middle new (score_line task sc words widest)) (subst (λ (p : Bounds). IsPut middle new (ladder_score_text score p widest)) pair-is line) in
        let pair' : pair ≡ start_over task.checkers (words_in_list words) (ladder_score task (length own.pairs)) = at-own (λ s sc. pair ≡ start_over task.checkers (words_in_list words) sc) pair-is in
        let same' : more_starts ≡ longer task right law own since.scores since.solved next more-own solved-own = added ∙ ap (with_pair own) pair' in
        subst (λ (s : StartPairs). HasKeptSince past task s false later new) (sym same')
        (record {
          scores = and_then since.scores (length own.pairs) next;
          solved = scores-more task right law own since.scores since.solved next more-own solved-own (subst AreStarts same' are_starts);
          files = wrote-more task right law own since.scores since.solved next more-own solved-own past.before after later since.files (at-own (λ s sc. WritesFile (score_file task.prefix sc) (score_bytes task sc s words) after later) written);
          lines = subst (IsPut past.old new) (sym (lines-more task right law own since.scores since.solved next more-own solved-own)) (put-both past.old middle new _ _ since.lines line');
        })

    -- writing its file failed, or putting its line
    pub fails : LeavesPlaces after later → (new ≡ middle) ⊎ WasPut middle new (ladder_score_text score pair widest) → HasKeptSince past task own true later new
    fails leaves line = record {
      behind = after;
      scores = record {
        scores = since.scores;
        solved = since.solved;
        files = since.files;
        lines = (
          middle,
          since.lines,
          elim (at-own (λ s sc. (new ≡ middle) ⊎ WasPut middle new (score_line task sc words widest)) (subst (λ (p : Bounds). (new ≡ middle) ⊎ WasPut middle new (ladder_score_text score p widest)) pair-is line)) [
            | inl same ↦ inl same
            | inr put ↦ inr (inl (record { more = more-own; score = next; solved = solved-own; line = put }))
          ],
        );
      };
      leaves = leaves;
    }
