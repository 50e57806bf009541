use Rattle.std.proofs.Common.{◌≡◌, ◌≤◌, ◌++◌, ◌+◌, ◌*◌, List, length, ℕ, take}
use Rattle.position_rank.specs.Placement.{Placement}
use Rattle.play_analyser.specs.declared.ranking.PlayRow.{PlayRow}
use Rattle.base_reports.specs.Advice.{ranked_texts}
use Rattle.base_reports.proofs.advice.add_ranked.Given as goal

pub record Invariant (start now : List ℕ) (p : Placement) (rows : List PlayRow) (done : ℕ) : Type 0 where
  pub bytes : now ≡ start ++ ranked_texts p 1 (take done rows)
  pub room : length now ≤ length start + 140 * done

abbrev pub invariant-rows : goal.invariant-rows
invariant-rows l = Invariant l.initial.report.bytes l.report.bytes l.fn.position l.fn.rows l.i
