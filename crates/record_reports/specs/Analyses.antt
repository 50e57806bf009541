-- The reports on what the decisions of recorded games lose.
use Rattle.std.specs.Prelude.{ℕ, List, [], ◌++◌, codes, decimal}
use Rattle.std.specs.List.{flat_map}
use Rattle.std.specs.Option.{option_map_or}
use Rattle.directed_fixed.specs.Bounds.{Bounds}
use Rattle.turn_rule.specs.declared.choice.Choice.{Choice}
use Rattle.turn_rule.specs.declared.choice.Choice.TheVariants.{Played, Offered, Answered}
use Rattle.game_record.specs.declared.decision.Decision.{Decision}
use Rattle.game_record.specs.declared.player.Player.{Player}
use Rattle.game_record.specs.declared.player.Player.TheVariants.{A, B}
use Rattle.game_record.specs.Turns.{player_text}
use Rattle.record_analysis.specs.declared.analysis.Judged.{Judged}
use Rattle.record_analysis.specs.declared.total.Total.{Total}
use Rattle.record_analysis.specs.Totals.{losses_by, total_of}
use Rattle.equity_report.specs.Reports.{line, counted_text, points_text}

-- ---- decisions

-- what was decided
abbrev pub choice_text : Choice → List ℕ
choice_text (Played roll end) = codes "play"
choice_text (Offered offer) = codes "offer"
choice_text (Answered answer) = codes "answer"

-- the numbers of a decision's game and of its line, whose it was, and what was decided
abbrev pub decision_text : Decision → List ℕ
decision_text decision =
    decimal decision.game ++ codes " " ++ decimal decision.line ++ codes " "
    ++ player_text decision.player ++ codes " " ++ choice_text decision.choice

-- a decision and what it loses
abbrev pub lost_text : Decision → Bounds → List ℕ
lost_text decision loss = line (decision_text decision) (points_text loss)

-- the same, where it was judged
abbrev pub judged_text : Judged → List ℕ
judged_text judged = option_map_or (lost_text judged.decision) judged.loss []

-- ---- totals

-- how many decisions of a player were judged, and what they lose together
abbrev pub total_text : Player → Total → List ℕ
total_text player total =
    line (player_text player)
    (counted_text (codes "decisions") total.decisions ++ codes " loss "
    ++ points_text (record { lower = total.lower; upper = total.upper }))

-- both players' totals
abbrev pub totals_text : List Judged → List ℕ
totals_text list =
    total_text A (total_of (losses_by A list)) ++ total_text B (total_of (losses_by B list))

-- ---- the reports

-- what each decision loses that was judged, in the order of the record, and both totals
abbrev pub analysis_text : List Judged → List ℕ
analysis_text list = flat_map judged_text list ++ totals_text list

-- a record that was made: how many lines and bytes it has, and both totals
abbrev pub made_text : ℕ → ℕ → List Judged → List ℕ
made_text lines bytes list =
    line (codes "made") (counted_text (codes "lines") lines ++ codes " "
    ++ counted_text (codes "bytes") bytes) ++ totals_text list
