-- Studying a recorded game: the game that it is played for is solved, and by that its decisions are judged.
use Rattle.std.specs.Prelude.{ℕ, List, All}
use Rattle.cube_actions.specs.Money.{cubeless, unlimited}
use Rattle.cube_actions.specs.Stakes.{Terms}
use Rattle.game_record.specs.declared.decision.Decision.{Decision}
use Rattle.game_record.specs.declared.record.Record.{Record}
use Rattle.game_record.specs.declared.record.RecordStakes.{RecordStakes}
use Rattle.game_record.specs.declared.record.RecordStakes.TheVariants.{Unlimited, Match}
use Rattle.turn_rule.specs.declared.game.Game.{Game}
use Rattle.turn_rule.specs.Games.{game_of}
use Rattle.turn_rule.specs.Truth.{AreSound}
use Rattle.turn_rule.specs.Turn.{Words, rounds}
use Rattle.record_analysis.specs.Analyses.{IsBestFor, analysis_of}
use Rattle.record_analysis.specs.Truth.{IsNoLooserAnalysis, IsTrueAnalysis}
use Rattle.record_analysis.specs.declared.analysis.Judged.{Judged}

-- what a record outside a match is played for; a match has no stakes of its own
abbrev pub stakes_studied : RecordStakes → Terms
stakes_studied (Unlimited rule) = unlimited rule
stakes_studied (Match length) = cubeless

-- the game that a record outside a match is played in
abbrev pub game_of_record : Record → Game
game_of_record rec = game_of rec.checkers (stakes_studied rec.stakes)

-- The decisions were studied: from some number of turns on, one for all of them, each pair encloses what its decision loses exactly; each is
-- at least as tight as over so many rounds in which all states are worked out from the round before; and over some words that are sound, one
-- list for all of them, is best what is told as best.
pub record AreStudied (game : Game) (most : ℕ) (decisions : List Decision)
    (list : List Judged) : Type 0 where
  pub true : IsTrueAnalysis game list
  pub tight : IsNoLooserAnalysis list (analysis_of game.stakes (rounds game.stakes most) decisions)
  pub best : (u : Words) × AreSound game u × All (IsBestFor game.stakes u) list
