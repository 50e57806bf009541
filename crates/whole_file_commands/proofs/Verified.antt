-- What is known of words that were checked, and of a file that wasn't found to be consistent.
use Rattle.std.proofs.Common.{ℕ}
use Rattle.position_rank.specs.Placement.{Placement}
use Rattle.turn_rule.specs.declared.game.Game.{Game}
use Rattle.turn_rule.specs.States.{IsState}
use Rattle.turn_rule.specs.Turn.{Words}
use Rattle.turn_rule.specs.Exact.{Scoring}
use Rattle.turn_rule.specs.Truth.{AreConsistent, AreEnclosing, Encloses, IsScoring}
use Rattle.turn_rule.specs.declared.choice.Choice.{Choice}
use Rattle.play_analyser.specs.Choices.{IsChoice}
use Rattle.play_analyser.specs.Regrets.{counted_over, loss_of, regret_of}
use Rattle.interval_words.specs.WordLists.{WordList, words_in_list}
use Rattle.base_verify.specs.Findings.{AlwaysEnclose}
use Rattle.whole_file_commands.specs.Verifies.{AreVerified}

-- the law on losses, of a game
abbrev Law : Game → Type 0
Law game =
    (scoring : Scoring) → IsScoring game scoring
    → (turns : ℕ) (u : Words) → AreEnclosing game scoring turns u
    → (p : Placement) (k : ℕ) → IsState game p k
    → (choice : Choice) → IsChoice game.stakes p k choice
    → Encloses (loss_of game.stakes u p k choice) (regret_of game.stakes scoring turns p k choice) (counted_over scoring turns choice)

pub verified : (words : WordList) → Law words.game → AreConsistent words.game (words_in_list words) → AlwaysEnclose words → AreVerified words
verified words law consistent enclosing = record {
  consistent = consistent;
  enclosing = enclosing;
  losses = λ scoring within ends turns. law scoring within turns (words_in_list words) (enclosing scoring within ends turns);
}
