-- A state's turn, as a seat works it out.
use Rattle.std.proofs.Common.{◌≡◌, ◌+◌, ℕ, Some, add-one, ap, sym, subst, ◌∙◌}
use Rattle.position_rank.specs.Placement.{Placement}
use Rattle.directed_fixed.specs.declared.bounds.End.{End}
use Rattle.turn_rule.specs.States.{AreNoLooser}
use Rattle.turn_rule.specs.Turn.{Words, turn, rounds}
use Rattle.turn_rule.specs.declared.game.Game.{Game}
use Rattle.interval_words.specs.Core.{noted}
use Rattle.interval_words.specs.Seats.{GameTable, GameSeat, SitsAt, KeepsNotes}
use Rattle.interval_words.proofs.Allowed.{one-game}
use Rattle.interval_words.proofs.TurnLaws.{rounds-turn}

-- while words are looked up, the seat keeps its notes
pub keeps-looked : (board now : GameTable) (old new : GameSeat) → now ≡ board → new.view.base ≡ old.view.base → new.view.hands ≡ old.view.hands → SitsAt board old → SitsAt now new
    → AreNoLooser board.game (noted now.game new.view.notes) (noted board.game old.view.notes) → KeepsNotes old new
keeps-looked board now old new same base hands before after tighter = record {
  table = after.table ∙ (ap (λ b. b.table) same ∙ sym before.table);
  game = after.game ∙ (ap (λ b. Some b.game) same ∙ sym before.game);
  base = base;
  hands = hands;
  notes = λ game names.
      let is : board.game ≡ game = one-game old.view board.game game before.game names in
      subst (λ (g : Game). AreNoLooser g (noted g new.view.notes) (noted g old.view.notes)) is (subst (λ (b : GameTable). AreNoLooser board.game (noted b.game new.view.notes) (noted board.game old.view.notes)) same tighter);
}

-- a turn over the words after the rounds of the base is at least as tight as after one round more
pub turn-done : (game : Game) (base : ℕ) (end : End) (p : Placement) (k : ℕ) → turn game.stakes (rounds game.stakes base) end p k ≡ rounds game.stakes (base + 1) end p k
turn-done game base end p k = ap (λ (w : Words). w end p k) (sym (rounds-turn game.stakes base)) ∙ ap (λ (n : ℕ). rounds game.stakes n end p k) (sym (add-one base))
