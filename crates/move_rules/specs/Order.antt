-- The order in which sequences are listed, and the list of plays.
use Rattle.std.specs.Prelude.{◌≡◌, ◌<◌, List, [], ◌∷◌, map, ◌⊎◌}
use Rattle.position_rank.specs.Placement.{Placement}
use Rattle.roll_table.specs.Rolls.{Dice}
use Rattle.move_rules.specs.declared.play.Move.{Move}
use Rattle.move_rules.specs.declared.play.Entry.{Entry}
use Rattle.move_rules.specs.Sequences.{IsLegal}

-- A sequence comes before another by its first move that differs: the one by the higher die, else the one from the higher place.
-- Nothing comes before or after the sequence of no moves.
abbrev pub PlayComesBefore : List Move → List Move → Type 0
PlayComesBefore [] others = ⊥
PlayComesBefore (move ∷ moves) [] = ⊥
PlayComesBefore (move ∷ moves) (other ∷ others) =
    (other.die < move.die) ⊎ ((move.die ≡ other.die) × (other.from < move.from))
    ⊎ ((move ≡ other) × PlayComesBefore moves others)

-- a legal sequence that leaves this end, and none that leaves it comes before
pub record IsFirst (p : Placement) (roll : Dice) (moves : List Move)
    (end : Placement) : Type 0 where
  pub legal : IsLegal p roll moves end
  pub first : (others : List Move) → IsLegal p roll others end → PlayComesBefore others moves → ⊥

-- the ends of some entries
abbrev pub ends_of : List Entry → List Placement
ends_of entries = map (λ (entry : Entry). entry.end) entries

-- the plays of some entries
abbrev pub plays_of : List Entry → List (List Move)
plays_of entries = map (λ (entry : Entry). entry.play.items) entries
