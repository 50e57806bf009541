-- Which play is advised: the one that leaves the mover the most by some words.
use Rattle.std.specs.Prelude.{◌≡◌, ◌==◌, ℕ, nat_lt, int_lt, Bool, true, false, ◌&&◌, ◌||◌, List, [], ◌∷◌, if◌then◌else◌}
use Rattle.position_rank.specs.Placement.{Placement}
use Rattle.roll_table.specs.Rolls.{Dice}
use Rattle.move_rules.specs.declared.play.Move.{Move}
use Rattle.move_rules.specs.Ends.{Line, legal_lines}
use Rattle.move_rules.specs.Order.{PlayComesBefore}
use Rattle.move_rules.specs.Sequences.{IsLegal, IsLegalEnd}
use Rattle.directed_fixed.specs.Bounds.{Bounds}
use Rattle.cube_actions.specs.Stakes.{Terms, kind_at}
use Rattle.turn_rule.specs.Turn.{Words}
use Rattle.play_analyser.specs.declared.ranking.PlayRow.{PlayRow}
use Rattle.play_analyser.specs.Rankings.{IsBetter}
use Rattle.play_analyser.specs.Regrets.{play_pair}
use Rattle.best_reply.specs.Policies.{Policy}

-- a greater lower end, or the same and a greater upper end
abbrev pub is_better : Bounds → Bounds → Bool
is_better one another =
    if int_lt another.lower one.lower then true
    else if int_lt one.lower another.lower then false
    else int_lt another.upper one.upper

-- the first move that differs is by the higher die, or by the same and from the higher place
abbrev pub comes_before : List Move → List Move → Bool
comes_before [] others = false
comes_before (move ∷ moves) [] = false
comes_before (move ∷ moves) (other ∷ others) =
    nat_lt other.die move.die
    || (move.die == other.die
    && (nat_lt other.from move.from || (move.from == other.from && comes_before moves others)))

-- it leaves more, or neither leaves more and it comes before
abbrev pub is_ahead : (Placement → Bounds) → Line → Line → Bool
is_ahead left one another =
    if is_better (left one.1) (left another.1) then true
    else if is_better (left another.1) (left one.1) then false
    else comes_before one.0 another.0

-- the best of a sequence and some others
abbrev pub best_line : (Placement → Bounds) → Line → List Line → Line
best_line left best [] = best
best_line left best (line ∷ lines) =
    best_line left (if is_ahead left line best then line else best) lines

-- what the best of some sequences leaves
abbrev pub best_end : (Placement → Bounds) → Placement → List Line → Placement
best_end left p [] = p
best_end left p (line ∷ lines) = (best_line left line lines).1

-- what the advised play leaves: of the legal sequences the one that leaves the mover the most by the words, and of equal ones the first
unfoldable pub advised : Terms → Words → Policy
advised stakes u p k roll = best_end (play_pair (kind_at stakes k) u) p (legal_lines p roll)

-- An end that the advised play leaves: a legal sequence leads to it, no legal play leaves more, and no sequence that leaves as much comes before.
pub record IsAdvised (stakes : Terms) (u : Words) (p : Placement) (k : ℕ) (roll : Dice)
    (end : Placement) : Type 0 where
  pub moves : List Move
  pub legal : IsLegal p roll moves end
  pub best : (q : Placement) → IsLegalEnd p roll q
      → IsBetter (play_pair (kind_at stakes k) u q) (play_pair (kind_at stakes k) u end) → ⊥
  pub first :
      (q : Placement) (others : List Move) → IsLegal p roll others q
      → play_pair (kind_at stakes k) u q ≡ play_pair (kind_at stakes k) u end
      → PlayComesBefore others moves → ⊥

-- the first of these rows is of a play that leaves this
abbrev pub BeginsWith : List PlayRow → Placement → Type 0
BeginsWith [] end = ⊥
BeginsWith (row ∷ rows) end = row.entry.end ≡ end
