-- A worker takes in what another has noted and swept.
use Rattle.std.proofs.Common.{◌≡◌, ◌≢◌, ◌<◌, length, set, ◌||◌, ℕ, zero, suc, refl, List, Bool, true, false, Some, arith, subst, sym, ap, ◌∙◌, inl, inr}
use Rattle.std.proofs.lemmas.Bool.{or_cases, cases_lt}
use Rattle.std.proofs.lemmas.List.{get_or-set_other}
use Rattle.interval_words.proofs.Allowed.{one-game}
use Rattle.turn_rule.specs.States.{AreNoLooser}
use Rattle.turn_rule.specs.declared.game.Game.{Game}
use Rattle.interval_words.specs.Core.{noted}
use Rattle.interval_words.specs.Seats.{GameTable, GameSeat, SitsAt, joining, KeepsNotes}
use Rattle.worker_sweep.specs.Blocks.{IsSwept}
use Rattle.column_turns.specs.Columns.{ColumnPairs, IsRoomOf}
use Rattle.worker_sweep.specs.Workers.{SeatsAndMarks, HasColumnRoom, IsHonest, is_marked, unmarked}
use Rattle.worker_sweep.proofs.BlockLemmas.{append-left, append-right, swept-still}

module _ (old other new : GameSeat) (joins : new ≡ joining old other) (same : other.view.base ≡ old.view.base) (none : other.view.hands ≡ 0) where
  base-new : new.view.base ≡ old.view.base
  base-new = ap (λ s. s.view.base) joins ∙ omega (arith, same)

  pub keeps-joined : KeepsNotes old new
  keeps-joined = record {
    table = ap (λ s. s.table) joins;
    game = ap (λ s. s.view.game) joins;
    base = base-new;
    hands = omega (arith, ap (λ s. s.view.hands) joins, none);
    notes = λ game names. subst (λ (s : GameSeat). AreNoLooser game (noted game s.view.notes) (noted game old.view.notes)) (sym joins) (append-left game old.view.notes other.view.notes);
  }

  pub honest-joined : (mine theirs both : List Bool) → ((game : Game) → old.view.game ≡ Some game → (block : ℕ) → is_marked mine block ≡ true → IsSwept game old.view block)
      → ((game : Game) → other.view.game ≡ Some game → (block : ℕ) → is_marked theirs block ≡ true → IsSwept game other.view block) → other.view.game ≡ old.view.game
      → ((block : ℕ) → is_marked both block ≡ (is_marked mine block || is_marked theirs block))
      → (game : Game) → new.view.game ≡ Some game → (block : ℕ) → is_marked both block ≡ true → IsSwept game new.view block
  honest-joined mine theirs both swept_old swept_other game_is either game names block marked =
      let named : old.view.game ≡ Some game = sym (ap (λ s. s.view.game) joins) ∙ names in
      elim (or_cases (is_marked mine block) (is_marked theirs block) (sym (either block) ∙ marked)) [
        | inl own ↦ swept-still game old.view new.view block base-new (keeps-joined.notes game named) (swept_old game named block own)
        | inr taken ↦ (
            let tighter = subst (λ (s : GameSeat). AreNoLooser game (noted game s.view.notes) (noted game other.view.notes)) (sym joins) (append-right game old.view.notes other.view.notes) in
            swept-still game other.view new.view block (base-new ∙ sym same) tighter (swept_other game (game_is ∙ named) block taken))
      ]

-- one block more is swept
pub honest-swept : (board : GameTable) (old new : GameSeat) (marks : List Bool) (block : ℕ) → SitsAt board old → KeepsNotes old new → block < length marks
    → ((game : Game) → old.view.game ≡ Some game → (b : ℕ) → is_marked marks b ≡ true → IsSwept game old.view b)
    → IsSwept board.game new.view block
    → (game : Game) → new.view.game ≡ Some game → (b : ℕ) → is_marked (set marks block true) b ≡ true → IsSwept game new.view b
honest-swept board old new marks block sits kept inside before done game names b marked =
    let named : old.view.game ≡ Some game = sym kept.game ∙ names in
    elim (cases_lt b block) [
      | inl below ↦ older named (λ e. absurd (omega (arith, below, e)))
      | inr up ↦ elim (cases_lt block b) [
        | inl above ↦ older named (λ e. absurd (omega (arith, above, e)))
        | inr down ↦ (
            let same : b ≡ block = omega (arith, up, down) in
            let is : board.game ≡ game = one-game old.view board.game game sits.game named in
            subst (λ (n : ℕ). IsSwept game new.view n) (sym same) (subst (λ (g : Game). IsSwept g new.view block) is done))
      ]
    ] where
      older : old.view.game ≡ Some game → b ≢ block → IsSwept game new.view b
      older named other =
          let was : is_marked marks b ≡ true = sym (get_or-set_other marks block b true false other) ∙ marked in
          swept-still game old.view new.view b kept.base (kept.notes game named) (before game named b was)

-- with no note lost, what is marked stays swept
pub honest-kept : (old new : GameSeat) (marks : List Bool) → KeepsNotes old new
    → ((game : Game) → old.view.game ≡ Some game → (block : ℕ) → is_marked marks block ≡ true → IsSwept game old.view block)
    → (game : Game) → new.view.game ≡ Some game → (block : ℕ) → is_marked marks block ≡ true → IsSwept game new.view block
honest-kept old new marks kept before game names block marked =
    let named : old.view.game ≡ Some game = sym kept.game ∙ names in
    swept-still game old.view new.view block kept.base (kept.notes game named) (before game named block marked)

-- there is room for the columns of a board's game, whichever seat at it names it
pub room-of : (board : GameTable) (seat : GameSeat) (column : ColumnPairs) → SitsAt board seat → HasColumnRoom seat.view column → IsRoomOf board.game column
room-of board seat column sits has = has.room board.game sits.game

pub has-room : (board : GameTable) (seat : GameSeat) (column : ColumnPairs) → SitsAt board seat → IsRoomOf board.game column → HasColumnRoom seat.view column
has-room board seat column sits room = record { room = λ game names. subst (λ (g : Game). IsRoomOf g column) (one-game seat.view board.game game sits.game names) room }

-- a seat that takes another's place has room for its columns
pub room-at : (board : GameTable) (seat new : GameSeat) (column : ColumnPairs) → SitsAt board seat → SitsAt board new → HasColumnRoom seat.view column → HasColumnRoom new.view column
room-at board seat new column sits follows has = has-room board new column follows (room-of board seat column sits has)

-- nothing is marked
unmarked-none : (blocks block : ℕ) → is_marked (unmarked blocks) block ≡ false
unmarked-none zero block = refl
unmarked-none (suc n) zero = refl
unmarked-none (suc n) (suc block) = unmarked-none n block

-- a worker that has marked nothing is honest
pub none-marked : (worker : SeatsAndMarks) (blocks : ℕ) → worker.marks ≡ unmarked blocks → IsHonest worker
none-marked worker blocks none = record { marks = λ game names block marked. absurd (let no : is_marked worker.marks block ≡ false = ap (λ m. is_marked m block) none ∙ unmarked-none blocks block in let e : true ≡ false = sym marked ∙ no in grind (arith, e)) }
