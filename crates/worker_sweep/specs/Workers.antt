-- A worker: its seats, and the blocks that it has swept in this round.
use Rattle.std.specs.Prelude.{◌≡◌, ◌==◌, ℕ, ◌+◌, ◌<◌, ◌≤◌, Bool, true, false, List, ◌++◌, length, count_by, replicate, slice_index_or, Some, All, Contains}
use Rattle.block_claims.specs.declared.views.Claim.{Claim}
use Rattle.block_claims.specs.declared.views.ClaimNote.{ClaimNote}
use Rattle.block_claims.specs.declared.views.ClaimView.{ClaimView}
use Rattle.block_claims.specs.Claiming.{ClaimTable, Claimer}
use Rattle.turn_rule.specs.declared.game.Game.{Game}
use Rattle.interval_words.specs.Seats.{GameTable, GameSeat, SitsAt, AddsWork}
use Rattle.interval_words.specs.declared.view.View.{View}
use Rattle.interval_words.specs.declared.view.Work.{Work}
use Rattle.column_turns.specs.Columns.{ColumnPairs, IsRoomOf}
use Rattle.worker_sweep.specs.Blocks.{blocks, IsSwept, IsInBlock}

-- a worker's seats at the board and at the claims, its number, and for each block whether it has swept it in this round
pub record SeatsAndMarks : Type 0 where
  pub seat : GameSeat
  pub claims : Claimer
  pub number : ℕ
  pub marks : List Bool

abbrev pub is_marked : List Bool → ℕ → Bool
is_marked marks block = slice_index_or marks block false

-- no block is marked
abbrev pub unmarked : ℕ → List Bool
unmarked blocks = replicate blocks false

-- a worker that has marked nothing
abbrev pub unmarked_worker : GameSeat → Claimer → ℕ → ℕ → SeatsAndMarks
unmarked_worker seat claims number blocks = record {
  seat = seat;
  claims = claims;
  number = number;
  marks = unmarked blocks;
}

-- a column has room for those of the view's game
pub record HasColumnRoom (view : View) (column : ColumnPairs) : Type 0 where
  pub room : (game : Game) → view.game ≡ Some game → IsRoomOf game column

-- the marked blocks are swept
pub record IsHonest (worker : SeatsAndMarks) : Type 0 where
  pub marks : (game : Game) → worker.seat.view.game ≡ Some game → (block : ℕ)
      → is_marked worker.marks block ≡ true → IsSwept game worker.seat.view block

-- a worker of a board, with a hand and a mark for each of its blocks
pub record WorksAt (board : GameTable) (worker : SeatsAndMarks) : Type 0 where
  pub seat : SitsAt board worker.seat
  pub hand : 0 < worker.seat.view.hands
  pub marks : length worker.marks ≡ blocks board.game.checkers

-- a worker of a board and its claims, after so many rounds
pub record IsAtWork (board : GameTable) (claims : ClaimTable) (base : ℕ)
    (worker : SeatsAndMarks) : Type 0 where
  pub works : WorksAt board worker
  pub claimer : worker.claims.table ≡ claims.table
  pub after : worker.seat.view.base ≡ base

-- the same, and no block is marked
pub record IsReady (board : GameTable) (claims : ClaimTable) (base : ℕ)
    (worker : SeatsAndMarks) : Type 0 where
  pub works : IsAtWork board claims base worker
  pub unmarked : worker.marks ≡ unmarked (blocks board.game.checkers)

-- the view has noted that a block was claimed for this round or a later one
abbrev pub IsNotedClaimed : ClaimView → ℕ → ℕ → Type 0
IsNotedClaimed view block round =
    (note : ClaimNote) × Contains view.notes note × (note.block ≡ block) × (round ≤ note.word)

-- how often the view has noted this block's word
abbrev pub visits : ℕ → ClaimView → ℕ
visits block view = count_by (λ (note : ClaimNote). note.block == block) view.notes

-- the word is in a block that is claimed for the round in which the work was done
pub record IsOnClaimed (game : Game) (claims : List Claim) (work : Work) : Type 0 where
  pub block : ℕ
  pub inside : IsInBlock game work.word block
  pub claimed : Contains claims (record { block = block; round = work.base + 1 })

-- the word is in a block that the worker hasn't marked, and the work was done in its round
pub record IsOnUnmarked (game : Game) (worker : SeatsAndMarks) (work : Work) : Type 0 where
  pub block : ℕ
  pub inside : IsInBlock game work.word block
  pub unmarked : is_marked worker.marks block ≡ false
  pub now : work.base ≡ worker.seat.view.base

-- A worker went through the first blocks and claimed each once for a round: each is then claimed for that round or a later one. Each block that
-- it got is marked, and each that is newly marked it got. It tightened only words in blocks that it got.
pub record WentThrough (game : Game) (round count : ℕ) (old new : SeatsAndMarks) : Type 0 where
  pub got : List Claim
  pub claims : new.claims.view.claims ≡ got ++ old.claims.view.claims
  pub noted : (block : ℕ) → block < count → IsNotedClaimed new.claims.view block round
  pub came : (block : ℕ) → block < count
      → visits block new.claims.view ≡ visits block old.claims.view + 1
  pub later : (block : ℕ) → count ≤ block
      → visits block new.claims.view ≡ visits block old.claims.view
  pub marked : All (λ (claim : Claim). (claim.round ≡ round)
      × (is_marked new.marks claim.block ≡ true)) got
  pub newly : (block : ℕ) → is_marked old.marks block ≡ false → is_marked new.marks block ≡ true
      → Contains got (record { block = block; round = round })
  pub work : AddsWork (IsOnClaimed game got) old.seat.view.work new.seat.view.work
  pub hands : new.seat.view.hands ≡ old.seat.view.hands

-- each of some workers went through so many blocks
abbrev pub HaveGoneThrough : Game → ℕ → ℕ → List SeatsAndMarks → List SeatsAndMarks → Type 0
HaveGoneThrough game round count old new = (k : ℕ) (none : SeatsAndMarks) → k < length old
    → WentThrough game round count (slice_index_or old k none) (slice_index_or new k none)

-- a worker has marked each block that one of the crew has
abbrev pub HasMarksOf : List SeatsAndMarks → SeatsAndMarks → Type 0
HasMarksOf crew worker = (k block : ℕ) (none : SeatsAndMarks) → k < length crew
    → is_marked (slice_index_or crew k none).marks block ≡ true
    → is_marked worker.marks block ≡ true
