-- Who has claimed and tightened what, when so many rounds are done.
use Rattle.std.specs.Prelude.{◌≡◌, ℕ, ◌+◌, ◌<◌, ◌≤◌, List, [], ◌∷◌, length, map, All, Contains}
use Rattle.block_claims.specs.declared.views.Claim.{Claim}
use Rattle.block_claims.specs.declared.views.ClaimView.{ClaimView}
use Rattle.block_claims.specs.Views.{fresh, HasEachOnce}
use Rattle.block_claims.specs.Claiming.{Claimer, with_taken}
use Rattle.turn_rule.specs.declared.game.Game.{Game}
use Rattle.interval_words.specs.Core.{all_hands}
use Rattle.interval_words.specs.Seats.{GameSeat}
use Rattle.interval_words.specs.declared.view.Work.{Work}
use Rattle.worker_sweep.specs.Blocks.{blocks, IsInBlock}
use Rattle.worker_sweep.specs.Workers.{SeatsAndMarks, IsNotedClaimed, IsOnClaimed, visits}

-- a worker's share: what it has claimed and noted, its work, and its hands at the board
pub record Share : Type 0 where
  pub claims : ClaimView
  pub work : List Work
  pub hands : ℕ

abbrev pub share_of : SeatsAndMarks → Share
share_of worker = record {
  claims = worker.claims.view;
  work = worker.seat.view.work;
  hands = worker.seat.view.hands;
}

abbrev pub shares_of : List SeatsAndMarks → List Share
shares_of crew = map share_of crew

-- the work of each of a crew
abbrev pub works_of : List SeatsAndMarks → List (List Work)
works_of crew = map (λ (worker : SeatsAndMarks). worker.seat.view.work) crew

-- the hands of each
abbrev pub hands_of : List SeatsAndMarks → List ℕ
hands_of crew = map (λ (worker : SeatsAndMarks). worker.seat.view.hands) crew

-- a seat with so many hands
abbrev pub with_hands : GameSeat → ℕ → GameSeat
with_hands seat hands = record seat { view = record seat.view { hands = hands } }

-- the claims and the notes of all shares, in order
abbrev pub all_claims : List Share → ClaimView
all_claims [] = fresh
all_claims (share ∷ shares) = with_taken share.claims (all_claims shares)

-- A worker has one hand. It came to each block as often as there were rounds, and in each round the block was then claimed for it. Each of its own claims is for one
-- of the rounds. Each word that it tightened is in a block that it had claimed for that round.
pub record HasDone (game : Game) (rounds : ℕ) (share : Share) : Type 0 where
  pub hand : share.hands ≡ 1
  pub came : (block : ℕ) → block < blocks game.checkers → visits block share.claims ≡ rounds
  pub noted : (block round : ℕ) → block < blocks game.checkers → 1 ≤ round → round ≤ rounds
      → IsNotedClaimed share.claims block round
  pub claims : All (λ (claim : Claim). (1 ≤ claim.round) × (claim.round ≤ rounds))
      share.claims.claims
  pub work : All (IsOnClaimed game share.claims.claims) share.work

-- the word is in a block that no share has claimed for the round in which the work was done
pub record IsOnLeft (game : Game) (rounds : ℕ) (shares : List Share) (work : Work) : Type 0 where
  pub block : ℕ
  pub inside : IsInBlock game work.word block
  pub round : work.base < rounds
  pub left : All (λ (share : Share).
      ¬ Contains share.claims.claims (record { block = block; round = work.base + 1 })) shares

-- How the work of so many rounds was divided. Each of so many workers has a share; the claims of all are these, and none comes twice. Each worker
-- has done its share, and their owner tightened only words in blocks that no worker had claimed for that round. Nobody else tightened any: the
-- workers and the owner have all hands of the board.
pub record IsDivided (game : Game) (rounds workers : ℕ) (claims : Claimer)
    (crew : List SeatsAndMarks) (owner : GameSeat) : Type 0 where
  pub shares : List Share
  pub many : length shares ≡ workers
  pub claimed : claims.view ≡ all_claims shares
  pub once : HasEachOnce claims.view
  pub worked : works_of crew ≡ map (λ (share : Share). share.work) shares
  pub handed : hands_of crew ≡ map (λ (share : Share). share.hands) shares
  pub hands : owner.view.hands + workers ≡ all_hands
  pub done : All (HasDone game rounds) shares
  pub rest : All (IsOnLeft game rounds shares) owner.view.work
