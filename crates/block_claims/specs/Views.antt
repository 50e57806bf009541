-- Blocks of positions, and who has claimed them for which round.
use Rattle.std.specs.Prelude.{◌≡◌, ◌<◌, ◌≤◌, ℕ, ◌&&◌, ◌==◌, List, [], count_by, sum_by, length, slice_index, All}
use Rattle.atomic_table.specs.Table.{State}
use lib.ListN.{get_elem?}
use mathlib.Core.Option.{some}
use Rattle.block_claims.specs.declared.views.Claim.{Claim}
use Rattle.block_claims.specs.declared.views.ClaimNote.{ClaimNote}
use Rattle.block_claims.specs.declared.views.ClaimView.{ClaimView}

-- no claim and no note
abbrev pub fresh : ClaimView
fresh = record { claims = []; notes = [] }

-- how often a block's claim for a round stands in a view
abbrev pub often : ℕ → ℕ → ClaimView → ℕ
often block round view =
    count_by (λ (claim : Claim). claim.block == block && claim.round == round) view.claims

-- how often it stands in all views together
abbrev pub times : ℕ → ℕ → List ClaimView → ℕ
times block round views = sum_by (often block round) views

-- the view has each claim at most once
abbrev pub HasEachOnce : ClaimView → Type 0
HasEachOnce view = (block round : ℕ) → often block round view ≤ 1

-- the words of the blocks and the views of the seats
abbrev pub ClaimCore : Type 0
ClaimCore = State (Unit {0}) ClaimView

-- What holds at every moment of the claims. A block's word is the last round for which it was claimed, or 0.
pub record AreKept (blocks : ℕ) (s : ClaimCore) : Type 0 where
  -- each block has a word
  pub many : length s.words ≡ blocks
  -- each claim stands in at most one view, and there once
  pub once : (block round : ℕ) → times block round s.views ≤ 1
  -- where a claim stands, its round is at least 1, and the block's word is at least the round
  pub marked : (block round : ℕ) → 0 < times block round s.views → (1 ≤ round)
      × (round ≤ slice_index s.words block)
  -- the round of each block's word is claimed
  pub claimed : (block : ℕ) → 1 ≤ slice_index s.words block
      → 0 < times block (slice_index s.words block) s.views
  -- each noted word is at most the block's word
  pub noted : (seat : ℕ) (view : ClaimView) → get_elem? s.views seat ≡ some view
      → All (λ (note : ClaimNote). note.word ≤ slice_index s.words note.block) view.notes

-- At some moment all of this held, this view was a seat's, and the block had this word.
pub record WasFound (view : ClaimView) (block word : ℕ) : Type 0 where
  pub core : ClaimCore
  pub kept : AreKept (length core.words) core
  pub seat : ℕ
  pub stood : get_elem? core.views seat ≡ some view
  pub word_is : slice_index core.words block ≡ word

-- at that moment some seat had the block's claim for this round or a later one
pub record WasClaimed (core : ClaimCore) (block round : ℕ) : Type 0 where
  pub later : ℕ
  pub no_earlier : round ≤ later
  pub claimed : 0 < times block later core.views
