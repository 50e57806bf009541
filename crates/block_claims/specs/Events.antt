-- All that may happen to claims, in any order.
use Rattle.std.specs.Prelude.{◌≡◌, ◌<◌, ◌≤◌, ℕ, List, [], ◌∷◌, ◌++◌, max, length, replicate, slice_index, slice_set}
use lib.ListN.{get_elem?}
use mathlib.Core.Option.{some}
use Rattle.block_claims.specs.declared.views.ClaimView.{ClaimView}
use Rattle.block_claims.specs.Views.{fresh, ClaimCore}
use Rattle.block_claims.specs.Claiming.{after_claim, with_taken}

abbrev pub claim_core : List ℕ → List ClaimView → ClaimCore
claim_core words views = record { words = words; homes = []; views = views }

-- the word of this block is the greater of itself and the round
abbrev pub raised : List ℕ → ℕ → ℕ → List ℕ
raised words block round = slice_set words block (max (slice_index words block) round)

-- one seat claims a block, a new seat is made, or one seat takes in another, which is spent
pub data ClaimEvent (words : List ℕ) (views : List ClaimView) : List ℕ → List ClaimView
    → Type 0 where
  claims : (seat : ℕ) (view : ClaimView) (block round : ℕ) → get_elem? views seat ≡ some view
      → block < length words → 1 ≤ round
      → ClaimEvent words views (raised words block round)
      (slice_set views seat (after_claim block round (slice_index words block) view))
  splits : (seat : ℕ) (view : ClaimView) → get_elem? views seat ≡ some view
      → ClaimEvent words views words (views ++ fresh ∷ [])
  joins : (seat other : ℕ) (view taken : ClaimView) → get_elem? views seat ≡ some view
      → get_elem? views other ≡ some taken → ¬ (other ≡ seat)
      → ClaimEvent words views words
      (slice_set (slice_set views seat (with_taken view taken)) other fresh)

-- the words and views that events lead to from so many blocks that nobody has claimed, with one seat
pub data LeadTo (blocks : ℕ) : List ℕ → List ClaimView → Type 0 where
  start : LeadTo blocks (replicate blocks 0) (fresh ∷ [])
  more : (words later : List ℕ) (views now : List ClaimView) → LeadTo blocks words views
      → ClaimEvent words views later now → LeadTo blocks later now
