-- The table of live ranks, one square more.
use Rattle.std.proofs.Common.{◌≡◌, zero, suc, Bool, true, false, refl, ℕ, ◌<◌, ◌≤◌, ◌+◌, List, length, get_or, set, inl, inr, arith, subst, sym, ◌∙◌, ap, sum}
use Rattle.std.proofs.lemmas.Bool.{cases_lt, false≢true}
use Rattle.std.proofs.lemmas.List.{get_or-set_same, get_or-set_other}
use Rattle.position_rank.specs.Placement.{Placement, IsPosition, IsLive}
use Rattle.position_rank.specs.Ranks.{square_rank_of}
use Rattle.position_rank.specs.LiveRanks.{is_live, live_below, live_rank_of}
use Rattle.interval_words.specs.LiveIndex.{AreCounted}
use Rattle.position_rank.proofs.LiveLaws.{live_below-none, live-counts, dead-counts, live-from, from-live}

pub counted-more : (checkers : ℕ) (below : List ℕ) (square live : ℕ) → square < length below → live ≡ live_below checkers square → AreCounted checkers below square → AreCounted checkers (set below square live) (square + 1)
counted-more checkers below square live inside so_far each = λ s under. elim (cases_lt s square) [
  | inl before ↦ get_or-set_other below square s live 0 (λ e. absurd (omega (arith, e))) ∙ each s before
  | inr from ↦ (
      let same : s ≡ square = omega arith in
      subst (λ (n : ℕ). get_or (set below square live) n 0 ≡ live_below checkers n) (sym same) (get_or-set_same below square live 0 inside ∙ so_far))
]

module _ (checkers square rank : ℕ) (p : Placement) (is : IsPosition p) (many : sum p.mover ≡ checkers) (at : square_rank_of p ≡ square) (from : live_below checkers square ≤ rank) (to : rank < live_below checkers (square + 1)) where
  -- a square whose next square has more than so many live positions below it is live
  pub last-live : IsLive p
  last-live = by_test (is_live p) refl where
    by_test : (b : Bool) → is_live p ≡ b → IsLive p
    by_test true right = live-from p right
    by_test false never = absurd (omega (arith, dead-counts checkers square p is many at (λ live. false≢true (sym never ∙ from-live p live))))

  -- and has so many below itself
  pub last-rank : live_rank_of p ≡ rank
  last-rank =
      let rank_is : live_rank_of p ≡ live_below checkers square = ap (λ n. live_below n (square_rank_of p)) many ∙ ap (live_below checkers) at in
      omega (arith, rank_is, live-counts checkers square p is many at last-live)

-- where some positions are below a square, there are squares below it
pub above-none : (checkers rank square : ℕ) → rank < live_below checkers square → 0 < square
above-none checkers rank zero below = absurd (omega (arith, below, live_below-none checkers))
above-none checkers rank (suc square) below = omega arith
