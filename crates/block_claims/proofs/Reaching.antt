-- The rule of claims holds after all events.
use Rattle.std.proofs.Common.{◌≡◌, inl, inr, ℕ, zero, suc, ◌≤◌, List, [], ◌∷◌, length, get_or, replicate, Contains, refl, sym, arith, All, subst}
use lib.ListN.{get_elem?}
use mathlib.Core.Option.{some, some-injective, some-ne-none}
use Rattle.block_claims.specs.declared.views.Claim.{Claim}
use Rattle.block_claims.specs.declared.views.ClaimView.{ClaimView}
use Rattle.block_claims.specs.Views.{ClaimCore, often, fresh, AreKept}
use Rattle.block_claims.specs.Events.{claim_core, ClaimEvent, claims, splits, joins, LeadTo, start, more}
use Rattle.block_claims.proofs.Keeps.{same_or, kept-claims, kept-splits, kept-joins}
use Rattle.block_claims.proofs.Counting.{sum-parts, often-some}

repeated : (n x b : ℕ) → x ≡ 0 → get_or (replicate n x) b 0 ≡ 0
repeated zero x b e = refl
repeated (suc n) x zero e = e
repeated (suc n) x (suc b) e = repeated n x b e

long : (n x : ℕ) → length (replicate n x) ≡ n
long zero x = refl
long (suc n) x = omega (arith, long n x)

-- nobody has claimed anything
pub kept-opening : (blocks : ℕ) → AreKept blocks (claim_core (replicate blocks 0) (fresh ∷ []))
kept-opening blocks = record {
  many = long blocks 0;
  once = λ b r. omega arith;
  marked = λ b r some_claim. absurd (omega (arith, some_claim));
  claimed = λ b low. absurd (omega (arith, low, repeated blocks 0 b refl));
  noted = λ j w e. only j w e;
} where
  only : (j : ℕ) (w : ClaimView) → get_elem? (fresh ∷ []) j ≡ some w → All (λ note. note.word ≤ get_or (replicate blocks 0) note.block 0) w.notes
  only zero w e = subst (λ (v : ClaimView). All (λ note. note.word ≤ get_or (replicate blocks 0) note.block 0) v.notes) (some-injective fresh w e) (λ i d h. absurd (omega (arith, h)))
  only (suc j) w e = absurd (some-ne-none w (sym e))

pub kept-event : (blocks : ℕ) (words later : List ℕ) (views now : List ClaimView) → AreKept blocks (claim_core words views) → ClaimEvent words views later now → AreKept blocks (claim_core later now)
kept-event blocks words later views now kept (claims seat view block round at inside low) = kept-claims blocks (claim_core words views) seat view kept at block round (omega (arith, inside, kept.many)) low
kept-event blocks words later views now kept (splits seat view at) = kept-splits blocks (claim_core words views) seat view kept at
kept-event blocks words later views now kept (joins seat other view taken at there apart) = kept-joins blocks (claim_core words views) seat view kept at other taken there apart

pub kept-reaches : (blocks : ℕ) (words : List ℕ) (views : List ClaimView) → LeadTo blocks words views → AreKept blocks (claim_core words views)
kept-reaches blocks words views start = kept-opening blocks
kept-reaches blocks words views (more before later were now reached event) = kept-event blocks before words were views (kept-reaches blocks before were reached) event

pub one_seat : (blocks : ℕ) (s : ClaimCore) → AreKept blocks s → (one other : ℕ) (view another : ClaimView) (claim : Claim) → get_elem? s.views one ≡ some view → get_elem? s.views other ≡ some another → Contains view.claims claim → Contains another.claims claim → one ≡ other
one_seat blocks s kept one other view another claim at there first second = elim (same_or one other) [
  | inl same ↦ same
  | inr apart ↦ absurd (omega (arith, kept.once claim.block claim.round, sum-parts (often claim.block claim.round) s.views one other view another at there apart, often-some view claim first, often-some another claim second))
]
