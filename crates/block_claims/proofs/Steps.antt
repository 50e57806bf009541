-- What the steps of a seat ask of the rule.
use Rattle.std.proofs.Common.{◌≡◌, ℕ, ◌<◌, ◌≤◌, max, List, get_or, set, refl, sym, subst, ap, ◌∙◌, arith}
use Rattle.std.proofs.lemmas.List.{set-get_or}
use lib.ListN.{get_elem?}
use Rattle.atomic_table.specs.Table.{Allows, Splits, Joins, step, keeps}
use Rattle.atomic_table.proofs.Lists.{set_else, set_again, set_here}
use mathlib.Core.Option.{none, some}
use Rattle.block_claims.specs.declared.views.ClaimView.{ClaimView}
use Rattle.block_claims.specs.Views.{ClaimCore, AreKept, HasEachOnce, WasFound, often, fresh}
use Rattle.block_claims.specs.Claiming.{after_claim, with_taken, StepClaims, StepLooks}
use Rattle.block_claims.proofs.Counting.{here, sum-part}
use Rattle.block_claims.proofs.Keeps.{kept-claims, kept-splits, kept-joins}

-- a seat of claims that are kept has each claim at most once
once-kept : (blocks : ℕ) (s : ClaimCore) (id : ℕ) (view : ClaimView) → AreKept blocks s → get_elem? s.views id ≡ some view → HasEachOnce view
once-kept blocks s id view kept at b r = omega (arith, kept.once b r, sum-part (often b r) s.views id view at)

found-kept : (blocks : ℕ) (s : ClaimCore) (id : ℕ) (view : ClaimView) (block : ℕ) → AreKept blocks s → get_elem? s.views id ≡ some view → WasFound view block (get_or s.words block 0)
found-kept blocks s id view block kept at = record {
  core = s;
  kept = subst (λ (n : ℕ). AreKept n s) (sym kept.many) kept;
  seat = id;
  stood = at;
  word_is = refl;
}

pub allows-claim : (blocks slots id : ℕ) (view : ClaimView) (held : List (ℕ × Unit {0})) (block round : ℕ) → block < blocks → 1 ≤ round
    → Allows (AreKept blocks) slots id (view, held) block (λ n. max n round) (StepClaims (step slots block round 0 none) (view, held))
allows-claim blocks slots id view held block round inside low s kept bare at small =
    let new = after_claim block round (get_or s.words block 0) view in
    let later = kept-claims blocks s id view kept at block round inside low in (
      new,
      keeps,
      tt,
      later,
      record {
        seat = refl;
        once = once-kept blocks (record { words = set s.words block (max (get_or s.words block 0) round); homes = s.homes; views = set s.views id new }) id new later (set_here s.views id new (here s.views id view at));
        moment = found-kept blocks s id view block kept at;
      },
    )

-- a look at a word changes nothing
pub allows-look : (blocks slots id : ℕ) (view : ClaimView) (held : List (ℕ × Unit {0})) (block : ℕ)
    → Allows (AreKept blocks) slots id (view, held) block (λ n. n) (StepLooks (step slots block 0 0 none) (view, held))
allows-look blocks slots id view held block s kept bare at small =
    let words = set-get_or s.words block 0 in
    let views = set_again s.views id view at in (
      view,
      keeps,
      tt,
      subst (λ (c : ClaimCore). AreKept blocks c) (sym (ap (λ (ws : List ℕ). record { words = ws; homes = s.homes; views = set s.views id view }) words ∙ ap (λ (vs : List ClaimView). record { words = s.words; homes = s.homes; views = vs }) views)) kept,
      record {
        seat = refl;
        once = once-kept blocks s id view kept at;
      },
    )

pub allows-split : (blocks id : ℕ) (view : ClaimView) → Splits (AreKept blocks) id view view fresh
allows-split blocks id view s kept at = rw (set_again s.views id view at) (kept-splits blocks s id view kept at)

pub allows-join : (blocks id other : ℕ) (view taken : ClaimView) → Joins (AreKept blocks) id view other taken (with_taken view taken) fresh
allows-join blocks id other view taken s kept at apart there = kept-joins blocks s id view kept at other taken (sym (set_else s.views id other (with_taken view taken) apart) ∙ there) apart
