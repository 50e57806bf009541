-- Each event keeps the rule of claims.
use Rattle.std.proofs.Common.{◌≡◌, ◌≢◌, ℕ, zero, suc, ◌+◌, ◌<◌, ◌≤◌, ◌⊎◌, Bool, true, false, eqb, max, List, [], ◌∷◌, ◌++◌, length, get_or, set, All, refl, sym, subst, ap, ◌∙◌, arith, inl, inr}
use Rattle.std.proofs.lemmas.Bool.{cases_lt, and_parts, eqb-true}
use Rattle.std.proofs.lemmas.List.{get_or-set_same, get_or-set_other, length-set, set-get_or}
use Rattle.std.proofs.lemmas.List.Elements.{All-weaker, All-append}
use Rattle.std.proofs.lemmas.List.Sums.{sum_by_push}
use Rattle.atomic_table.proofs.Lists.{at_set, at_snoc, set_else}
use lib.ListN.{get_elem?}
use mathlib.Core.Option.{some}
use Rattle.block_claims.specs.declared.views.ClaimNote.{ClaimNote}
use Rattle.block_claims.specs.declared.views.ClaimView.{ClaimView}
use Rattle.block_claims.specs.Views.{ClaimCore, often, times, fresh, AreKept}
use Rattle.block_claims.specs.Claiming.{after_claim, with_taken}
use Rattle.block_claims.specs.Events.{raised}
use Rattle.block_claims.proofs.Counting.{self, one, is, sum-replaced, often-claimed, often-missed, often-joined, often-fresh}

-- each noted word is at most the block's word
abbrev pub AreNoted : List ℕ → List ClaimNote → Type 0
AreNoted words notes = All (λ (note : ClaimNote). note.word ≤ get_or words note.block 0) notes

module _ (words : List ℕ) (block round : ℕ) (inside : block < length words) where
  -- no word falls
  pub rises : (b : ℕ) → get_or words b 0 ≤ get_or (raised words block round) b 0
  rises b = elim (cases_lt b block) [
    | inl below ↦ rw (get_or-set_other words block b (max (get_or words block 0) round) 0 (λ e. absurd (omega (arith, e)))) (omega arith)
    | inr from ↦ elim (cases_lt block b) [
      | inl above ↦ rw (get_or-set_other words block b (max (get_or words block 0) round) 0 (λ e. absurd (omega (arith, e)))) (omega arith)
      | inr to ↦ (
          let same : b ≡ block = omega arith in
          rw (same, get_or-set_same words block (max (get_or words block 0) round) 0 inside) (omega arith))
    ]
  ]

  pub word-here : get_or (raised words block round) block 0 ≡ max (get_or words block 0) round
  word-here = get_or-set_same words block (max (get_or words block 0) round) 0 inside

  pub word-else : (b : ℕ) → b ≢ block → get_or (raised words block round) b 0 ≡ get_or words b 0
  word-else b other = get_or-set_other words block b (max (get_or words block 0) round) 0 other

  pub noted-still : (notes : List ClaimNote) → AreNoted words notes → AreNoted (raised words block round) notes
  noted-still notes = All-weaker (λ (note : ClaimNote). note.word ≤ get_or words note.block 0) (λ (note : ClaimNote). note.word ≤ get_or (raised words block round) note.block 0) (λ note h. omega (arith, h, rises note.block)) notes

  pub noted-more : (notes : List ClaimNote) → AreNoted words notes → AreNoted (raised words block round) (record { block = block; word = max (get_or words block 0) round } ∷ notes)
  noted-more notes noted zero d h = omega (arith, word-here)
  noted-more notes noted (suc i) d h = noted-still notes noted i d (omega arith)

-- a test of two numbers
pub same_or : (a b : ℕ) → (a ≡ b) ⊎ (a ≢ b)
same_or a b = elim (cases_lt a b) [
  | inl below ↦ inr (λ e. absurd (omega (arith, e)))
  | inr from ↦ elim (cases_lt b a) [
    | inl above ↦ inr (λ e. absurd (omega (arith, e)))
    | inr to ↦ inl (omega arith)
  ]
]

module _ (blocks : ℕ) (s : ClaimCore) (seat : ℕ) (view : ClaimView) (kept : AreKept blocks s) (at : get_elem? s.views seat ≡ some view) where
  module _ (block round : ℕ) (block_in : block < blocks) (from : 1 ≤ round) where
    inside : block < length s.words
    inside = omega (arith, kept.many, block_in)

    noted-after : (j : ℕ) (w : ClaimView) → get_elem? (set s.views seat (after_claim block round (get_or s.words block 0) view)) j ≡ some w → AreNoted (raised s.words block round) w.notes
    noted-after j w e = elim (at_set s.views seat j (after_claim block round (get_or s.words block 0) view) w e) [
      | inl mine ↦ subst (λ (v : ClaimView). AreNoted (raised s.words block round) v.notes) mine.1 (noted-more s.words block round inside view.notes (kept.noted seat view at))
      | inr other ↦ noted-still s.words block round inside w.notes (kept.noted j w other.1)
    ]

    -- the word found was at the round or a later one
    missed : round ≤ get_or s.words block 0 → AreKept blocks (record { words = raised s.words block round; homes = s.homes; views = set s.views seat (after_claim block round (get_or s.words block 0) view) })
    missed above =
        let new = after_claim block round (get_or s.words block 0) view in
        let same : (b r : ℕ) → times b r (set s.views seat new) ≡ times b r s.views = λ b r. omega (arith, sum-replaced (often b r) s.views seat view new at, often-missed block round (get_or s.words block 0) b r view above) in
        let top : max (get_or s.words block 0) round ≡ get_or s.words block 0 = omega arith in
        let words : raised s.words block round ≡ s.words = ap (set s.words block) top ∙ set-get_or s.words block 0 in
        record {
          many = rw words kept.many;
          once = λ b r. rw (same b r) (kept.once b r);
          marked = λ b r some_claim. rw words (kept.marked b r (omega (arith, some_claim, same b r)));
          claimed = λ b low. rw (same b (get_or (raised s.words block round) b 0)) (rw words (kept.claimed b (rw words at low)));
          noted = noted-after;
        }

    -- the word found was below the round
    got : get_or s.words block 0 < round → AreKept blocks (record { words = raised s.words block round; homes = s.homes; views = set s.views seat (after_claim block round (get_or s.words block 0) view) })
    got below = record {
      many = length-set s.words block (max (get_or s.words block 0) round) ∙ kept.many;
      once = once_of;
      marked = marked_of;
      claimed = claimed_of;
      noted = noted-after;
    } where
      more : (b r : ℕ) → times b r (set s.views seat (after_claim block round (get_or s.words block 0) view)) ≡ one (is block round b r) + times b r s.views
      more b r = omega (arith, sum-replaced (often b r) s.views seat view (after_claim block round (get_or s.words block 0) view) at, often-claimed block round (get_or s.words block 0) b r view below)

      none_before : times block round s.views ≡ 0
      none_before = elim (cases_lt 0 (times block round s.views)) [
        | inl some_claim ↦ absurd (omega (arith, (kept.marked block round some_claim).1, below))
        | inr none ↦ omega arith
      ]

      by_claim : (b r : ℕ) → ((b ≡ block) × (r ≡ round) × (times b r (set s.views seat (after_claim block round (get_or s.words block 0) view)) ≡ 1)) ⊎ (times b r (set s.views seat (after_claim block round (get_or s.words block 0) view)) ≡ times b r s.views)
      by_claim b r = by_test (is block round b r) refl where
        by_test : (t : Bool) → is block round b r ≡ t → ((b ≡ block) × (r ≡ round) × (times b r (set s.views seat (after_claim block round (get_or s.words block 0) view)) ≡ 1)) ⊎ (times b r (set s.views seat (after_claim block round (get_or s.words block 0) view)) ≡ times b r s.views)
        by_test true e =
            let parts = and_parts (eqb block b) (eqb round r) e in
            let b_is : block ≡ b = eqb-true block b parts.0 in
            let r_is : round ≡ r = eqb-true round r parts.1 in
            inl (sym b_is, sym r_is, omega (arith, more b r, ap one e, none_before, ap (λ x. times x round s.views) b_is, ap (λ x. times b x s.views) r_is))
        by_test false e = inr (omega (arith, more b r, ap one e))

      once_of : (b r : ℕ) → times b r (set s.views seat (after_claim block round (get_or s.words block 0) view)) ≤ 1
      once_of b r = elim (by_claim b r) [ inl mine ↦ omega (arith, mine.2) | inr same ↦ omega (arith, same, kept.once b r) ]

      marked_of : (b r : ℕ) → 0 < times b r (set s.views seat (after_claim block round (get_or s.words block 0) view)) → (1 ≤ r) × (r ≤ get_or (raised s.words block round) b 0)
      marked_of b r some_claim = elim (by_claim b r) [
        | inl mine ↦ (omega (arith, mine.1), rw mine.0 (omega (arith, mine.1, word-here s.words block round inside)))
        | inr same ↦ (
            let old = kept.marked b r (omega (arith, same, some_claim)) in
            (old.0, omega (arith, old.1, rises s.words block round inside b)))
      ]

      claimed_of : (b : ℕ) → 1 ≤ get_or (raised s.words block round) b 0 → 0 < times b (get_or (raised s.words block round) b 0) (set s.views seat (after_claim block round (get_or s.words block 0) view))
      claimed_of b low = elim (same_or b block) [
        | inl mine ↦ (
            let word : get_or (raised s.words block round) b 0 ≡ round = ap (λ x. get_or (raised s.words block round) x 0) mine ∙ (word-here s.words block round inside ∙ omega arith) in
            rw word (rw mine (omega (arith, more block round, ap one (self block round)))))
        | inr other ↦ (
            let word = word-else s.words block round inside b other in
            rw word (omega (arith, more b (get_or s.words b 0), kept.claimed b (rw word at low))))
      ]

    pub kept-claims : AreKept blocks (record { words = raised s.words block round; homes = s.homes; views = set s.views seat (after_claim block round (get_or s.words block 0) view) })
    kept-claims = elim (cases_lt (get_or s.words block 0) round) [ inl below ↦ got below | inr above ↦ missed above ]

  -- a fresh seat is made
  pub kept-splits : AreKept blocks (record { words = s.words; homes = s.homes; views = s.views ++ fresh ∷ [] })
  kept-splits =
      let same : (b r : ℕ) → times b r (s.views ++ fresh ∷ []) ≡ times b r s.views = λ b r. omega (arith, sum_by_push (often b r) s.views fresh, often-fresh b r) in
      record {
        many = kept.many;
        once = λ b r. rw (same b r) (kept.once b r);
        marked = λ b r some_claim. kept.marked b r (omega (arith, same b r, some_claim));
        claimed = λ b low. rw (same b (get_or s.words b 0)) (kept.claimed b low);
        noted = λ j w e. elim (at_snoc s.views fresh w j e) [
          | inl old ↦ kept.noted j w old
          | inr new ↦ subst (λ (v : ClaimView). AreNoted s.words v.notes) new (λ i d h. absurd (omega (arith, h)))
        ];
      }

  -- a seat takes in another, which is spent
  pub kept-joins : (other : ℕ) (taken : ClaimView) → get_elem? s.views other ≡ some taken → other ≢ seat → AreKept blocks (record { words = s.words; homes = s.homes; views = set (set s.views seat (with_taken view taken)) other fresh })
  kept-joins other taken there apart =
      let both = with_taken view taken in
      let first : (b r : ℕ) → times b r (set s.views seat both) + often b r view ≡ times b r s.views + often b r both = λ b r. sum-replaced (often b r) s.views seat view both at in
      let still : get_elem? (set s.views seat both) other ≡ some taken = set_else s.views seat other both apart ∙ there in
      let second : (b r : ℕ) → times b r (set (set s.views seat both) other fresh) + often b r taken ≡ times b r (set s.views seat both) + often b r fresh = λ b r. sum-replaced (often b r) (set s.views seat both) other taken fresh still in
      let same : (b r : ℕ) → times b r (set (set s.views seat both) other fresh) ≡ times b r s.views = λ b r. omega (arith, first b r, second b r, often-joined b r view taken, often-fresh b r) in
      record {
        many = kept.many;
        once = λ b r. rw (same b r) (kept.once b r);
        marked = λ b r some_claim. kept.marked b r (omega (arith, same b r, some_claim));
        claimed = λ b low. rw (same b (get_or s.words b 0)) (kept.claimed b low);
        noted = λ j w e. elim (at_set (set s.views seat both) other j fresh w e) [
          | inl spent ↦ subst (λ (v : ClaimView). AreNoted s.words v.notes) spent.1 (λ i d h. absurd (omega (arith, h)))
          | inr rest ↦ elim (at_set s.views seat j both w rest.1) [
            | inl mine ↦ subst (λ (v : ClaimView). AreNoted s.words v.notes) mine.1 (All-append (λ (note : ClaimNote). note.word ≤ get_or s.words note.block 0) view.notes taken.notes (kept.noted seat view at) (kept.noted other taken there))
            | inr old ↦ kept.noted j w old.1
          ]
        ];
      }
