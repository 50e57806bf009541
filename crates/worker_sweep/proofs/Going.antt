-- A worker that goes through blocks and claims each.
use Rattle.std.proofs.Common.{◌≡◌, ℕ, zero, suc, ◌+◌, ◌<◌, ◌≤◌, ◌≢◌, Bool, true, false, cond, eqb, List, [], ◌∷◌, All, Contains, length, get_or, set, max, inl, inr, refl, sym, subst, ap, ◌∙◌, arith}
use Rattle.std.proofs.Common.{eq-eqb, ne_eqb}
use Rattle.std.proofs.lemmas.Bool.{cases_lt, lt-ltb, le-ltb}
use Rattle.std.proofs.lemmas.List.{get_or-set_same, get_or-set_other}
use Rattle.std.proofs.lemmas.List.Elements.{All-nil}
use Rattle.std.proofs.lemmas.List.Sums.{sum_by-cons}
use Rattle.block_claims.specs.declared.views.Claim.{Claim}
use Rattle.block_claims.specs.declared.views.ClaimNote.{ClaimNote}
use Rattle.block_claims.specs.declared.views.ClaimView.{ClaimView}
use Rattle.block_claims.specs.Claiming.{Claimer, after_claim}
use Rattle.turn_rule.specs.declared.game.Game.{Game}
use Rattle.interval_words.specs.declared.view.Work.{Work}
use Rattle.interval_words.specs.Seats.{AddsWork}
use Rattle.interval_words.proofs.SeatNotes.{adds-none, adds-trans, adds-weaker}
use Rattle.worker_sweep.specs.Blocks.{IsWorkIn, WorksIn}
use Rattle.worker_sweep.specs.Workers.{SeatsAndMarks, WentThrough, IsNotedClaimed, IsOnClaimed, is_marked, visits}

-- more notes note no less
noted-more : (notes : List ClaimNote) (claims later : List Claim) (note : ClaimNote) (block round : ℕ) → IsNotedClaimed (record { claims = claims; notes = notes }) block round → IsNotedClaimed (record { claims = later; notes = note ∷ notes }) block round
noted-more notes claims later note block round (old, (k, inside, here), of_block, enough) = (old, (suc k, omega (arith, inside), here), of_block, enough)

-- the word after a claim is noted
noted-here : (view : ClaimView) (block round found : ℕ) → IsNotedClaimed (after_claim block round found view) block round
noted-here view block round found = (record { block = block; word = max found round }, (0, omega arith, refl), refl, omega arith)

noted-after : (view : ClaimView) (b round block found : ℕ) → IsNotedClaimed view b round → IsNotedClaimed (after_claim block round found view) b round
noted-after view b round block found noted = noted-more view.notes view.claims (after_claim block round found view).claims (record { block = block; word = max found round }) b round noted

-- a note more is a visit more of its block
visits-cons : (claims : List Claim) (note : ClaimNote) (notes : List ClaimNote) (b : ℕ) → visits b (record { claims = claims; notes = note ∷ notes }) ≡ cond (eqb note.block b) 1 0 + visits b (record { claims = claims; notes = notes })
visits-cons claims note notes b = sum_by-cons (λ (n : ClaimNote). cond (eqb n.block b) 1 0) note notes

visits-here : (view : ClaimView) (block round found : ℕ) → visits block (after_claim block round found view) ≡ visits block view + 1
visits-here view block round found =
    let more = visits-cons view.claims (record { block = block; word = max found round }) view.notes block in
    omega (arith, more, ap {B = ℕ} (λ (b : Bool). cond b 1 0) (eq-eqb block block refl))

visits-else : (view : ClaimView) (b block round found : ℕ) → block ≢ b → visits b (after_claim block round found view) ≡ visits b view
visits-else view b block round found other =
    let more = visits-cons view.claims (record { block = block; word = max found round }) view.notes b in
    omega (arith, more, ap {B = ℕ} (λ (t : Bool). cond t 1 0) (ne_eqb block b other))

-- work in blocks that were got is in blocks that were got with one more
on-got : (game : Game) (claim : Claim) (got : List Claim) (work : Work) → IsOnClaimed game got work → IsOnClaimed game (claim ∷ got) work
on-got game claim got work on = record {
  block = on.block;
  inside = on.inside;
  claimed = (suc on.claimed.0, omega (arith, on.claimed.1), on.claimed.2);
}

-- nothing is gone through yet
pub went-none : (game : Game) (round : ℕ) (worker : SeatsAndMarks) → WentThrough game round 0 worker worker
went-none game round worker = record {
  got = [];
  claims = refl;
  noted = λ block below. absurd (omega (arith, below));
  came = λ block below. absurd (omega (arith, below));
  later = λ block from. refl;
  marked = All-nil (λ (claim : Claim). (claim.round ≡ round) × (is_marked worker.marks claim.block ≡ true));
  newly = λ block was now. absurd (let e : true ≡ false = sym now ∙ was in grind (arith, e));
  work = adds-none (IsOnClaimed game []) worker.seat.view.work worker.seat.view.work refl;
  hands = refl;
}

module _ (game : Game) (round block found : ℕ) (first old : SeatsAndMarks) (went : WentThrough game round block first old) where
  -- a block more is noted
  noted-upto : (claims : Claimer) → claims.view ≡ after_claim block round found old.claims.view → (b : ℕ) → b < block + 1 → IsNotedClaimed claims.view b round
  noted-upto claims is b below = subst (λ (view : ClaimView). IsNotedClaimed view b round) (sym is) (elim (cases_lt b block) [
    | inl earlier ↦ noted-after old.claims.view b round block found (went.noted b earlier)
    | inr from ↦ (
        let here : block ≡ b = omega (arith, below, from) in
        subst (λ (n : ℕ). IsNotedClaimed (after_claim block round found old.claims.view) n round) here (noted-here old.claims.view block round found))
  ])

  -- a block more was come to
  came-upto : (claims : Claimer) → claims.view ≡ after_claim block round found old.claims.view → (b : ℕ) → b < block + 1 → visits b claims.view ≡ visits b first.claims.view + 1
  came-upto claims is b below = subst (λ (view : ClaimView). visits b view ≡ visits b first.claims.view + 1) (sym is) (elim (cases_lt b block) [
    | inl earlier ↦ visits-else old.claims.view b block round found (λ e. absurd (omega (arith, earlier, e))) ∙ went.came b earlier
    | inr from ↦ (
        let here : block ≡ b = omega (arith, below, from) in
        omega (arith, ap (λ (n : ℕ). visits n (after_claim block round found old.claims.view)) here, ap (λ (n : ℕ). visits n old.claims.view) here, visits-here old.claims.view block round found, went.later b from))
  ])

  came-later : (claims : Claimer) → claims.view ≡ after_claim block round found old.claims.view → (b : ℕ) → block + 1 ≤ b → visits b claims.view ≡ visits b first.claims.view
  came-later claims is b from = subst (λ (view : ClaimView). visits b view ≡ visits b first.claims.view) (sym is)
      (visits-else old.claims.view b block round found (λ e. absurd (omega (arith, from, e))) ∙ went.later b (omega (arith, from)))

  -- the block was claimed before
  pub went-on : (new : SeatsAndMarks) → round ≤ found → new.claims.view ≡ after_claim block round found old.claims.view → new.marks ≡ old.marks → new.seat.view.work ≡ old.seat.view.work → new.seat.view.hands ≡ old.seat.view.hands → WentThrough game round (block + 1) first new
  went-on new missed is marks work hands = record {
    got = went.got;
    claims = ap (λ (view : ClaimView). view.claims) is ∙ (rw (le-ltb found round missed) went.claims);
    noted = noted-upto new.claims is;
    came = came-upto new.claims is;
    later = came-later new.claims is;
    marked = rw marks went.marked;
    newly = rw marks went.newly;
    work = subst (AddsWork (IsOnClaimed game went.got) first.seat.view.work) (sym work) went.work;
    hands = hands ∙ went.hands;
  }

  -- the block was got and is marked
  pub went-sweeping : (new : SeatsAndMarks) → found < round → new.claims.view ≡ after_claim block round found old.claims.view → block < length old.marks → new.marks ≡ set old.marks block true → round ≡ old.seat.view.base + 1 → WorksIn game block old.seat new.seat → new.seat.view.hands ≡ old.seat.view.hands → WentThrough game round (block + 1) first new
  went-sweeping new got is inside marks rounds works hands = record {
    got = record { block = block; round = round } ∷ went.got;
    claims = ap (λ (view : ClaimView). view.claims) is ∙ (rw (lt-ltb found round got) (ap (λ (cs : List Claim). record { block = block; round = round } ∷ cs) went.claims));
    noted = noted-upto new.claims is;
    came = came-upto new.claims is;
    later = came-later new.claims is;
    marked = marked;
    newly = newly;
    work = worked;
    hands = hands ∙ went.hands;
  } where
    here : is_marked new.marks block ≡ true
    here = rw marks (get_or-set_same old.marks block true false inside)

    still : (b : ℕ) → is_marked old.marks b ≡ true → is_marked new.marks b ≡ true
    still b was = elim (cases_lt b block) [
      | inl below ↦ rw marks (get_or-set_other old.marks block b true false (λ e. absurd (omega (arith, e, below))) ∙ was)
      | inr from ↦ elim (cases_lt block b) [
        | inl above ↦ rw marks (get_or-set_other old.marks block b true false (λ e. absurd (omega (arith, e, above))) ∙ was)
        | inr to ↦ (let same : block ≡ b = omega (arith, from, to) in subst (λ (n : ℕ). is_marked new.marks n ≡ true) same here)
      ]
    ]

    on-here : (work : Work) → IsWorkIn game block old.seat.view.base work → IsOnClaimed game (record { block = block; round = round } ∷ went.got) work
    on-here work is_in =
        let same : round ≡ work.base + 1 = omega (arith, rounds, is_in.1) in
        record { block = block; inside = is_in.0; claimed = (0, omega arith, ap (λ (n : ℕ). record { block = block; round = n }) same) }

    worked : AddsWork (IsOnClaimed game (record { block = block; round = round } ∷ went.got)) first.seat.view.work new.seat.view.work
    worked =
        let all = record { block = block; round = round } ∷ went.got in
        adds-trans (IsOnClaimed game all) first.seat.view.work old.seat.view.work new.seat.view.work
        (adds-weaker (IsOnClaimed game went.got) (IsOnClaimed game all) first.seat.view.work old.seat.view.work (on-got game (record { block = block; round = round }) went.got) went.work)
        (adds-weaker (IsWorkIn game block old.seat.view.base) (IsOnClaimed game all) old.seat.view.work new.seat.view.work on-here works)

    marked : All (λ (claim : Claim). (claim.round ≡ round) × (is_marked new.marks claim.block ≡ true)) (record { block = block; round = round } ∷ went.got)
    marked zero d inside_list = (refl, here)
    marked (suc k) d inside_list =
        let before = went.marked k d (omega (arith, inside_list)) in
        (before.0, still (get_or went.got k d).block before.1)

    newly : (b : ℕ) → is_marked first.marks b ≡ false → is_marked new.marks b ≡ true → Contains (record { block = block; round = round } ∷ went.got) (record { block = b; round = round })
    newly b was now = elim (cases_lt b block) [
      | inl below ↦ older b was now (λ e. absurd (omega (arith, e, below)))
      | inr from ↦ elim (cases_lt block b) [
        | inl above ↦ older b was now (λ e. absurd (omega (arith, e, above)))
        | inr to ↦ (
            let same : block ≡ b = omega (arith, from, to) in
            (0, omega arith, ap (λ (n : ℕ). record { block = n; round = round }) same))
      ]
    ] where
      older : (b : ℕ) → is_marked first.marks b ≡ false → is_marked new.marks b ≡ true → (b ≡ block → ⊥) → Contains (record { block = block; round = round } ∷ went.got) (record { block = b; round = round })
      older b was now other =
          let there = went.newly b was (sym (get_or-set_other old.marks block b true false other) ∙ rw marks at now) in
          (suc there.0, omega (arith, there.1), there.2)
