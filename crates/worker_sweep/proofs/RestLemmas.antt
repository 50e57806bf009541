-- The owner goes through the blocks that nobody has marked.
use Rattle.std.proofs.Common.{◌≡◌, ◌+◌, ◌<◌, ◌≤◌, ℕ, true, false, length, set, inl, inr, arith, ap, sym, subst, ◌∙◌}
use Rattle.std.proofs.lemmas.Bool.{cases_lt}
use Rattle.std.proofs.lemmas.List.{get_or-set_same, get_or-set_other, length-set}
use Rattle.interval_words.specs.declared.view.Work.{Work}
use Rattle.interval_words.specs.Seats.{GameTable, KeepsNotes, AddsWork}
use Rattle.interval_words.proofs.SeatNotes.{keeps-trans, sits-kept, adds-trans, adds-weaker}
use Rattle.worker_sweep.specs.Blocks.{IsWorkIn, WorksIn}
use Rattle.worker_sweep.specs.Workers.{SeatsAndMarks, WorksAt, IsOnUnmarked, is_marked}

-- how far it has come: the blocks before this one are marked, the others are as they were
pub record HasRested (board : GameTable) (first worker : SeatsAndMarks) (block : ℕ) : Type 0 where
  pub works : WorksAt board worker
  pub seat : KeepsNotes first.seat worker.seat
  pub marks : (b : ℕ) → b < block → is_marked worker.marks b ≡ true
  pub later : (b : ℕ) → block ≤ b → is_marked worker.marks b ≡ is_marked first.marks b
  pub work : AddsWork (IsOnUnmarked board.game first) first.seat.view.work worker.seat.view.work
  pub claims : worker.claims ≡ first.claims
  pub number : worker.number ≡ first.number

-- it has swept a block that wasn't marked
pub rest-swept : (board : GameTable) (first old new : SeatsAndMarks) (block : ℕ) → HasRested board first old block → is_marked old.marks block ≡ false → block < length old.marks → KeepsNotes old.seat new.seat → WorksIn board.game block old.seat new.seat
    → new.marks ≡ set old.marks block true → new.claims ≡ old.claims → new.number ≡ old.number → HasRested board first new (block + 1)
rest-swept board first old new block before free inside kept works marked claimed numbered = record {
  works = record {
    seat = sits-kept board old.seat new.seat kept before.works.seat;
    hand = omega (arith, kept.hands, before.works.hand);
    marks = ap length marked ∙ (length-set old.marks block true ∙ before.works.marks);
  };
  seat = keeps-trans first.seat old.seat new.seat before.seat kept;
  marks = marks;
  later = λ b from. ap (λ ms. is_marked ms b) marked ∙ (get_or-set_other old.marks block b true false (λ e. absurd (omega (arith, from, e))) ∙ before.later b (omega (arith, from)));
  work =
      adds-trans (IsOnUnmarked board.game first) first.seat.view.work old.seat.view.work new.seat.view.work before.work
      (adds-weaker (IsWorkIn board.game block old.seat.view.base) (IsOnUnmarked board.game first) old.seat.view.work new.seat.view.work on works);
  claims = claimed ∙ before.claims;
  number = numbered ∙ before.number;
} where
  on : (work : Work) → IsWorkIn board.game block old.seat.view.base work → IsOnUnmarked board.game first work
  on work is = record { block = block; inside = is.0; unmarked = sym (before.later block (omega arith)) ∙ free; now = is.1 ∙ before.seat.base }

  marks : (b : ℕ) → b < block + 1 → is_marked new.marks b ≡ true
  marks b below = elim (cases_lt b block) [
    | inl earlier ↦ ap (λ ms. is_marked ms b) marked ∙ (get_or-set_other old.marks block b true false (λ e. absurd (omega (arith, earlier, e))) ∙ before.marks b earlier)
    | inr from ↦ (
        let here : block ≡ b = omega (arith, below, from) in
        subst (λ (n : ℕ). is_marked new.marks n ≡ true) here (ap (λ ms. is_marked ms block) marked ∙ get_or-set_same old.marks block true false inside))
  ]

-- the block was marked
pub rest-skipped : (board : GameTable) (first worker : SeatsAndMarks) (block : ℕ) → HasRested board first worker block → is_marked worker.marks block ≡ true → HasRested board first worker (block + 1)
rest-skipped board first worker block before taken = record {
  works = before.works;
  seat = before.seat;
  marks = λ b below. elim (cases_lt b block) [
    | inl earlier ↦ before.marks b earlier
    | inr from ↦ (let here : block ≡ b = omega (arith, below, from) in subst (λ (n : ℕ). is_marked worker.marks n ≡ true) here taken)
  ];
  later = λ b from. before.later b (omega (arith, from));
  work = before.work;
  claims = before.claims;
  number = before.number;
}
