-- Workers over a round.
use Rattle.std.proofs.Common.{◌≡◌, ◌+◌, ◌<◌, ◌≤◌, ℕ, zero, suc, [], ◌∷◌, Bool, true, false, ◌||◌, List, All, length, get_or, set, inl, inr, arith, refl, ap, sym, subst, ◌∙◌}
use Rattle.std.proofs.lemmas.Bool.{cases_lt}
use Rattle.std.proofs.lemmas.List.{get_or-set_same, get_or-set_other, length-set, length-replicate}
use Rattle.block_claims.specs.Claiming.{ClaimTable, Claimer}
use Rattle.interval_words.specs.Core.{settled}
use Rattle.interval_words.specs.Seats.{GameTable, GameSeat, SitsAt, KeepsNotes, joining, knowing}
use Rattle.worker_sweep.specs.Blocks.{blocks}
use Rattle.worker_sweep.specs.Workers.{SeatsAndMarks, IsAtWork, IsReady, is_marked, unmarked, unmarked_worker}
use Rattle.interval_words.proofs.SeatNotes.{sits-kept}

module _ (board : GameTable) (claims : ClaimTable) (base : ℕ) where
  -- a worker that loses no note goes on
  pub works-on : (old new : SeatsAndMarks) → IsAtWork board claims base old → KeepsNotes old.seat new.seat → length new.marks ≡ length old.marks → new.claims.table ≡ old.claims.table → new.number ≡ old.number → IsAtWork board claims base new
  works-on old new at kept many claimed numbered = record {
    works = record { seat = sits-kept board old.seat new.seat kept at.works.seat; hand = omega (arith, kept.hands, at.works.hand); marks = many ∙ at.works.marks };
    claimer = claimed ∙ at.claimer;
    after = kept.base ∙ at.after;
  }

  -- so does one that is ready
  pub ready-on : (old new : SeatsAndMarks) → IsReady board claims base old → KeepsNotes old.seat new.seat → new.marks ≡ old.marks → new.claims ≡ old.claims → new.number ≡ old.number → IsReady board claims base new
  ready-on old new ready kept marked claimed numbered = record {
    works = works-on old new ready.works kept (ap length marked) (ap (λ c. c.table) claimed) numbered;
    unmarked = marked ∙ ready.unmarked;
  }

  -- a worker whose marks were taken in
  pub unmarks : (old new : SeatsAndMarks) → IsAtWork board claims base old → new ≡ record old { marks = unmarked (length old.marks) } → IsReady board claims base new
  unmarks old new at is = subst (IsReady board claims base) (sym is) (record {
    works = record {
      works = record { seat = at.works.seat; hand = at.works.hand; marks = length-replicate (length old.marks) false ∙ at.works.marks };
      claimer = at.claimer;
      after = at.after;
    };
    unmarked = ap unmarked at.works.marks;
  })

  -- a worker that knows what its owner knows, who has ended a round
  pub follows : (owner old new : SeatsAndMarks) → IsAtWork board claims (base + 1) owner → IsReady board claims base old → new ≡ record old { seat = joining old.seat (knowing owner.seat) } → IsReady board claims (base + 1) new
  follows owner old new own at is = subst (IsReady board claims (base + 1)) (sym is) (record {
    works = record {
      works = record { seat = record { table = at.works.works.seat.table; game = at.works.works.seat.game }; hand = omega (arith, at.works.works.hand); marks = at.works.works.marks };
      claimer = at.works.claimer;
      after = omega (arith, own.after, at.works.after);
    };
    unmarked = at.unmarked;
  })

-- a worker that ends a round keeps its work
pub work-settled : (old new : SeatsAndMarks) → new ≡ record old { seat = record old.seat { view = settled old.seat.view }; marks = unmarked (length old.marks) } → new.seat.view.work ≡ old.seat.view.work
work-settled old new is = ap (λ w. w.seat.view.work) is

pub hands-settled : (old new : SeatsAndMarks) → new ≡ record old { seat = record old.seat { view = settled old.seat.view }; marks = unmarked (length old.marks) } → new.seat.view.hands ≡ old.seat.view.hands
hands-settled old new is = ap (λ w. w.seat.view.hands) is

-- one element more has what those before it have
pub first-more : {X : Type 0} (P : X → Type 0) (xs : List X) (i : ℕ) (x : X) → i < length xs → ((k : ℕ) (d : X) → k < i → P (get_or xs k d)) → P x → (k : ℕ) (d : X) → k < i + 1 → P (get_or (set xs i x) k d)
first-more P xs i x inside before last k d below = elim (cases_lt k i) [
  | inl earlier ↦ subst P (sym (get_or-set_other xs i k x d (λ e. absurd (omega (arith, earlier, e))))) (before k d earlier)
  | inr from ↦ (
      let here : k ≡ i = omega (arith, below, from) in
      subst (λ (n : ℕ). P (get_or (set xs i x) n d)) (sym here) (subst P (sym (get_or-set_same xs i x d inside)) last))
]

-- those after it are as they were
pub rest-still : {X : Type 0} (P : X → Type 0) (xs : List X) (i : ℕ) (x : X) → ((k : ℕ) (d : X) → i ≤ k → k < length xs → P (get_or xs k d)) → (k : ℕ) (d : X) → i + 1 ≤ k → k < length (set xs i x) → P (get_or (set xs i x) k d)
rest-still P xs i x rest k d from below =
    subst P (sym (get_or-set_other xs i k x d (λ e. absurd (omega (arith, from, e))))) (rest k d (omega (arith, from)) (omega (arith, below, length-set xs i x)))

pub rest-same : {X : Type 0} (first xs : List X) (i : ℕ) (x : X) → ((k : ℕ) (d : X) → i ≤ k → k < length xs → get_or xs k d ≡ get_or first k d) → (k : ℕ) (d : X) → i + 1 ≤ k → k < length (set xs i x) → get_or (set xs i x) k d ≡ get_or first k d
rest-same first xs i x same k d from below =
    get_or-set_other xs i k x d (λ e. absurd (omega (arith, from, e))) ∙ same k d (omega (arith, from)) (omega (arith, below, length-set xs i x))

or-first : (a b both : Bool) → both ≡ (a || b) → a ≡ true → both ≡ true
or-first true b both is marked = is
or-first false true both is marked = is
or-first false false both is marked = is ∙ marked

or-second : (a b both : Bool) → both ≡ (a || b) → b ≡ true → both ≡ true
or-second true b both is marked = is
or-second false b both is marked = is ∙ marked

-- the marks of one worker more were taken in
pub marks-more : (crew : List SeatsAndMarks) (i : ℕ) (old new other : SeatsAndMarks) → ((none : SeatsAndMarks) → other ≡ get_or crew i none) → ((block : ℕ) → is_marked new.marks block ≡ (is_marked old.marks block || is_marked other.marks block))
    → ((k block : ℕ) (none : SeatsAndMarks) → k < i → is_marked (get_or crew k none).marks block ≡ true → is_marked old.marks block ≡ true)
    → (k block : ℕ) (none : SeatsAndMarks) → k < i + 1 → is_marked (get_or crew k none).marks block ≡ true → is_marked new.marks block ≡ true
marks-more crew i old new other here either before k block none below marked = elim (cases_lt k i) [
  | inl earlier ↦ or-first (is_marked old.marks block) (is_marked other.marks block) _ (either block) (before k block none earlier marked)
  | inr from ↦ (
      let last : k ≡ i = omega (arith, below, from) in
      let own : is_marked other.marks block ≡ true = ap (λ (w : SeatsAndMarks). is_marked w.marks block) (here none) ∙ (ap (λ (n : ℕ). is_marked (get_or crew n none).marks block) (sym last) ∙ marked) in
      or-second (is_marked old.marks block) (is_marked other.marks block) _ (either block) own)
]

-- a worker that begins
pub begins : (board : GameTable) (claims : ClaimTable) (number : ℕ) (own : GameSeat) (claimer : Claimer) (new : SeatsAndMarks) → SitsAt board own → 0 < own.view.hands → claimer.table ≡ claims.table
    → new ≡ unmarked_worker own claimer number (blocks board.game.checkers) → IsReady board claims own.view.base new
begins board claims number own claimer new sits hand claimed is = subst (IsReady board claims own.view.base) (sym is) (record {
  works = record {
    works = record { seat = sits; hand = hand; marks = length-replicate (blocks board.game.checkers) false };
    claimer = claimed;
    after = refl;
  };
  unmarked = refl;
})

-- all of one element
pub All-one : {X : Type 0} (P : X → Type 0) (x : X) → P x → All P (x ∷ [])
All-one P x h zero d below = h
All-one P x h (suc k) d below = absurd (omega (arith, below))
