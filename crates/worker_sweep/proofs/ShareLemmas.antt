-- The shares of a crew, over a round and at the end.
use Rattle.std.proofs.Common.{◌≡◌, ◌+◌, ◌<◌, ◌≤◌, ℕ, zero, suc, List, [], ◌∷◌, ◌++◌, true, false, All, Contains, length, get_or, set, take, map, append_assoc, append-nil, inl, inr, arith, refl, ap, sym, subst, ◌∙◌}
use Rattle.std.proofs.lemmas.List.Elements.{All-nil, All-cons, All-head, All-tail, All-append, All-weaker, All-contains, Contains-append_left, Contains-append_right, Contains-append_cases}
use Rattle.block_claims.specs.declared.views.Claim.{Claim}
use Rattle.block_claims.specs.declared.views.ClaimView.{ClaimView}
use Rattle.block_claims.specs.Views.{fresh}
use Rattle.block_claims.specs.Claiming.{with_taken}
use Rattle.turn_rule.specs.declared.game.Game.{Game}
use Rattle.interval_words.specs.declared.view.Work.{Work}
use Rattle.interval_words.specs.Seats.{AddsWork}
use Rattle.worker_sweep.specs.Blocks.{blocks}
use Rattle.worker_sweep.specs.Workers.{SeatsAndMarks, WentThrough, HaveGoneThrough, HasMarksOf, IsNotedClaimed, IsOnClaimed, IsOnUnmarked, is_marked}
use Rattle.worker_sweep.specs.Shares.{Share, HasDone, IsOnLeft, share_of, shares_of, works_of, hands_of, all_claims}

-- an element is replaced by one that a function takes to the same
pub map-set : {X Y : Type 0} (f : X → Y) (xs : List X) (i : ℕ) (x d : X) → i < length xs → f x ≡ f (get_or xs i d) → map f (set xs i x) ≡ map f xs
map-set f [] i x d inside same = absurd (omega (arith, inside))
map-set f (y ∷ ys) zero x d inside same = ap (λ z. z ∷ map f ys) same
map-set f (y ∷ ys) (suc i) x d inside same = ap (λ zs. f y ∷ zs) (map-set f ys i x d (omega (arith, inside)) same)

-- a place of a list has an element, whatever the default
pub get_or-any : {X : Type 0} (xs : List X) (i : ℕ) (d e : X) → i < length xs → get_or xs i d ≡ get_or xs i e
get_or-any [] i d e inside = absurd (omega (arith, inside))
get_or-any (x ∷ xs) zero d e inside = refl
get_or-any (x ∷ xs) (suc i) d e inside = get_or-any xs i d e (omega (arith, inside))

-- the front of two lists that is as long as the first
pub take-first : {X : Type 0} (n : ℕ) (xs ys : List X) → n ≡ length xs → take n (xs ++ ys) ≡ xs
take-first zero [] ys same = refl
take-first zero (x ∷ xs) ys same = absurd (omega (arith, same))
take-first (suc n) [] ys same = absurd (omega (arith, same))
take-first (suc n) (x ∷ xs) ys same = ap (λ zs. x ∷ zs) (take-first n xs ys (omega (arith, same)))

-- the work of a crew is that of its shares
pub works-shares : (crew : List SeatsAndMarks) → works_of crew ≡ map (λ (share : Share). share.work) (shares_of crew)
works-shares [] = refl
works-shares (worker ∷ crew) = ap (λ works. worker.seat.view.work ∷ works) (works-shares crew)

pub hands-shares : (crew : List SeatsAndMarks) → hands_of crew ≡ map (λ (share : Share). share.hands) (shares_of crew)
hands-shares [] = refl
hands-shares (worker ∷ crew) = ap (λ hands. worker.seat.view.hands ∷ hands) (hands-shares crew)

-- there are as many shares as workers
pub length-shares : (crew : List SeatsAndMarks) → length (shares_of crew) ≡ length crew
length-shares [] = refl
length-shares (worker ∷ crew) = omega (arith, length-shares crew)

-- the claims of one share more
pub claims-push : (shares : List Share) (share : Share) → all_claims (shares ++ share ∷ []) ≡ with_taken (all_claims shares) share.claims
claims-push [] share = λ i. record { claims = append-nil share.claims.claims i; notes = append-nil share.claims.notes i }
claims-push (first ∷ shares) share = ap (with_taken first.claims) (claims-push shares share) ∙ (λ i. record {
  claims = sym (append_assoc first.claims.claims (all_claims shares).claims share.claims.claims) i;
  notes = sym (append_assoc first.claims.notes (all_claims shares).notes share.claims.notes) i;
})

-- a worker that has done nothing
pub done-none : (game : Game) (share : Share) → share ≡ record { claims = fresh; work = []; hands = 1 } → HasDone game 0 share
done-none game share is = subst (HasDone game 0) (sym is) (record {
  hand = refl;
  came = λ block below. refl;
  noted = λ block round below low high. absurd (omega (arith, low, high));
  claims = All-nil (λ (claim : Claim). (1 ≤ claim.round) × (claim.round ≤ 0));
  work = All-nil (IsOnClaimed game []);
})

-- what was noted to be claimed for a round was so for each earlier one
noted-earlier : (view : ClaimView) (block round earlier : ℕ) → earlier ≤ round → IsNotedClaimed view block round → IsNotedClaimed view block earlier
noted-earlier view block round earlier less (note, there, of_block, enough) = (note, there, of_block, omega (arith, less, enough))

-- work in claimed blocks, where more is claimed
on-more : (game : Game) (claims more : List Claim) → ((claim : Claim) → Contains claims claim → Contains more claim) → (work : Work) → IsOnClaimed game claims work → IsOnClaimed game more work
on-more game claims more also work on = record { block = on.block; inside = on.inside; claimed = also _ on.claimed }

module _ (game : Game) (base count : ℕ) (many : count ≡ blocks game.checkers) where
  abbrev Went : SeatsAndMarks → SeatsAndMarks → Type 0
  Went old new = WentThrough game (base + 1) count old new

  abbrev HaveGone : List SeatsAndMarks → List SeatsAndMarks → Type 0
  HaveGone xs ys = HaveGoneThrough game (base + 1) count xs ys

  abbrev InRounds : Claim → Type 0
  InRounds claim = (1 ≤ claim.round) × (claim.round ≤ base + 1)

  -- a worker has done a round more
  done-one : (old new : SeatsAndMarks) → HasDone game base (share_of old) → Went old new → HasDone game (base + 1) (share_of new)
  done-one old new done went = record {
    hand = went.hands ∙ done.hand;
    came = λ block below. omega (arith, went.came block (omega (arith, many, below)), done.came block below);
    noted = λ block round below low high. noted-earlier new.claims.view block (base + 1) round high (went.noted block (omega (arith, many, below)));
    claims = subst (All InRounds) (sym went.claims) (All-append InRounds went.got old.claims.view.claims now before);
    work = subst (All (IsOnClaimed game new.claims.view.claims)) (sym went.work.front) (All-append (IsOnClaimed game new.claims.view.claims) went.work.added old.seat.view.work worked earlier);
  } where
    now : All InRounds went.got
    now = All-weaker (λ (claim : Claim). (claim.round ≡ base + 1) × (is_marked new.marks claim.block ≡ true)) InRounds (λ claim is. (omega (arith, is.0), omega (arith, is.0))) went.got went.marked

    before : All InRounds old.claims.view.claims
    before = All-weaker (λ (claim : Claim). (1 ≤ claim.round) × (claim.round ≤ base)) InRounds (λ claim is. (is.0, omega (arith, is.1))) old.claims.view.claims done.claims

    worked : All (IsOnClaimed game new.claims.view.claims) went.work.added
    worked =
        All-weaker (IsOnClaimed game went.got) (IsOnClaimed game new.claims.view.claims)
        (on-more game went.got new.claims.view.claims (λ claim there. subst (λ (claims : List Claim). Contains claims claim) (sym went.claims) (Contains-append_left went.got old.claims.view.claims claim there)))
        went.work.added went.work.each

    earlier : All (IsOnClaimed game new.claims.view.claims) old.seat.view.work
    earlier =
        All-weaker (IsOnClaimed game old.claims.view.claims) (IsOnClaimed game new.claims.view.claims)
        (on-more game old.claims.view.claims new.claims.view.claims (λ claim there. subst (λ (claims : List Claim). Contains claims claim) (sym went.claims) (Contains-append_right went.got old.claims.view.claims claim there)))
        old.seat.view.work done.work

  -- what holds of each worker of a crew after a round, and so of each share
  each-share : (P Q : Share → Type 0) (xs ys : List SeatsAndMarks) → length ys ≡ length xs → HaveGone xs ys
      → ((k : ℕ) (none : SeatsAndMarks) → k < length xs → P (share_of (get_or xs k none)) → Went (get_or xs k none) (get_or ys k none) → Q (share_of (get_or ys k none)))
      → All P (shares_of xs) → All Q (shares_of ys)
  each-share P Q [] [] same went so all = All-nil Q
  each-share P Q [] (y ∷ ys) same went so all = absurd (omega (arith, same))
  each-share P Q (x ∷ xs) [] same went so all = absurd (omega (arith, same))
  each-share P Q (x ∷ xs) (y ∷ ys) same went so all =
      All-cons Q (share_of y) (shares_of ys)
      (so 0 x (omega arith) (All-head P (share_of x) (shares_of xs) all) (went 0 x (omega arith)))
      (each-share P Q xs ys (omega (arith, same)) (λ k none below. went (suc k) none (omega (arith, below))) (λ k none below. so (suc k) none (omega (arith, below))) (All-tail P (share_of x) (shares_of xs) all))

  module _ (crew later : List SeatsAndMarks) (same : length later ≡ length crew) (went : HaveGone crew later) (done : All (HasDone game base) (shares_of crew)) where
    pub done-all : All (HasDone game (base + 1)) (shares_of later)
    done-all = each-share (HasDone game base) (HasDone game (base + 1)) crew later same went (λ k none below has gone. done-one (get_or crew k none) (get_or later k none) has gone) done

    -- nobody has a block that nobody has marked
    nobody-now : (block : ℕ) → ((k : ℕ) (none : SeatsAndMarks) → k < length later → is_marked (get_or later k none).marks block ≡ true → ⊥) → All (λ (share : Share). ¬ Contains share.claims.claims (record { block = block; round = base + 1 })) (shares_of later)
    nobody-now block unmarked = each-share (HasDone game base) (λ (share : Share). ¬ Contains share.claims.claims (record { block = block; round = base + 1 })) crew later same went one done where
      one : (k : ℕ) (none : SeatsAndMarks) → k < length crew → HasDone game base (share_of (get_or crew k none)) → Went (get_or crew k none) (get_or later k none) → ¬ Contains (get_or later k none).claims.view.claims (record { block = block; round = base + 1 })
      one k none below has gone there =
          let old = get_or crew k none in
          let new = get_or later k none in
          let claim : Claim = record { block = block; round = base + 1 } in
          elim (Contains-append_cases gone.got old.claims.view.claims claim (subst (λ (claims : List Claim). Contains claims claim) gone.claims there)) [
            | inl got ↦ unmarked k none (omega (arith, below, same)) (All-contains (λ (c : Claim). (c.round ≡ base + 1) × (is_marked new.marks c.block ≡ true)) gone.got claim gone.marked got).1
            | inr before ↦ absurd (omega (arith, (All-contains (λ (c : Claim). (1 ≤ c.round) × (c.round ≤ base)) old.claims.view.claims claim has.claims before).1))
          ]

    -- nobody gets a block for an earlier round
    nobody-later : (block round : ℕ) → round < base + 1 → All (λ (share : Share). ¬ Contains share.claims.claims (record { block = block; round = round })) (shares_of crew) → All (λ (share : Share). ¬ Contains share.claims.claims (record { block = block; round = round })) (shares_of later)
    nobody-later block round earlier = each-share (λ (share : Share). ¬ Contains share.claims.claims (record { block = block; round = round })) (λ (share : Share). ¬ Contains share.claims.claims (record { block = block; round = round })) crew later same went one where
      one : (k : ℕ) (none : SeatsAndMarks) → k < length crew → ¬ Contains (get_or crew k none).claims.view.claims (record { block = block; round = round }) → Went (get_or crew k none) (get_or later k none) → ¬ Contains (get_or later k none).claims.view.claims (record { block = block; round = round })
      one k none below free gone there =
          let old = get_or crew k none in
          let new = get_or later k none in
          let claim : Claim = record { block = block; round = round } in
          elim (Contains-append_cases gone.got old.claims.view.claims claim (subst (λ (claims : List Claim). Contains claims claim) gone.claims there)) [
            | inl got ↦ absurd (omega (arith, earlier, (All-contains (λ (c : Claim). (c.round ≡ base + 1) × (is_marked new.marks c.block ≡ true)) gone.got claim gone.marked got).0))
            | inr before ↦ free before
          ]

    -- the owner sweeps what nobody has marked
    pub rest-round : (before : List Work) (owner : SeatsAndMarks) (new : List Work) → All (IsOnLeft game base (shares_of crew)) before → owner.seat.view.work ≡ before → owner.seat.view.base ≡ base → HasMarksOf later owner → AddsWork (IsOnUnmarked game owner) owner.seat.view.work new → All (IsOnLeft game (base + 1) (shares_of later)) new
    rest-round before owner new rest kept at marks adds =
        subst (All (IsOnLeft game (base + 1) (shares_of later))) (sym adds.front)
        (All-append (IsOnLeft game (base + 1) (shares_of later)) adds.added owner.seat.view.work
        (All-weaker (IsOnUnmarked game owner) (IsOnLeft game (base + 1) (shares_of later)) swept adds.added adds.each)
        (All-weaker (IsOnLeft game base (shares_of crew)) (IsOnLeft game (base + 1) (shares_of later)) still owner.seat.view.work (subst (All (IsOnLeft game base (shares_of crew))) (sym kept) rest))) where
          swept : (work : Work) → IsOnUnmarked game owner work → IsOnLeft game (base + 1) (shares_of later) work
          swept work on =
              let free = nobody-now on.block (λ k none below marked. let e : true ≡ false = sym (marks k on.block none below marked) ∙ on.unmarked in grind (arith, e)) in
              let here : base ≡ work.base = sym at ∙ sym on.now in
              record {
                block = on.block;
                inside = on.inside;
                round = omega (arith, here);
                left = subst (λ (n : ℕ). All (λ (share : Share). ¬ Contains share.claims.claims (record { block = on.block; round = n + 1 })) (shares_of later)) here free;
              }

          still : (work : Work) → IsOnLeft game base (shares_of crew) work → IsOnLeft game (base + 1) (shares_of later) work
          still work on = record {
            block = on.block;
            inside = on.inside;
            round = omega (arith, on.round);
            left = nobody-later on.block (work.base + 1) (omega (arith, on.round)) on.left;
          }
