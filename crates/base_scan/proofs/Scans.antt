-- The states that are found among some squares.
use Rattle.std.proofs.Common.{◌≡◌, ◌≤◌, ◌<◌, ◌+◌, ◌-◌, ◌*◌, ◌/◌, ℕ, zero, suc, Bool, true, false, cond, List, [], ◌∷◌, ◌++◌, All, length, slice_index_or, filter, flat_map, sym, ap, subst, ◌∙◌, append_assoc, arith}
use Rattle.std.specs.List.{range_with_len}
use Rattle.std.proofs.lemmas.Bool.{false_from_ne_true}
use Rattle.std.proofs.lemmas.Nat.{le-div, mul-le}
use Rattle.std.proofs.lemmas.List.{append-nil}
use Rattle.std.proofs.lemmas.List.Concat.{flat_map-append}
use Rattle.std.proofs.lemmas.List.Elements.{All-append, All-cons, All-nil, filter-append}
use Rattle.std.proofs.lemmas.List.FromFn.{filter_of_map_range_with_len_more}
use Rattle.std.proofs.Math.Nat.{div-le_of_le-mul, div-mul-le_self, mul-div_cancel, mul-le-mul_left}
use Rattle.position_rank.specs.LiveRanks.{is_live, placement_at}
use Rattle.position_rank.specs.Placement.{Placement, IsLive}
use Rattle.position_rank.specs.Ranks.{layouts, rank_of}
use Rattle.position_rank.proofs.LiveLaws.{from-live, live-from}
use Rattle.position_rank.proofs.RowLaws.{layouts-in, ranked-layout, row-placement}
use Rattle.turn_rule.specs.Games.{kinds_of}
use Rattle.turn_rule.specs.declared.game.Game.{Game}
use Rattle.interval_words.specs.WordLists.{WordList}
use Rattle.base_scan.specs.declared.condition.Test.{Test}
use Rattle.base_scan.specs.declared.found.State.{State}
use Rattle.base_scan.specs.declared.sides.Listed.{Listed}
use Rattle.base_scan.specs.Meets.{meets}
use Rattle.base_scan.specs.Sides.{AreLayoutsListed, IsLayoutListed, position_of}
use Rattle.base_scan.specs.Found.{AreFound, IsScanned, IsFoundState, first_row, meeting, meeting_among, states_at, states_from, states_of_row, with_kinds}

range-append : (a m n : ℕ) → range_with_len a (m + n) ≡ range_with_len a m ++ range_with_len (a + m) n
range-append a zero n =
    let all : zero + n ≡ n = omega arith in
    let at : a ≡ a + zero = omega arith in
    ap (range_with_len a) all ∙ ap (λ (b : ℕ). range_with_len b n) at
range-append a (suc m) n =
    let all : suc m + n ≡ suc (m + n) = omega arith in
    let at : a + 1 + m ≡ a + suc m = omega arith in
    ap (range_with_len a) all ∙ ap (λ (xs : List ℕ). a ∷ xs)
    (range-append (a + 1) m n ∙ ap (λ (b : ℕ). range_with_len (a + 1) m ++ range_with_len b n) at)

module _ {X : Type 0} (f : ℕ → List X) (p : X → Bool) where
  abbrev picked : List ℕ → List X
  picked xs = filter p (flat_map f xs)

  picked-append : (xs ys : List ℕ) → picked (xs ++ ys) ≡ picked xs ++ picked ys
  picked-append xs ys = ap (filter p) (flat_map-append f xs ys) ∙ filter-append p (flat_map f xs) (flat_map f ys)

  picked-one : (x : ℕ) → picked (x ∷ []) ≡ filter p (f x)
  picked-one x = ap (filter p) (append-nil (f x))

kept-one : (P : State → Type 0) (kept : Bool) (state : State) → P state → All P (cond kept (state ∷ []) [])
kept-one P true state is = All-cons P state [] is (All-nil P)
kept-one P false state is = All-nil P

module _ (words : WordList) (groups : List (List Test)) where
  -- the states among so many squares from one on
  abbrev pub scanned : ℕ → ℕ → List State
  scanned from many = meeting_among words groups (states_from words.game from many)

  pub scanned-append : (from many more : ℕ) → scanned from (many + more) ≡ scanned from many ++ scanned (from + many) more
  scanned-append from many more =
      ap (λ (xs : List ℕ). meeting_among words groups (flat_map (states_at words.game) xs)) (range-append from many more)
      ∙ picked-append (states_at words.game) (λ state. meets words groups state.position state.kind) (range_with_len from many) (range_with_len (from + many) more)

  pub scanned-next : (from many : ℕ) → scanned from (many + 1) ≡ scanned from many ++ meeting_among words groups (states_at words.game (from + many))
  scanned-next from many =
      scanned-append from many 1
      ∙ ap (λ (xs : List State). scanned from many ++ xs) (picked-one (states_at words.game) (λ state. meets words groups state.position state.kind) (from + many))

  -- the states at one square more of a row
  pub square-more : (first rank : ℕ) (states old so_far new : List State) → states_at words.game (first + rank) ≡ states → so_far ≡ old ++ scanned first rank
      → new ≡ so_far ++ meeting_among words groups states → new ≡ old ++ scanned first (rank + 1)
  square-more first rank states old so_far new here have e =
      e ∙ (ap (λ (xs : List State). xs ++ meeting_among words groups states) have
      ∙ (append_assoc old (scanned first rank) (meeting_among words groups states)
      ∙ ap (λ (xs : List State). old ++ xs)
      (ap (λ (xs : List State). scanned first rank ++ meeting_among words groups xs) (sym here) ∙ sym (scanned-next first rank))))

  pub square-none : (first rank : ℕ) (old so_far : List State) → states_at words.game (first + rank) ≡ [] → so_far ≡ old ++ scanned first rank → so_far ≡ old ++ scanned first (rank + 1)
  square-none first rank old so_far here have = square-more first rank [] old so_far so_far here have (sym (append-nil so_far))

  -- the states of so many rows from one on
  abbrev pub of_rows : ℕ → ℕ → List State
  of_rows row many = scanned (row * layouts words.game.checkers) (many * layouts words.game.checkers)

  no-rows : (row : ℕ) → of_rows row 0 ≡ []
  no-rows row = let none : 0 * layouts words.game.checkers ≡ 0 = omega arith in ap (scanned (row * layouts words.game.checkers)) none

  pub rows-none : (from : ℕ) → of_rows from (from - from) ≡ []
  rows-none from = let none : from - from ≡ 0 = omega arith in ap (of_rows from) none ∙ no-rows from

  all-rows : of_rows 0 (layouts words.game.checkers) ≡ meeting words groups
  all-rows = let none : 0 * layouts words.game.checkers ≡ 0 = omega arith in ap (λ (s : ℕ). scanned s (layouts words.game.checkers * layouts words.game.checkers)) none

  rows-append : (from many more : ℕ) → of_rows from (many + more) ≡ of_rows from many ++ of_rows (from + many) more
  rows-append from many more =
      let l = layouts words.game.checkers in
      let sum : (many + more) * l ≡ many * l + more * l = omega arith in
      let at : from * l + many * l ≡ (from + many) * l = omega arith in
      ap (scanned (from * l)) sum ∙ (scanned-append (from * l) (many * l) (more * l) ∙ ap (λ (s : ℕ). scanned (from * l) (many * l) ++ scanned s (more * l)) at)

  pub rows-more : (from row : ℕ) → from ≤ row → of_rows from (row + 1 - from) ≡ of_rows from (row - from) ++ meeting_among words groups (states_of_row words.game row)
  rows-more from row low =
      let l = layouts words.game.checkers in
      let many : row + 1 - from ≡ row - from + 1 = omega arith in
      let at : from + (row - from) ≡ row = omega arith in
      let one : 1 * l ≡ l = omega arith in
      ap (of_rows from) many ∙ (rows-append from (row - from) 1
      ∙ (ap (λ (r : ℕ). of_rows from (row - from) ++ of_rows r 1) at ∙ ap (λ (n : ℕ). of_rows from (row - from) ++ scanned (row * l) n) one))

  -- one kind more
  pub kind-more : (p : Placement) (k : ℕ) (kept : Bool) (state : State) (old so_far new : List State) → kept ≡ meets words groups p k → state ≡ record { position = p; kind = k }
      → so_far ≡ old ++ meeting_among words groups (with_kinds k p) → new ≡ so_far ++ cond kept (state ∷ []) [] → new ≡ old ++ meeting_among words groups (with_kinds (k + 1) p)
  kind-more p k kept state old so_far new is at have e =
      e ∙ (ap (λ (xs : List State). xs ++ cond kept (state ∷ []) []) have
      ∙ (append_assoc old (meeting_among words groups (with_kinds k p)) (cond kept (state ∷ []) [])
      ∙ ap (λ (xs : List State). old ++ xs)
      (ap (λ (xs : List State). meeting_among words groups (with_kinds k p) ++ xs) (ap (λ (s : State). cond kept (s ∷ []) []) at ∙ ap (λ (b : Bool). cond b (record { position = p; kind = k } ∷ []) []) is)
      ∙ sym (filter_of_map_range_with_len_more (λ state. meets words groups state.position state.kind) (λ (j : ℕ). record { position = p; kind = j }) 0 k k (omega arith)))))

  pub right-more : (kept : Bool) (state : State) (so_far new : List State) → IsFoundState words.game state → All (IsFoundState words.game) so_far → new ≡ so_far ++ cond kept (state ∷ []) [] → All (IsFoundState words.game) new
  right-more kept state so_far new is right e =
      subst (All (IsFoundState words.game)) (sym e) (All-append (IsFoundState words.game) so_far (cond kept (state ∷ []) []) right (kept-one (IsFoundState words.game) kept state is))

  share-rise : (count parts a b : ℕ) → 0 < parts → a ≤ b → count * a / parts ≤ count * b / parts
  share-rise count parts a b some le =
      let down : count * a / parts * parts ≤ count * a = div-mul-le_self (count * a) parts in
      let up : count * a ≤ count * b = mul-le-mul_left count le in
      le-div (count * a / parts) (count * b) parts some (omega (arith, down, up))

  module _ (parts : ℕ) (some : 0 < parts) where
    pub first-rise : (number : ℕ) → first_row words.game parts number ≤ first_row words.game parts (number + 1)
    first-rise number = share-rise (layouts words.game.checkers) parts number (number + 1) some (omega arith)

    pub part-done : (number from to row : ℕ) (states : List State) → from ≡ first_row words.game parts number → to ≡ first_row words.game parts (number + 1)
        → row - from ≡ to - from → states ≡ of_rows from (row - from) → All (IsFoundState words.game) states → IsScanned words groups parts number states
    part-done number from to row states begins ends many have right = record {
      found = have ∙ (ap (of_rows from) many ∙ (ap (λ (t : ℕ). of_rows from (t - from)) ends ∙ ap (λ (f : ℕ). of_rows f (first_row words.game parts (number + 1) - f)) begins));
      right = right;
    }

    -- the states of the first so many parts
    pub record AreOf (i : ℕ) (all : List State) : Type 0 where
      pub have : all ≡ of_rows 0 (first_row words.game parts i)
      pub right : All (IsFoundState words.game) all

    pub of-none : (all : List State) → all ≡ [] → AreOf 0 all
    of-none all none =
        let small : layouts words.game.checkers * 0 / parts ≤ 0 = div-le_of_le-mul parts (omega arith) in
        let first : first_row words.game parts 0 ≡ 0 = omega (arith, small) in
        record { have = none ∙ sym (ap (of_rows 0) first ∙ no-rows 0); right = subst (All (IsFoundState words.game)) (sym none) (All-nil (IsFoundState words.game)) }

    pub of-more : (i : ℕ) (all states new : List State) → AreOf i all → IsScanned words groups parts i states → new ≡ all ++ states → AreOf (i + 1) new
    of-more i all states new are is e =
        let from = first_row words.game parts i in
        let to = first_row words.game parts (i + 1) in
        let rise : from ≤ to = first-rise i in
        let at : from ≡ 0 + from = omega arith in
        let whole : from + (to - from) ≡ to = omega (arith, rise) in
        record {
          have = e ∙ (ap (λ (xs : List State). xs ++ states) are.have ∙ (ap (λ (xs : List State). of_rows 0 from ++ xs) (is.found ∙ ap (λ (r : ℕ). of_rows r (to - from)) at)
              ∙ (sym (rows-append 0 from (to - from)) ∙ ap (of_rows 0) whole)));
          right = subst (All (IsFoundState words.game)) (sym e) (All-append (IsFoundState words.game) all states are.right is.right);
        }

    pub of-all : (i : ℕ) (all : List State) → i ≡ parts → AreOf i all → AreFound words groups all
    of-all i all end are = record {
      all = are.have ∙ (ap (of_rows 0) (ap (λ (n : ℕ). layouts words.game.checkers * n / parts) end ∙ mul-div_cancel (layouts words.game.checkers) some) ∙ all-rows);
      right = are.right;
    }

pub state-at : (p q : Placement) (k : ℕ) (state : State) → state ≡ record { position = p; kind = k } → p ≡ q → state ≡ record { position = q; kind = k }
state-at p q k state e at = subst (λ (r : Placement). state ≡ record { position = r; kind = k }) at e

-- there are few layouts, and few squares before a row
pub few-layouts : (checkers : ℕ) (one : Listed) → IsLayoutListed checkers one → layouts checkers ≤ 3276
few-layouts checkers one is = (layouts-in checkers (subst (λ (n : ℕ). 1 ≤ n) is.many is.valid.at_least_one) (subst (λ (n : ℕ). n ≤ 3) is.many is.valid.at_most_three)).1

pub few-before : (checkers row many : ℕ) (one : Listed) → IsLayoutListed checkers one → row < layouts checkers → many ≡ layouts checkers → row * many ≤ 3276 * 3276
few-before checkers row many one is inside same =
    let few = few-layouts checkers one is in
    mul-le row many 3276 3276 (omega (arith, few, inside)) (omega (arith, few, same))

-- what stands in a list of all layouts
module _ (checkers : ℕ) (all : List Listed) (are : AreLayoutsListed checkers all) (rank : ℕ) (one : Listed) (at : one ≡ slice_index_or all rank one) (inside : rank < length all) where
  pub is-listed : IsLayoutListed checkers one
  is-listed = subst (IsLayoutListed checkers) (sym at) (are.each rank one inside)

  pub has-rank : rank_of one.layout ≡ rank
  has-rank = subst (λ (l : Listed). rank_of l.layout ≡ rank) (sym at) (are.ranked rank one inside)

-- the states at a square of a row
module _ (game : Game) (row rank : ℕ) (mover other : Listed) (one : IsLayoutListed game.checkers mover) (another : IsLayoutListed game.checkers other) (high : rank_of mover.layout ≡ row) (low : rank_of other.layout ≡ rank) where
  at-square : rank < layouts game.checkers → placement_at game.checkers (row * layouts game.checkers + rank) ≡ position_of mover other
  at-square inside =
      row-placement game.checkers row rank inside
      ∙ (λ i. record {
        mover = ranked-layout game.checkers row mover.layout one.valid one.many high i;
        other = ranked-layout game.checkers rank other.layout another.valid another.many low i;
      })

  pub live-square : rank < layouts game.checkers → IsLive (position_of mover other)
      → states_at game (row * layouts game.checkers + rank) ≡ with_kinds (kinds_of game) (position_of mover other)
  live-square inside live =
      ap (λ (p : Placement). cond (is_live p) (with_kinds (kinds_of game) p) []) (at-square inside)
      ∙ ap (λ (b : Bool). cond b (with_kinds (kinds_of game) (position_of mover other)) []) (from-live _ live)

  pub dead-square : rank < layouts game.checkers → (IsLive (position_of mover other) → ⊥) → states_at game (row * layouts game.checkers + rank) ≡ []
  dead-square inside dead =
      ap (λ (p : Placement). cond (is_live p) (with_kinds (kinds_of game) p) []) (at-square inside)
      ∙ ap (λ (b : Bool). cond b (with_kinds (kinds_of game) (position_of mover other)) []) (false_from_ne_true _ (λ e. dead (live-from _ e)))
