-- The positions of a column are states.
use Rattle.std.proofs.Common.{◌≡◌, ◌<◌, ◌≤◌, ◌∙◌, ◌+◌, ◌*◌, ◌++◌, ℕ, List, [], length, sum, take, drop, get_or, All, ap, sym, subst}
use Rattle.std.proofs.Math.Seq.{take-append_seam}
use Rattle.std.proofs.Math.Nat.{mul-le-mul_right}
use Rattle.position_rank.specs.Placement.{IsLayout, IsLive}
use Rattle.position_rank.specs.Ranks.{layouts, rank_of, square_rank_of}
use Rattle.turn_rule.specs.Looks.{Source, IsSourceState}
use Rattle.turn_rule.specs.Layouts.{AreLayouts}
use Rattle.column_sums.specs.Leaps.{layout_at}
use Rattle.column_sums.specs.Listings.{IsListed}
use Rattle.column_turns.specs.Turns.{at_rank, mover_at, AreLiveMovers, IsColumnOf}

-- the movers that a column lists are live, where those that were handed in are
pub listed-movers : (layouts : List (List ℕ)) (other : List ℕ) (given movers : List ℕ) → AreLiveMovers layouts other given
    → ((i : ℕ) → i < length given → IsListed movers (get_or given i 0)) → ((i : ℕ) → i < length movers → IsListed given (get_or movers i 0))
    → All (λ (rank : ℕ). rank < length layouts) movers → AreLiveMovers layouts other movers
listed-movers layouts other given movers are listed only within = record {
  within = within;
  live = λ i below. let at = only i below in subst (λ (rank : ℕ). IsLive (at_rank layouts other rank)) at.2 (are.live at.0 at.1);
  all = λ rank below live.
      let at = are.all rank below live in
      let here = listed at.0 at.1 in
      (here.0, here.1, here.2 ∙ at.2);
}

-- a live position of a column is a state in each kind
pub rank-state : (source : Source) (layouts : List (List ℕ)) (other : List ℕ) (rank k : ℕ) → AreLayouts source.checkers layouts → IsLayout other → sum other ≡ source.checkers → rank < length layouts
    → IsLive (at_rank layouts other rank) → k < source.kinds → IsSourceState source (at_rank layouts other rank) k
rank-state source layouts other rank k all valid many here live kind =
    let has = all.each rank [] here in
    record {
      position = record { mover = has.valid; other = valid; same = has.many ∙ sym many };
      many = has.many;
      live = live;
      kind = kind;
    }

-- the square rank of one of a column's positions
pub mover-square : (checkers : ℕ) (all : List (List ℕ)) (other movers : List ℕ) (i rank : ℕ) → AreLayouts checkers all → get_or movers i 0 < length all → rank_of other ≡ rank
    → get_or movers i 0 * length all + rank ≡ square_rank_of (mover_at all other movers i)
mover-square checkers all other movers i rank are here is =
    let mover = get_or movers i 0 in
    let has = are.each mover [] here in
    let square : ℕ → ℕ → ℕ → ℕ = λ m n o. m * n + o in
    sym (ap (λ (m : ℕ). square m (layouts (sum (layout_at all mover))) (rank_of other)) has.ranked ∙ (ap (λ (n : ℕ). square mover (layouts n) (rank_of other)) has.many ∙ (ap (λ (n : ℕ). square mover n (rank_of other)) (sym are.many) ∙ ap (λ (o : ℕ). square mover (length all) o) is)))

-- the column of a layout
pub column-of : (source : Source) (layouts others : List (List ℕ)) (other movers : List ℕ) → AreLayouts source.checkers layouts → length layouts ≤ 3276 → 0 < length others → layout_at others 0 ≡ other → IsLayout other → sum other ≡ source.checkers
    → length movers ≤ length layouts → AreLiveMovers layouts other movers → IsColumnOf source layouts others movers
column-of source layouts others other movers all few some first valid many count are = record {
  all = all;
  few = few;
  some = some;
  many = ap sum first ∙ many;
  few_movers = count;
  within = are.within;
  states = λ i k below kind.
      subst (λ (o : List ℕ). IsSourceState source (at_rank layouts o (get_or movers i 0)) k) (sym first)
      (rank-state source layouts other (get_or movers i 0) k all valid many (are.within i 0 below) (are.live i below) kind);
}

-- a list of values that was handed out as a slice, after it was written
pub written : {X : Type 0} (n : ℕ) (new items given : List X) → given ≡ items → length given ≡ n → length new ≡ length given → take n (new ++ drop (length new) items) ≡ new
written n new items given is many same = ap (λ (m : ℕ). take m (new ++ drop (length new) items)) (sym (same ∙ many)) ∙ take-append_seam new (drop (length new) items)

-- there is room for the values of some movers
pub room-for : (movers layouts kinds wanted room : ℕ) → movers ≤ layouts → kinds ≡ wanted → room ≡ layouts * kinds → movers * wanted ≤ room
room-for movers layouts kinds wanted room few same is = rw (is, same) (mul-le-mul_right wanted few)
