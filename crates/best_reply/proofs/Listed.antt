-- The listed plays of a roll: what they leave is a state, whose pair is within the bound.
use Rattle.std.proofs.Common.{◌≡◌, ◌<◌, ◌+◌, ◌++◌, ◌∷◌, [], ◌∙◌, ◌↔◌, ◌^◌, ℕ, pos, neg_ℤ, List, length, get_or, take, sum, All, AllPairs, Contains, Option, Some, None, refl, ap, sym, subst, arith}
use Rattle.std.proofs.lemmas.Int.{ints}
use Rattle.std.proofs.lemmas.List.{get_or-map, length-map, map-append, take_more}
use Rattle.std.proofs.lemmas.List.Elements.{Contains-get_or}
use Rattle.position_rank.specs.Placement.{Placement, IsPosition, IsLive, swap}
use Rattle.roll_table.specs.Rolls.{Dice, IsRoll}
use Rattle.move_rules.specs.declared.play.Entry.{Entry}
use Rattle.move_rules.specs.Order.{PlayComesBefore, IsFirst, ends_of, plays_of}
use Rattle.move_rules.specs.Sequences.{IsLegalEnd}
use Rattle.move_rules.proofs.StayLive.{legal_end-stays}
use Rattle.move_rules.specs.declared.payoff.Won.{Won}
use Rattle.move_rules.specs.Payoff.{points}
use Rattle.directed_fixed.specs.declared.bounds.End.TheVariants.{Lower, Upper}
use Rattle.directed_fixed.specs.Bounds.{Bounds, IsWithin}
use Rattle.cube_actions.specs.declared.kind.Kind.{Kind}
use Rattle.cube_actions.specs.Stakes.{kind_at, no_kind, IsValid}
use Rattle.turn_rule.specs.declared.game.Game.{Game}
use Rattle.turn_rule.specs.Turn.{Words, if_won, win}
use Rattle.turn_rule.specs.States.{AreWithin, IsState}
use Rattle.turn_rule.proofs.Integers.{neg_le}
use Rattle.turn_rule.proofs.Within.{bound-positive, bound-small, follow-state, in_play, win-within}
use Rattle.play_analyser.specs.Regrets.{play_pair}
use Rattle.best_reply.specs.declared.left.Left.{Left}
use Rattle.best_reply.specs.Tables.{AreEndsOfPlays, LeavesLive, LeavesStateOfGame, ends_in}

-- what a legal play leaves
pub legal-live : (checkers : ℕ) (p : Placement) (roll : Dice) (q : Placement) → IsRoll roll → IsPosition p → IsLive p → sum p.mover ≡ checkers → IsLegalEnd p roll q → LeavesLive checkers q
legal-live checkers p roll q right position live many legal on =
    let stays = legal_end-stays p roll q right position live legal in
    (stays.2 (in_play q on), sym stays.0.same ∙ (stays.1 ∙ many))

pub listed-live : (checkers : ℕ) (p : Placement) (roll : Dice) (ends : List Placement) → IsRoll roll → IsPosition p → IsLive p → sum p.mover ≡ checkers → ((q : Placement) → Contains ends q ↔ IsLegalEnd p roll q) → All (LeavesLive checkers) ends
listed-live checkers p roll ends right position live many legal i none inside =
    legal-live checkers p roll (get_or ends i none) right position live many ((legal (get_or ends i none)).0 (Contains-get_or ends i none inside))

-- the listed plays of a roll, with what they leave
pub are-listed : (p : Placement) (roll : Dice) (times : ℕ) (entries : List Entry) (ends : List Placement) → IsRoll roll → ends ≡ ends_of entries → 0 < length entries → ((q : Placement) → Contains (ends_of entries) q ↔ IsLegalEnd p roll q)
    → All (λ (entry : Entry). IsFirst p roll entry.play.items entry.end) entries → AllPairs PlayComesBefore (plays_of entries) → AreEndsOfPlays (record { position = p; roll = roll; times = times }) ends
are-listed p roll times entries ends right is some legal first in_order = record {
  right = right;
  entries = entries;
  is = sym is;
  some = omega (arith, some, ap length is, length-map entries (λ (entry : Entry). entry.end));
  legal = λ q. subst (λ (xs : List Placement). Contains xs q ↔ IsLegalEnd p roll q) (sym is) (legal q);
  first = first;
  in_order = in_order;
}

module _ (game : Game) (valid : IsValid game.stakes) (p : Placement) (k : ℕ) (state : IsState game p k) (roll : Dice) (right : IsRoll roll) where
  abbrev kind : Kind
  kind = kind_at game.stakes k

  pub legal-state : (q : Placement) → IsLegalEnd p roll q → LeavesStateOfGame game kind.next q
  legal-state q legal on = follow-state game valid p k state (swap q) kind.next (record {
    roll = roll;
    right = right;
    end = q;
    legal = legal;
    left = record { goes_on = on; sides = refl; kind = refl };
  })

  pub listed-states : (ends : List Placement) → ((q : Placement) → Contains ends q ↔ IsLegalEnd p roll q) → All (LeavesStateOfGame game kind.next) ends
  listed-states ends legal i none inside = legal-state (get_or ends i none) ((legal (get_or ends i none)).0 (Contains-get_or ends i none inside))

  pub legal-within : (u : Words) → AreWithin game u → (q : Placement) → IsLegalEnd p roll q → IsWithin game.stakes.bound (play_pair kind u q)
  legal-within u words q legal = by_points (points q) refl where
    by_points : (o : Option Won) → points q ≡ o → IsWithin game.stakes.bound (record { lower = if_won o (λ won. (win kind won).lower) (neg_ℤ (u Upper (swap q) kind.next)); upper = if_won o (λ won. (win kind won).upper) (neg_ℤ (u Lower (swap q) kind.next)) })
    by_points None on =
        let later = words (swap q) kind.next (legal-state q legal on) in
        record { from = neg_le _ _ later.to; in_order = neg_le _ _ later.in_order; to = (let h = later.from in omega (arith, ints, h)) }
    by_points (Some won) over = win-within game.stakes.bound kind (bound-positive game.stakes valid) (valid.kinds k no_kind state.kind).wins won

  -- within the bound of all stakes
  pub small-pair : (pair : Bounds) → IsWithin game.stakes.bound pair → IsWithin (pos (2 ^ 36)) pair
  small-pair pair h =
      let small = bound-small game.stakes valid in
      record { from = (let low = h.from in omega (arith, ints, low, small)); in_order = h.in_order; to = (let high = h.to in omega (arith, ints, high, small)) }

-- ---- lists that grow by one

pub entry-leaves : (checkers : ℕ) (list : List Entry) → All (LeavesLive checkers) (ends_of list) → (i : ℕ) (entry : Entry) → i < length list → entry ≡ get_or list i entry → LeavesLive checkers entry.end
entry-leaves checkers list all i entry inside is =
    subst (λ (e : Entry). LeavesLive checkers e.end) (sym is)
    (subst (LeavesLive checkers) (get_or-map (λ (e : Entry). e.end) list i entry entry.end inside) (all i entry.end (omega (arith, inside, length-map list (λ (e : Entry). e.end)))))

pub ends-push : (lefts : List Left) (list : List Entry) (i : ℕ) (entry : Entry) (left : Left) (new : List Left) → i < length list → entry ≡ get_or list i entry → ends_in lefts ≡ ends_of (take i list) → left.end ≡ entry.end → new ≡ lefts ++ left ∷ [] → ends_in new ≡ ends_of (take (i + 1) list)
ends-push lefts list i entry left new inside is before end made =
    ap ends_in made
    ∙ (map-append (λ (l : Left). l.end) lefts (left ∷ [])
    ∙ (ap (λ (qs : List Placement). qs ++ left.end ∷ []) before
    ∙ (ap (λ (q : Placement). ends_of (take i list) ++ q ∷ []) end
    ∙ sym (ap ends_of (take_more list i entry inside ∙ ap (λ (e : Entry). take i list ++ e ∷ []) (sym is)) ∙ map-append (λ (e : Entry). e.end) (take i list) (entry ∷ [])))))
