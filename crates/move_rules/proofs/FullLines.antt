-- The lines that use all of some dice in their order are the sequences that do, in their order.
use Rattle.std.proofs.Common.{◌≡◌, ℕ, List, [], ◌∷◌, ◌++◌, map, Option, Some, None, inl, inr, refl, ap, subst, sym, ◌∙◌, append_assoc}
use Rattle.std.proofs.lemmas.List.{append-nil}
use Rattle.std.specs.List.{slice_get, remove}
use Rattle.std.specs.Option.{option_to_list}
use Rattle.position_rank.specs.Placement.{Placement}
use Rattle.move_rules.specs.Moves.{IsMove}
use Rattle.move_rules.specs.Sequences.{IsSequence}
use Rattle.move_rules.specs.Ends.{Line, after_move, places}
use Rattle.move_rules.specs.Listing.{full, full_from, Among}
use Rattle.move_rules.specs.Order.{PlayComesBefore}
use Rattle.move_rules.specs.declared.play.Move.{Move}
use Rattle.move_rules.proofs.Members.{Among-flat_map, flat_map-cases}
use Rattle.move_rules.proofs.EndsExact.{after_move-sound, after_move-complete, of_places, to_places, of_option, leaves_from}
use Rattle.move_rules.proofs.LinesAdded.{full_from-none, full_from-some}
use Rattle.move_rules.proofs.EarlierAndLater.{Pairs, Pairs-down}

-- these moves lead from p to q
abbrev pub IsPlayed : Placement → List Move → Placement → Type 0
IsPlayed p [] q = q ≡ p
IsPlayed p (move ∷ moves) q = (next : Placement) × IsMove p move.die move.from next × IsPlayed next moves q

abbrev pub dice_used : List Move → List ℕ
dice_used moves = map (λ (move : Move). move.die) moves

-- these dice are drawn from those, in this order
abbrev pub IsDraw : List ℕ → List ℕ → Type 0
IsDraw dice [] = Unit {0}
IsDraw dice (die ∷ drawn) = (i : ℕ) × (slice_get dice i ≡ Some die) × IsDraw (remove dice i) drawn

pub sequence-played : (p : Placement) (dice : List ℕ) (moves : List Move) (q : Placement) → IsSequence p dice moves q → IsPlayed p moves q × IsDraw dice (dice_used moves)
sequence-played p dice [] q e = (e, tt)
sequence-played p dice (move ∷ moves) q (i, e, next, made, rest) =
    let r = sequence-played next (remove dice i) moves q rest in
    ((next, made, r.0), (i, e, r.1))

pub played-sequence : (p : Placement) (dice : List ℕ) (moves : List Move) (q : Placement) → IsPlayed p moves q → IsDraw dice (dice_used moves) → IsSequence p dice moves q
played-sequence p dice [] q e draw = e
played-sequence p dice (move ∷ moves) q (next, made, rest) (i, e, draw) = (i, e, next, made, played-sequence next (remove dice i) moves q rest draw)

-- ---- all of them and no others

-- a line that goes on from here after these moves
pub record GoesOn (p : Placement) (moves : List Move) (dice : List ℕ) (line : Line) : Type 0 where
  pub rest : List Move
  pub is : line.0 ≡ moves ++ rest
  pub used : dice_used rest ≡ dice
  pub played : IsPlayed p rest line.1

pub full-sound : (dice : List ℕ) (moves : List Move) (p : Placement) (line : Line) → Among line (full dice moves p) → GoesOn p moves dice line
unfolding full full_from
full-sound [] moves p line (inl e) = record { rest = []; is = ap (λ (l : Line). l.0) e ∙ sym (append-nil moves); used = refl; played = ap (λ (l : Line). l.1) e }
full-sound [] moves p line (inr h) = absurd h
full-sound (die ∷ dice) moves p line h =
    let a = flat_map-cases (full_from (full dice) moves p die) line places h in
    let move : Move = record { from = a.0; die = die } in
    let b = flat_map-cases (full dice (moves ++ move ∷ [])) line (option_to_list (after_move p die a.0)) a.2 in
    let within = of_places a.0 a.1 in
    let made = after_move-sound p die a.0 b.0 within.0 within.1 (of_option b.0 (after_move p die a.0) b.1) in
    let r = full-sound dice (moves ++ move ∷ []) b.0 line b.2 in
    record { rest = move ∷ r.rest; is = r.is ∙ append_assoc moves (move ∷ []) r.rest; used = ap (λ (x : List ℕ). die ∷ x) r.used; played = (b.0, made, r.played) }

pub full-complete : (rest moves : List Move) (p q : Placement) → IsPlayed p rest q → Among (moves ++ rest, q) (full (dice_used rest) moves p)
unfolding full full_from
full-complete [] moves p q e = inl (rw (append-nil moves) (ap (λ (r : Placement). (moves, r)) e))
full-complete (move ∷ rest) moves p q (next, made, later) =
    let within = leaves_from p move.die move.from next made in
    let h : Among (moves ++ move ∷ rest, q) (full (dice_used rest) (moves ++ move ∷ []) next) =
    subst (λ (x : List Move). Among (x, q) (full (dice_used rest) (moves ++ move ∷ []) next)) (append_assoc moves (move ∷ []) rest) (full-complete rest (moves ++ move ∷ []) next q later) in
    let here : Among next (option_to_list (after_move p move.die move.from)) = rw (after_move-complete p move.die move.from next made) (inl refl) in
    Among-flat_map (full_from (full (dice_used rest)) moves p move.die) move.from (moves ++ move ∷ rest, q) places (to_places move.from within.0 within.1)
    (Among-flat_map (full (dice_used rest) (moves ++ move ∷ [])) next (moves ++ move ∷ rest, q) (option_to_list (after_move p move.die move.from)) here h)

-- ---- in their order

abbrev pub Before : Line → Line → Type 0
Before line other = PlayComesBefore line.0 other.0

pub before-after : (moves one other : List Move) → PlayComesBefore one other → PlayComesBefore (moves ++ one) (moves ++ other)
before-after [] one other h = h
before-after (move ∷ moves) one other h = inr (inr (refl, before-after moves one other h))

full_from-begins : (dice : List ℕ) (moves : List Move) (p : Placement) (die from : ℕ) (line : Line) → Among line (full_from (full dice) moves p die from)
    → (rest : List Move) × (line.0 ≡ moves ++ record { from = from; die = die } ∷ rest)
unfolding full_from
full_from-begins dice moves p die from line h =
    let move : Move = record { from = from; die = die } in
    let b = flat_map-cases (full dice (moves ++ move ∷ [])) line (option_to_list (after_move p die from)) h in
    let r = full-sound dice (moves ++ move ∷ []) b.0 line b.2 in
    (r.rest, r.is ∙ append_assoc moves (move ∷ []) r.rest)

one-ordered : (later : List Move → Placement → List Line) (moves : List Move) (p : Placement) (die from : ℕ) (o : Option Placement) → after_move p die from ≡ o
    → ((now : List Move) (q : Placement) → Pairs Before (later now q)) → Pairs Before (full_from later moves p die from)
one-ordered later moves p die from None e each = subst (λ (x : List Line). Pairs Before x) (sym (full_from-none later moves p die from e)) tt
one-ordered later moves p die from (Some q) e each = subst (λ (x : List Line). Pairs Before x) (sym (full_from-some later moves p die from q e)) (each (moves ++ record { from = from; die = die } ∷ []) q)

pub full-ordered : (dice : List ℕ) (moves : List Move) (p : Placement) → Pairs Before (full dice moves p)
unfolding full places
full-ordered [] moves p = (λ y h. absurd h, tt)
full-ordered (die ∷ dice) moves p =
    Pairs-down Before (full_from (full dice) moves p die) 25
    (λ k. one-ordered (full dice) moves p die k (after_move p die k) refl (λ now q. full-ordered dice now q))
    (λ j k x y less i h.
    let a = full_from-begins dice moves p die k x i in
    let b = full_from-begins dice moves p die j y h in
    let first : PlayComesBefore (record { from = k; die = die } ∷ a.0) (record { from = j; die = die } ∷ b.0) = inr (inl (refl, less)) in
    subst (λ (m : List Move). PlayComesBefore m y.0) (sym a.1) (subst (λ (m : List Move). PlayComesBefore (moves ++ record { from = k; die = die } ∷ a.0) m) (sym b.1) (before-after moves _ _ first)))
