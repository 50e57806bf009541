-- The first play of a game leaves the mover's checkers in play.
use Rattle.std.proofs.Common.{◌≡◌, ◌≤◌, ◌<◌, ◌+◌, ◌-◌, ◌&&◌, ℕ, zero, suc, Bool, true, false, nat_le, nat_lt, cond, eqb, List, [], ◌∷◌, sum, get_or, inl, inr, refl, ap, subst, ◌∙◌, arith}
use Rattle.std.proofs.lemmas.Bool.{cases_lt}
use Rattle.std.proofs.lemmas.Bool.Decides.{nat_tests}
use Rattle.std.proofs.lemmas.List.Sums.{AllPass-from_list_all}
use Rattle.std.specs.List.{Contains, list_all}
use Rattle.position_rank.specs.Packed.{start_placement}
use Rattle.position_rank.specs.Placement.{Placement, IsPosition, IsLive, swap}
use Rattle.position_rank.proofs.StartLive.{start-live, start-position, start-sum, start-far}
use Rattle.roll_table.specs.Rolls.{Dice, IsRoll, all_rolls, opening_rolls}
use Rattle.move_rules.specs.declared.play.Move.{Move}
use Rattle.move_rules.specs.Moves.{IsMove}
use Rattle.move_rules.specs.Sequences.{IsSequence, IsLegalEnd}
use Rattle.move_rules.proofs.CountsAbove.{above-at, above-is}
use Rattle.move_rules.proofs.StayLive.{get_or-moved_other, legal_end-stays}

-- no checker stands on this place or below
abbrev NoneUpTo : ℕ → List ℕ → Type 0
NoneUpTo k counts = (place : ℕ) → place ≤ k → get_or counts place 0 ≡ 0

far-move : (p : Placement) (die from k : ℕ) (next : Placement) → die ≤ 6 → NoneUpTo (k + 6) p.mover → IsMove p die from next → NoneUpTo k next.mover
far-move p die from k next small none (inl runs) place low =
    let held = runs.leaves.checker in
    let over : k + 6 < from = elim (cases_lt (k + 6) from) [ inl far ↦ far | inr near ↦ absurd (omega (arith, none from near, held)) ] in
    ap (λ (x : Placement). get_or x.mover place 0) runs.after ∙ (get_or-moved_other p.mover from (from - die) place (λ e. omega arith) (λ e. omega arith) ∙ none place (omega arith))
far-move p die from k next small none (inr off) place low =
    let held = off.leaves.checker in
    let over : k + 6 < from = elim (cases_lt (k + 6) from) [ inl far ↦ far | inr near ↦ absurd (omega (arith, none from near, held)) ] in
    let many = above-at p.mover 6 from (omega arith) in
    let home = off.home in
    absurd (omega (arith, many, home, above-is p.mover 6, held))

far-one : (p : Placement) (die : ℕ) (moves : List Move) (q : Placement) (k : ℕ) → die ≤ 6 → NoneUpTo (k + 6) p.mover → IsSequence p (die ∷ []) moves q → NoneUpTo k q.mover
far-one p die [] q k small none s = λ place low. ap (λ (x : Placement). get_or x.mover place 0) s ∙ none place (omega arith)
far-one p die (m ∷ []) q k small none (zero, e, next, move, rest) =
    let is : m.die ≡ die = grind arith in
    λ place low. ap (λ (x : Placement). get_or x.mover place 0) rest ∙ far-move p m.die m.from k next (omega (arith, is)) none move place low
far-one p die (m ∷ n ∷ moves) q k small none (zero, e, next, move, (i, e2, after, move2, rest)) = absurd (grind arith)
far-one p die (m ∷ moves) q k small none (suc i, e, next, move, rest) = absurd (grind arith)

far-two : (p : Placement) (a b : ℕ) (moves : List Move) (q : Placement) (k : ℕ) → a ≤ 6 → b ≤ 6 → NoneUpTo (k + 6 + 6) p.mover → IsSequence p (a ∷ b ∷ []) moves q → NoneUpTo k q.mover
far-two p a b [] q k small also none s = λ place low. ap (λ (x : Placement). get_or x.mover place 0) s ∙ none place (omega arith)
far-two p a b (m ∷ moves) q k small also none (zero, e, next, move, rest) =
    let is : m.die ≡ a = grind arith in
    far-one next b moves q k also (far-move p m.die m.from (k + 6) next (omega (arith, is)) none move) rest
far-two p a b (m ∷ moves) q k small also none (suc zero, e, next, move, rest) =
    let is : m.die ≡ b = grind arith in
    far-one next a moves q k small (far-move p m.die m.from (k + 6) next (omega (arith, is)) none move) rest
far-two p a b (m ∷ moves) q k small also none (suc (suc i), e, next, move, rest) = absurd (grind arith)

-- ---- the opening rolls

is_opening : Dice → Bool
is_opening roll = nat_le 1 roll.low && (nat_lt roll.low roll.high && nat_le roll.high 6)

all-openings : list_all is_opening opening_rolls ≡ true
unfolding all_rolls opening_rolls is_opening
all-openings = refl

record Opens (roll : Dice) : Type 0 where
  valid : IsRoll roll
  unequal : roll.low < roll.high

opens-told : (high low : ℕ) → (nat_le 1 low && (nat_lt low high && nat_le high 6)) ≡ true → (1 ≤ low) × (low < high) × (high ≤ 6)
opens-told high low e = (grind (arith, nat_tests), grind (arith, nat_tests), grind (arith, nat_tests))

opens : (roll : Dice) → Contains opening_rolls roll → Opens roll
unfolding is_opening
opens roll (k, low, e) =
    let all = AllPass-from_list_all is_opening opening_rolls all-openings k roll low in
    let told = opens-told roll.high roll.low (subst (λ (x : Dice). is_opening x ≡ true) e all) in
    record { valid = record { from = told.0; in_order = omega (arith, told.1); to = told.2 }; unequal = told.1 }

pub opening-goes-on : (checkers : ℕ) (roll : Dice) (q : Placement) → 1 ≤ checkers → checkers ≤ 3 → Contains opening_rolls roll → IsLegalEnd (start_placement checkers) roll q → IsPosition q × IsLive (swap q)
opening-goes-on checkers roll q low high listed (moves, legal) =
    let start = start_placement checkers in
    let o = opens roll listed in
    let stays = legal_end-stays start roll q o.valid (start-position checkers low high) (start-live checkers low high) (moves, legal) in
    let less = o.unequal in
    let small = o.valid.to in
    let off : get_or q.mover 0 0 ≡ 0 = by (eqb roll.high roll.low) refl legal.sequence in
    let some : 1 ≤ sum q.mover = omega (arith, stays.1, start-sum checkers high) in
    (stays.0, stays.2 (λ e. omega (arith, e, off, some))) where
      by : (b : Bool) → eqb roll.high roll.low ≡ b → IsSequence (start_placement checkers) (cond b (roll.high ∷ roll.high ∷ roll.high ∷ roll.high ∷ []) (roll.high ∷ roll.low ∷ [])) moves q → get_or q.mover 0 0 ≡ 0
      by true e s = (let less = (opens roll listed).unequal in absurd (grind (arith, nat_tests)))
      by false e s =
          let o = opens roll listed in
          let small = o.valid.to in
          let less = o.unequal in
          far-two (start_placement checkers) roll.high roll.low moves q 9 (omega arith) (omega arith) (λ place under. start-far checkers high place (omega arith)) s 0 (omega arith)
