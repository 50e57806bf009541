-- The steps that are written for a legal play are those of a legal play by the dice of its steps, with the same end.
use Rattle.std.proofs.Common.{◌≡◌, ◌≢◌, ◌≤◌, ◌<◌, ◌+◌, ◌-◌, ◌↔◌, ◌⊎◌, IsTrue, ℕ, zero, suc, Bool, true, false, cond, eqb, List, [], ◌∷◌, length, replicate, map, sum, get_or, Some, inl, inr, refl, sym, ap, subst, ◌∙◌, arith}
use Rattle.std.proofs.lemmas.Bool.{cases_lt, cases_eq}
use Rattle.std.proofs.lemmas.Bool.Decides.{nat_tests}
use Rattle.std.proofs.lemmas.List.Elements.{All-cons, All-nil}
use Rattle.std.specs.List.{All, Contains, slice_get, remove}
use Rattle.position_rank.specs.Placement.{Placement, moved, above, hit}
use Rattle.roll_table.specs.Rolls.{Dice, IsRoll, dice_of}
use Rattle.move_rules.specs.declared.play.Move.{Move}
use Rattle.move_rules.specs.declared.written.Step.{Step}
use Rattle.move_rules.specs.Moves.{MayLeave, BearsOff, IsMove}
use Rattle.move_rules.specs.Sequences.{IsSequence, CanPlay, IsLegal}
use Rattle.move_rules.specs.Written.{AreStepsOf, IsDieOf, IsHit, IsStep, IsWritten}
use Rattle.move_rules.proofs.EndsExact.{same_dice}
use Rattle.move_rules.proofs.FaultLaws.{Contains-got}
use Rattle.move_rules.proofs.CountsAbove.{from_on, parts-off, above-at, fewer-above, highest-in-play, above-is, off-now, sum-now, above-now}
use Rattle.move_rules.proofs.WrittenLaws.{board-after, written-sequence}

-- ---- dice that are all the same

each-same : (P : ℕ → Type 0) (n d : ℕ) → P d → All P (replicate n d)
each-same P zero d h = All-nil P
each-same P (suc n) d h = All-cons P d (replicate n d) h (each-same P n d h)

-- the die that moved is the die of the step
same-die : (n d i : ℕ) (p : Placement) (step : Step) (m : Move) → slice_get (replicate n d) i ≡ Some m.die → step.from ≡ m.from → step.to ≡ m.from - m.die → IsDieOf p (replicate n d) step m.die
same-die n d i p step m e from to = elim (cases_lt m.die m.from) [
  | inl runs ↦ inl (omega arith, omega arith)
  | inr off ↦ (
      let is : m.die ≡ d = (same_dice n d i m.die e).2 in
      let here = Contains-got (replicate n d) i m.die e in
      elim (cases_eq (get_or p.mover 0 0 + 1) (sum p.mover)) [
        | inl last ↦ inr (inl (omega arith, last, (here, omega arith, each-same (λ (other : ℕ). other ≤ m.die) n d (omega (arith, is)))))
        | inr more ↦ inr (inr (omega arith, more, (here, omega arith, each-same (λ (other : ℕ). step.from ≤ other → m.die ≤ other) n d (λ long. omega (arith, is)))))
      ])
]

step-for : (p : Placement) (dice : List ℕ) (step : Step) (m : Move) (i : ℕ) (next : Placement) → step.from ≡ m.from → (IsTrue step.hit ↔ IsHit p m) → IsDieOf p dice step m.die → slice_get dice i ≡ Some m.die → IsMove p m.die m.from next → IsStep p dice step m i next
step-for p dice step m i next from hit die e move = record { from = sym from; die = die; left = e; made = move; mark = hit }

written-same : (n d : ℕ) (p : Placement) (steps : List Step) (moves : List Move) (q : Placement) → IsSequence p (replicate n d) moves q → AreStepsOf p moves steps → IsWritten p (replicate n d) steps moves q
written-same n d p [] [] q s a = s
written-same n d p [] (m ∷ moves) q s a = absurd a
written-same n d p (step ∷ steps) [] q s a = absurd a
written-same n d p (step ∷ steps) (m ∷ moves) q (i, e, next, move, rest) (is, later) =
    let r = same_dice n d i m.die e in
    let on : AreStepsOf next moves steps = subst (λ (x : Placement). AreStepsOf x moves steps) (board-after p m next move) later in
    let tail : IsWritten next (replicate r.0 d) steps moves q = written-same r.0 d next steps moves q (subst (λ (xs : List ℕ). IsSequence next xs moves q) r.3 rest) on in
    (i, next, step-for p (replicate n d) step m i next is.from is.mark (same-die n d i p step m e is.from is.to) e move, subst (λ (xs : List ℕ). IsWritten next xs steps moves q) (sym r.3) tail)

-- ---- two unequal dice

-- the steps are written for these moves, which are those that were made or two
record Told (p : Placement) (dice : List ℕ) (steps : List Step) (moves : List Move) (q : Placement) : Type 0 where
  others : List Move
  written : IsWritten p dice steps others q
  as_many : length others ≡ length moves
  alone : length moves ≡ 1 → others ≡ moves

each-of-two : (P : ℕ → Type 0) (a b : ℕ) → P a → P b → All P (a ∷ b ∷ [])
each-of-two P a b h k = All-cons P a (b ∷ []) h (All-cons P b [] k (All-nil P))

-- what the rest of the proof knows of a roll and of the moves that were made
record Played (p : Placement) (high low : ℕ) (moves : List Move) : Type 0 where
  unequal : low < high
  small : high ≤ 6
  longest : (others : List Move) (end : Placement) → IsSequence p (high ∷ low ∷ []) others end → length others ≤ length moves
  higher : length moves ≡ 1 → CanPlay p high → map (λ (move : Move). move.die) moves ≡ high ∷ []

off-by : (p : Placement) (die other from : ℕ) (q : Placement) → BearsOff p die from q → from ≤ other → above p.mover from ≡ 0 → BearsOff p other from q
off-by p die other from q off long none = record { leaves = off.leaves; reaches = long; home = off.home; highest = inr none; after = off.after }

one-head : (x y : ℕ) → x ∷ [] ≡ y ∷ [] → x ≡ y
one-head x y e = cc

-- where a last checker goes off, nothing goes on, and it goes off by the higher die
last-off : (p : Placement) (high low i : ℕ) (m : Move) (moves : List Move) (q : Placement) (next : Placement)
    → Played p high low (m ∷ moves) → m.die ≡ low → BearsOff p m.die m.from next → get_or p.mover 0 0 + 1 ≡ sum p.mover → IsSequence next (high ∷ []) moves q → ⊥
last-off p high low i m (n ∷ moves) q next played is off last (j, e, after, move, rest) =
    let held : 0 < get_or next.mover n.from 0 = (leaves move).checker in
    let place : 1 ≤ n.from = (leaves move).place in
    let mover : next.mover ≡ moved p.mover m.from 0 = ap (λ (x : Placement). x.mover) off.after in
    let zero_now : get_or next.mover 0 0 ≡ get_or p.mover 0 0 + 1 = ap (λ (xs : List ℕ). get_or xs 0 0) mover ∙ off-now p.mover m.from off.leaves.place off.leaves.checker in
    let all : sum next.mover ≡ sum p.mover = ap sum mover ∙ sum-now p.mover m.from off.leaves.checker in
    omega (arith, parts-off next.mover n.from place, held, zero_now, all, last) where
      leaves : IsMove next n.die n.from after → MayLeave next n.from
      leaves (inl runs) = runs.leaves
      leaves (inr off) = off.leaves
last-off p high low i m [] q next played is off last s =
    let none : above p.mover m.from ≡ 0 = above-is p.mover m.from ∙ omega (arith, parts-off p.mover m.from off.leaves.place, off.leaves.checker, last) in
    let less = played.unequal in
    let reaches = off.reaches in
    let by_high : IsMove p high m.from next = inr (off-by p m.die high m.from next off (omega arith) none) in
    let same : m.die ≡ high = one-head m.die high (played.higher refl (m.from, next, by_high)) in
    omega arith

-- a checker that goes off is told by its step's die, unless it went by the higher die and the lower would have done
decide : (p : Placement) (high low : ℕ) (step : Step) (m : Move) → low < high → step.from ≡ m.from → step.to ≡ m.from - m.die → m.from ≤ m.die → (m.die ≡ high) ⊎ (m.die ≡ low) → (get_or p.mover 0 0 + 1 ≡ sum p.mover → m.die ≡ high)
    → IsDieOf p (high ∷ low ∷ []) step m.die ⊎ ((m.die ≡ high) × (m.from ≤ low) × (get_or p.mover 0 0 + 1 ≢ sum p.mover))
decide p high low step m less from to off either top = elim (cases_eq (get_or p.mover 0 0 + 1) (sum p.mover)) [
  | inl last ↦ (
      let is = top last in
      let most = each-of-two (λ (other : ℕ). other ≤ m.die) high low (omega (arith, is)) (omega (arith, is)) in
      inl (inr (inl (omega arith, last, (subst (λ (n : ℕ). Contains (high ∷ low ∷ []) n) (sym is) (Contains-got (high ∷ low ∷ []) 0 high refl), omega arith, most)))))
  | inr more ↦ elim (cases_lt low m.from) [
    | inl over ↦ (
        let is : m.die ≡ high = by_high over either in
        let least = each-of-two (λ (other : ℕ). step.from ≤ other → m.die ≤ other) high low (λ long. omega (arith, is)) (λ long. absurd (omega (arith, long))) in
        inl (inr (inr (omega arith, more, (subst (λ (n : ℕ). Contains (high ∷ low ∷ []) n) (sym is) (Contains-got (high ∷ low ∷ []) 0 high refl), omega arith, least)))))
    | inr within ↦ elim either [
      | inl is ↦ inr (is, within, more)
      | inr is ↦ (
          let least = each-of-two (λ (other : ℕ). step.from ≤ other → m.die ≤ other) high low (λ long. omega (arith, is)) (λ long. omega (arith, is)) in
          inl (inr (inr (omega arith, more, (subst (λ (n : ℕ). Contains (high ∷ low ∷ []) n) (sym is) (Contains-got (high ∷ low ∷ []) 1 low refl), omega arith, least)))))
    ]
  ]
] where
  by_high : low < m.from → (m.die ≡ high) ⊎ (m.die ≡ low) → m.die ≡ high
  by_high over (inl is) = is
  by_high over (inr is) = absurd (omega (arith, is))

less-than : (a b : ℕ) → a ≤ b → a ≢ b → a < b
less-than a b h apart = elim (cases_lt a b) [ inl less ↦ less | inr more ↦ absurd (apart (omega arith)) ]

-- a checker went off from a place above which there are none, and others are left
record WentOff (p : Placement) (from : ℕ) (next : Placement) : Type 0 where
  none_before : above p.mover from ≡ 0
  none : from_on (suc from) next.mover ≡ 0
  home : above next.mover 6 ≡ 0
  some : get_or next.mover 0 0 < sum next.mover

went-off : (p : Placement) (high low : ℕ) (m : Move) (next : Placement) → low < high → m.die ≡ high → m.from ≤ low → (get_or p.mover 0 0 + 1 ≢ sum p.mover) → BearsOff p m.die m.from next → WentOff p m.from next
went-off p high low m next less is within more off =
    let mover : next.mover ≡ moved p.mover m.from 0 = ap (λ (x : Placement). x.mover) off.after in
    let none_before : above p.mover m.from ≡ 0 = free off.highest in
    let zero_now : get_or next.mover 0 0 ≡ get_or p.mover 0 0 + 1 = ap (λ (xs : List ℕ). get_or xs 0 0) mover ∙ off-now p.mover m.from off.leaves.place off.leaves.checker in
    let all : sum next.mover ≡ sum p.mover = ap sum mover ∙ sum-now p.mover m.from off.leaves.checker in
    let room : get_or p.mover 0 0 + 1 < sum p.mover = less-than _ _ (omega (arith, parts-off p.mover m.from off.leaves.place, off.leaves.checker)) more in
    let above_from : above next.mover m.from ≡ above (moved p.mover m.from 0) m.from = ap (λ (xs : List ℕ). above xs m.from) mover in
    let above_six : above next.mover 6 ≡ above (moved p.mover m.from 0) 6 = ap (λ (xs : List ℕ). above xs 6) mover in
    record {
      none_before = none_before;
      none = sym (above-is next.mover m.from) ∙ omega (arith, above_from, above-now p.mover m.from m.from, none_before);
      home = omega (arith, above_six, above-now p.mover m.from 6, off.home);
      some = omega (arith, zero_now, all, room);
    } where
      free : (m.from ≡ m.die) ⊎ (above p.mover m.from ≡ 0) → above p.mover m.from ≡ 0
      free (inl e) = absurd (omega arith)
      free (inr e) = e

-- then a second checker can go off by the lower die
second-off : (p : Placement) (low : ℕ) (from : ℕ) (next : Placement) → from ≤ low → low ≤ 6 → WentOff p from next → (f : ℕ) × (q : Placement) × IsMove next low f q
second-off p low from next within small went =
    let r = highest-in-play next.mover went.some in
    let f = r.0 in
    let held = r.2 in
    let under : f ≤ from = elim (cases_lt from f) [ inl over ↦ absurd (omega (arith, above-at next.mover from f over, went.none, held)) | inr low_enough ↦ low_enough ] in
    let bar : get_or next.mover 25 0 ≡ 0 = omega (arith, above-at next.mover from 25 (omega arith), went.none) in
    let off : BearsOff next low f (record { mover = moved next.mover f 0; other = next.other }) = record {
      leaves = record { place = r.1; within = omega (arith, under); checker = held; bar_first = inr bar };
      reaches = omega (arith, under);
      home = went.home;
      highest = inr (above-is next.mover f ∙ r.3);
      after = refl;
    } in
    (f, _, inr off)

-- two checkers that went off, the first by the higher die, are told the other way round
swap-dice : (p : Placement) (high low : ℕ) (step : Step) (steps : List Step) (m : Move) (moves : List Move) (next q : Placement)
    → Played p high low (m ∷ moves) → m.die ≡ high → m.from ≤ low → (get_or p.mover 0 0 + 1 ≢ sum p.mover) → BearsOff p m.die m.from next
    → step.from ≡ m.from → step.to ≡ m.from - m.die → (IsTrue step.hit ↔ IsHit p m) → IsSequence next (low ∷ []) moves q → AreStepsOf next moves steps
    → Told p (high ∷ low ∷ []) (step ∷ steps) (m ∷ moves) q
swap-dice p high low step steps m [] next q played is within more off from to hit s on =
    let less = played.unequal in
    let small = played.small in
    let second = second-off p low m.from next within (omega arith) (went-off p high low m next less is within more off) in
    let long = played.longest (m ∷ record { from = second.0; die = low } ∷ []) second.1 (0, ap Some (sym is), next, inr off, (0, refl, second.1, second.2, refl)) in
    absurd (omega (arith, long))
swap-dice p high low step [] m (n ∷ moves) next q played is within more off from to hit s on = absurd on
swap-dice p high low step (step2 ∷ steps) m (n ∷ moves) next q played is within more off from to hit (suc j, e, after, move, rest) on = absurd (grind arith)
swap-dice p high low step (step2 ∷ steps) m (n ∷ o ∷ moves) next q played is within more off from to hit (zero, e, after, move, (k, e3, last, made, third)) on = absurd (grind arith)
swap-dice p high low step (step2 ∷ step3 ∷ steps) m (n ∷ []) next q played is within more off from to hit (zero, e, after, move, rest) (is2, on) = absurd on
swap-dice p high low step (step2 ∷ []) m (n ∷ []) next q played is within more off from to hit (zero, e, after, inl runs, rest) (is2, on) =
    let less = played.unequal in
    let went = went-off p high low m next less is within more off in
    let by_low : n.die ≡ low = grind arith in
    let over : m.from < n.from = (let on_board = runs.on_board in omega arith) in
    absurd (omega (arith, above-at next.mover m.from n.from over, went.none, runs.leaves.checker))
swap-dice p high low step (step2 ∷ []) m (n ∷ []) next q played is within more off from to hit (zero, e, after, inr off2, rest) (is2, on) =
    let less = played.unequal in
    let went = went-off p high low m next less is within more off in
    let by_low : n.die ≡ low = grind arith in
    let reaches = off2.reaches in
    let least = each-of-two (λ (other : ℕ). step.from ≤ other → low ≤ other) high low (λ long. omega arith) (λ long. omega arith) in
    let die : IsDieOf p (high ∷ low ∷ []) step low = inr (inr (omega arith, more, (Contains-got (high ∷ low ∷ []) 1 low refl, omega arith, least))) in
    let move1 : IsMove p low m.from next = inr (off-by p m.die low m.from next off within went.none_before) in
    let first : IsStep p (high ∷ low ∷ []) step (record { from = m.from; die = low }) 1 next =
    step-for p (high ∷ low ∷ []) step (record { from = m.from; die = low }) 1 next from (λ t. (let h = (hit.0 t).0 in absurd (omega (arith, h))), λ h. (let on_board = h.0 in absurd (omega (arith, on_board)))) die refl move1 in
    let none : above next.mover n.from ≡ 0 = free off2.highest went.none by_low in
    let move2 : IsMove next high n.from after = inr (off-by next n.die high n.from after off2 (omega arith) none) in
    let second : IsStep next (high ∷ []) step2 (record { from = n.from; die = high }) 0 after =
    step-for next (high ∷ []) step2 (record { from = n.from; die = high }) 0 after is2.from (λ t. (let h = (is2.mark.0 t).0 in absurd (omega (arith, h))), λ h. (let on_board = h.0 in absurd (omega (arith, on_board)))) (same-die 1 high 0 next step2 (record { from = n.from; die = high }) refl is2.from (omega arith)) refl move2 in
    record {
      others = record { from = m.from; die = low } ∷ record { from = n.from; die = high } ∷ [];
      written = (1, next, first, (0, after, second, rest));
      as_many = refl;
      alone = λ one. absurd (omega (arith, one));
    } where
      free : (n.from ≡ n.die) ⊎ (above next.mover n.from ≡ 0) → from_on (suc m.from) next.mover ≡ 0 → n.die ≡ low → above next.mover n.from ≡ 0
      free (inr h) none by_low = h
      free (inl h) none by_low = above-is next.mover n.from ∙ omega (arith, fewer-above next.mover (suc m.from) (suc n.from) (omega arith), none)

-- the moves that were made are those for which the steps are written
kept : (p : Placement) (high low i : ℕ) (left : ℕ) (step : Step) (steps : List Step) (m : Move) (moves : List Move) (next q : Placement)
    → slice_get (high ∷ low ∷ []) i ≡ Some m.die → remove (high ∷ low ∷ []) i ≡ left ∷ [] → IsMove p m.die m.from next → step.from ≡ m.from → (IsTrue step.hit ↔ IsHit p m) → IsDieOf p (high ∷ low ∷ []) step m.die
    → IsSequence next (left ∷ []) moves q → AreStepsOf next moves steps → Told p (high ∷ low ∷ []) (step ∷ steps) (m ∷ moves) q
kept p high low i left step steps m moves next q e same move from hit die s on = record {
  others = m ∷ moves;
  written = (i, next, step-for p (high ∷ low ∷ []) step m i next from hit die e move, subst (λ (xs : List ℕ). IsWritten next xs steps moves q) (sym same) (written-same 1 left next steps moves q s on));
  as_many = refl;
  alone = λ _. refl;
}

by-high : (p : Placement) (high low : ℕ) (step : Step) (steps : List Step) (m : Move) (moves : List Move) (next q : Placement)
    → Played p high low (m ∷ moves) → slice_get (high ∷ low ∷ []) 0 ≡ Some m.die → IsMove p m.die m.from next → step.from ≡ m.from → step.to ≡ m.from - m.die → (IsTrue step.hit ↔ IsHit p m)
    → IsSequence next (low ∷ []) moves q → AreStepsOf next moves steps → Told p (high ∷ low ∷ []) (step ∷ steps) (m ∷ moves) q
by-high p high low step steps m moves next q played e (inl runs) from to hit s on =
    let on_board = runs.on_board in kept p high low 0 low step steps m moves next q e refl (inl runs) from hit (inl (omega arith, omega arith)) s on
by-high p high low step steps m moves next q played e (inr off) from to hit s on =
    let is : m.die ≡ high = grind arith in
    elim (decide p high low step m played.unequal from to off.reaches (inl is) (λ _. is)) [
      | inl die ↦ kept p high low 0 low step steps m moves next q e refl (inr off) from hit die s on
      | inr told ↦ swap-dice p high low step steps m moves next q played is told.1 told.2 off from to hit s on
    ]

by-low : (p : Placement) (high low : ℕ) (step : Step) (steps : List Step) (m : Move) (moves : List Move) (next q : Placement)
    → Played p high low (m ∷ moves) → slice_get (high ∷ low ∷ []) 1 ≡ Some m.die → IsMove p m.die m.from next → step.from ≡ m.from → step.to ≡ m.from - m.die → (IsTrue step.hit ↔ IsHit p m)
    → IsSequence next (high ∷ []) moves q → AreStepsOf next moves steps → Told p (high ∷ low ∷ []) (step ∷ steps) (m ∷ moves) q
by-low p high low step steps m moves next q played e (inl runs) from to hit s on =
    let on_board = runs.on_board in kept p high low 1 high step steps m moves next q e refl (inl runs) from hit (inl (omega arith, omega arith)) s on
by-low p high low step steps m moves next q played e (inr off) from to hit s on =
    let is : m.die ≡ low = grind arith in
    elim (decide p high low step m played.unequal from to off.reaches (inr is) (λ last. absurd (last-off p high low 1 m moves q next played is off last s))) [
      | inl die ↦ kept p high low 1 high step steps m moves next q e refl (inr off) from hit die s on
      | inr told ↦ (let less = played.unequal in let high_too = told.0 in absurd (omega arith))
    ]

told : (p : Placement) (high low : ℕ) (steps : List Step) (moves : List Move) (q : Placement) → Played p high low moves → IsSequence p (high ∷ low ∷ []) moves q → AreStepsOf p moves steps → Told p (high ∷ low ∷ []) steps moves q
told p high low [] [] q played s a = record { others = []; written = s; as_many = refl; alone = λ _. refl }
told p high low [] (m ∷ moves) q played s a = absurd a
told p high low (step ∷ steps) [] q played s a = absurd a
told p high low (step ∷ steps) (m ∷ moves) q played (zero, e, next, move, rest) (is, later) =
    by-high p high low step steps m moves next q played e move is.from is.to is.mark rest (subst (λ (x : Placement). AreStepsOf x moves steps) (board-after p m next move) later)
told p high low (step ∷ steps) (m ∷ moves) q played (suc zero, e, next, move, rest) (is, later) =
    by-low p high low step steps m moves next q played e move is.from is.to is.mark rest (subst (λ (x : Placement). AreStepsOf x moves steps) (board-after p m next move) later)
told p high low (step ∷ steps) (m ∷ moves) q played (suc (suc i), e, next, move, rest) a = absurd (grind arith)

-- ---- any roll

same-dies : (moves others : List Move) → moves ≡ others → map (λ (move : Move). move.die) moves ≡ map (λ (move : Move). move.die) others
same-dies moves others e = ap (λ (xs : List Move). map (λ (move : Move). move.die) xs) e

-- what match_play takes: steps by whose dice they make a legal play
abbrev pub IsTakenAs : Placement → Dice → List Step → Placement → Type 0
IsTakenAs p roll steps q = (others : List Move) × IsWritten p (dice_of roll) steps others q × IsLegal p roll others q

-- the steps of a legal sequence are taken as a legal sequence to the same end
pub written-legal : (p : Placement) (roll : Dice) (moves : List Move) (q : Placement) (steps : List Step) → IsRoll roll → IsLegal p roll moves q → AreStepsOf p moves steps → IsTakenAs p roll steps q
written-legal p roll moves q steps right legal a =
    let r = by (eqb roll.high roll.low) refl legal.sequence legal.longest in
    let as_many = r.2 in (
      r.0,
      r.1,
      record {
        sequence = written-sequence p (dice_of roll) steps r.0 q r.1;
        longest = λ others end s. omega (arith, legal.longest others end s, as_many);
        higher = λ one apart can. same-dies r.0 moves (r.3 (sym as_many ∙ one)) ∙ legal.higher (sym as_many ∙ one) apart can;
      },
    ) where
      dice : Bool → List ℕ
      dice b = cond b (roll.high ∷ roll.high ∷ roll.high ∷ roll.high ∷ []) (roll.high ∷ roll.low ∷ [])

      by : (b : Bool) → eqb roll.high roll.low ≡ b → IsSequence p (dice b) moves q → ((others : List Move) (end : Placement) → IsSequence p (dice b) others end → length others ≤ length moves)
          → (others : List Move) × IsWritten p (dice b) steps others q × (length others ≡ length moves) × (length moves ≡ 1 → others ≡ moves)
      by true e s longest = (moves, written-same 4 roll.high p steps moves q s a, refl, λ _. refl)
      by false e s longest =
          let order = right.in_order in
          let apart : roll.high ≢ roll.low = λ same. absurd (grind (arith, nat_tests)) in
          let r = told p roll.high roll.low steps moves q (record { unequal = less-than roll.low roll.high order (λ same. apart (sym same)); small = right.to; longest = longest; higher = λ one can. legal.higher one apart can }) s a in
          (r.others, r.written, r.as_many, r.alone)
