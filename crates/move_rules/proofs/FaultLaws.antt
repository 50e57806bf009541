-- Why a move or a play is refused.
use Rattle.std.proofs.Common.{◌≡◌, ◌≤◌, ◌<◌, ◌+◌, ◌-◌, ℕ, zero, suc, Bool, true, false, cond, eqb, List, [], ◌∷◌, length, map, take, drop, get_or, ◌⊎◌, ◌++◌, Option, Some, None, Result, inl, inr, refl, ap, subst, sym, ◌∙◌, arith, drop-cons, add-one}
use Rattle.std.proofs.lemmas.Bool.{cases_lt}
use Rattle.std.proofs.lemmas.List.Elements.{All-append, All-take, All-drop}
use Rattle.std.specs.Option.{ok_or}
use Rattle.std.specs.Result.{IfOk, IfErr}
use Rattle.std.specs.List.{slice_get, remove, Contains, All}
use Rattle.position_rank.specs.Placement.{Placement, above}
use Rattle.roll_table.specs.Rolls.{Dice, IsRoll, dice_of}
use Rattle.move_rules.specs.Moves.{IsMove, MayLeave}
use Rattle.move_rules.specs.Sequences.{IsSequence, CanPlay, IsLegal}
use Rattle.move_rules.specs.Ends.{Line, after_move}
use Rattle.move_rules.specs.Listing.{full, or_else, double_lines, pair_lines, Among}
use Rattle.move_rules.specs.Faults.{fault_order, HasFault, IsFirstFault, IsFirstWrong, IsWholeFault, DiffersBy, first_die}
use Rattle.move_rules.specs.Order.{ends_of}
use Rattle.move_rules.specs.declared.play.Entry.{Entry}
use Rattle.move_rules.specs.declared.play.Move.{Move}
use Rattle.move_rules.specs.declared.applied.BadPlay.{BadPlay}
use Rattle.move_rules.specs.declared.applied.BadPlay.TheVariants.{WrongDice, NoChecker, BarFirst, NotHome, Closed, HitMark, TooFew, HigherDie}
use Rattle.move_rules.proofs.EndsExact.{after_move-sound, after_move-complete}
use Rattle.move_rules.proofs.FirstLines.{IsPlays}
use Rattle.move_rules.proofs.EarlierAndLater.{Among-at}
use Rattle.move_rules.proofs.RollLines.{double-listing, pair-listing}

-- ---- one move

refused : (p : Placement) (die from : ℕ) (q : Placement) → after_move p die from ≡ None → IsMove p die from q → ⊥
refused p die from q none made = let some = after_move-complete p die from q made in let clash : None ≡ Some q = sym none ∙ some in cc

pub closed : (p : Placement) (move : Move) → 1 ≤ move.from → move.from ≤ 25 → 0 < get_or p.mover move.from 0 → (move.from ≡ 25) ⊎ (get_or p.mover 25 0 ≡ 0)
    → (move.from ≤ move.die → (above p.mover 6 ≡ 0) × ((move.from ≡ move.die) ⊎ (above p.mover move.from ≡ 0)))
    → after_move p move.die move.from ≡ None → (move.die < move.from) × (1 < get_or p.other (25 - (move.from - move.die)) 0)
closed p move low high held bar home none =
    let leaves : MayLeave p move.from = record { place = low; within = high; checker = held; bar_first = bar } in
    elim (cases_lt move.die move.from) [
      | inl less ↦ elim (cases_lt 1 (get_or p.other (25 - (move.from - move.die)) 0)) [
        | inl more ↦ (less, more)
        | inr few ↦ absurd (refused p move.die move.from _ none (inl (record { leaves = leaves; on_board = less; open_point = few; after = refl })))
      ]
      | inr reaches ↦ absurd (refused p move.die move.from _ none (inr (record { leaves = leaves; reaches = reaches; home = (home reaches).0; highest = (home reaches).1; after = refl })))
    ]

-- ---- the dice that are left

pub found-at : (dice : List ℕ) (i die : ℕ) → i < length dice → get_or dice i 0 ≡ die → slice_get dice i ≡ Some die
found-at [] i die h e = absurd (omega arith)
found-at (d ∷ dice) zero die h e = ap Some e
found-at (d ∷ dice) (suc i) die h e = found-at dice i die (omega arith) e

pub Contains-at : (dice : List ℕ) (i die : ℕ) → i < length dice → get_or dice i 0 ≡ die → Contains dice die
Contains-at [] i die h e = absurd (omega arith)
Contains-at (d ∷ dice) zero die h e = (0, omega arith, e)
Contains-at (d ∷ dice) (suc i) die h e = let r = Contains-at dice i die (omega arith) e in (suc r.0, omega (arith, r.1), r.2)

-- ---- a play of a roll can be made

or_else-some : (lines others : List Line) → (line : Line) × Among line others → (line : Line) × Among line (or_else lines others)
or_else-some [] others h = h
or_else-some (line ∷ lines) others h = (line, inl refl)

double-some : (p : Placement) (die : ℕ) → (line : Line) × Among line (double_lines p die)
unfolding double_lines full
double-some p die =
    let D : List Line = or_else (full (die ∷ []) [] p) (full [] [] p) in
    let C : List Line = or_else (full (die ∷ die ∷ []) [] p) D in
    let B : List Line = or_else (full (die ∷ die ∷ die ∷ []) [] p) C in
    or_else-some (full (die ∷ die ∷ die ∷ die ∷ []) [] p) B (or_else-some (full (die ∷ die ∷ die ∷ []) [] p) C
    (or_else-some (full (die ∷ die ∷ []) [] p) D (or_else-some (full (die ∷ []) [] p) (full [] [] p) (([], p), inl refl))))

pair-some : (p : Placement) (high low : ℕ) → (line : Line) × Among line (pair_lines p high low)
unfolding pair_lines full
pair-some p high low =
    let C : List Line = or_else (full (low ∷ []) [] p) (full [] [] p) in
    let B : List Line = or_else (full (high ∷ []) [] p) C in
    or_else-some (full (high ∷ low ∷ []) [] p ++ full (low ∷ high ∷ []) [] p) B (or_else-some (full (high ∷ []) [] p) C (or_else-some (full (low ∷ []) [] p) (full [] [] p) (([], p), inl refl)))

pub some_legal : (p : Placement) (roll : Dice) → IsRoll roll → (moves : List Move) × (q : Placement) × IsLegal p roll moves q
some_legal p roll right = elim (cases_lt roll.low roll.high) [
  | inl less ↦ (let l = pair-some p roll.high roll.low in (l.0.0, l.0.1, (pair-listing p roll less).sound l.0 l.1))
  | inr same ↦ (let l = double-some p roll.high in (l.0.0, l.0.1, (double-listing p roll (omega (arith, same, right.in_order))).sound l.0 l.1))
]

pub entry-some : (p : Placement) (roll : Dice) (entries : List Entry) → IsRoll roll → IsPlays p roll entries → 0 < length entries
entry-some p roll entries right list =
    let l = some_legal p roll right in
    some_of entries ((list.ends l.1).1 (l.0, l.2)) where
      some_of : {q : Placement} (es : List Entry) → Contains (ends_of es) q → 0 < length es
      some_of [] (k, low, e) = absurd (omega arith)
      some_of (entry ∷ es) h = omega arith

-- ---- what the code answers

pub made-ok : (p : Placement) (die from : ℕ) (o : Option Placement) (r : Result Placement BadPlay) → r ≡ ok_or o Closed → o ≡ after_move p die from → 1 ≤ from → from ≤ 25 → IfOk r (IsMove p die from)
made-ok p die from o r e f low high = subst (λ (x : Result Placement BadPlay). IfOk x (IsMove p die from)) (sym e) (go o f) where
  go : (a : Option Placement) → a ≡ after_move p die from → IfOk (ok_or a Closed) (IsMove p die from)
  go None g = tt
  go (Some q) g = after_move-sound p die from q low high (sym g)

pub made-err : (p : Placement) (move : Move) (o : Option Placement) (r : Result Placement BadPlay) → r ≡ ok_or o Closed → o ≡ after_move p move.die move.from
    → 1 ≤ move.from → move.from ≤ 25 → 0 < get_or p.mover move.from 0 → (move.from ≡ 25) ⊎ (get_or p.mover 25 0 ≡ 0)
    → (move.from ≤ move.die → (above p.mover 6 ≡ 0) × ((move.from ≡ move.die) ⊎ (above p.mover move.from ≡ 0)))
    → IfErr r (λ fault. (dice : List ℕ) → Contains dice move.die → IsFirstFault p dice move fault)
made-err p move o r e f low high held bar home =
    subst (λ (x : Result Placement BadPlay). IfErr x (λ fault. (dice : List ℕ) → Contains dice move.die → IsFirstFault p dice move fault)) (sym e) (go o f) where
      none : (earlier : BadPlay) (dice : List ℕ) → Contains dice move.die → fault_order earlier < 5 → HasFault p dice move earlier → ⊥
      none WrongDice dice there less h = h there
      none NoChecker dice there less h = omega (arith, low, high, held, h)
      none BarFirst dice there less h = omega (arith, bar, h.0, h.1)
      none NotHome dice there less h = let k = home h.0 in omega (arith, k.0, k.1, h.1)
      none Closed dice there less h = omega (arith, less)
      none HitMark dice there less h = h
      none TooFew dice there less h = h
      none HigherDie dice there less h = h

      go : (a : Option Placement) → a ≡ after_move p move.die move.from → IfErr (ok_or a Closed) (λ fault. (dice : List ℕ) → Contains dice move.die → IsFirstFault p dice move fault)
      go None g = λ dice there. record { fault_is = closed p move low high held bar home (sym g); none_before = λ earlier less h. none earlier dice there less h }
      go (Some q) g = tt

-- ---- beside a legal sequence

among_dice : (xs : List ℕ) (i die : ℕ) → slice_get xs i ≡ Some die → Among die xs
among_dice [] i die e = absurd (grind arith)
among_dice (x ∷ xs) zero die e = inl (let same : die ≡ x = cc in same)
among_dice (x ∷ xs) (suc i) die e = inr (among_dice xs i die e)

of_roll : (roll : Dice) (die : ℕ) → Among die (dice_of roll) → (die ≡ roll.high) ⊎ (die ≡ roll.low)
of_roll roll die h = of (eqb roll.high roll.low) h where
  of : (b : Bool) → Among die (cond b (roll.high ∷ roll.high ∷ roll.high ∷ roll.high ∷ []) (roll.high ∷ roll.low ∷ [])) → (die ≡ roll.high) ⊎ (die ≡ roll.low)
  of true (inl e) = inl e
  of true (inr (inl e)) = inl e
  of true (inr (inr (inl e))) = inl e
  of true (inr (inr (inr (inl e)))) = inl e
  of true (inr (inr (inr (inr h)))) = absurd h
  of false (inl e) = inl e
  of false (inr (inl e)) = inr e
  of false (inr (inr h)) = absurd h

-- a sequence of one move
record IsOneMove (p : Placement) (roll : Dice) (moves : List Move) : Type 0 where
  pub die : (first_die moves ≡ roll.high) ⊎ (first_die moves ≡ roll.low)
  pub used : map (λ (move : Move). move.die) moves ≡ first_die moves ∷ []
  pub can : CanPlay p (first_die moves)

one_move : (p : Placement) (roll : Dice) (moves : List Move) (q : Placement) → length moves ≡ 1 → IsSequence p (dice_of roll) moves q → IsOneMove p roll moves
one_move p roll [] q one s = absurd (omega arith)
one_move p roll (move ∷ []) q one (i, e, next, made, rest) = record { die = of_roll roll move.die (among_dice (dice_of roll) i move.die e); used = refl; can = (move.from, next, made) }
one_move p roll (move ∷ more ∷ moves) q one s = absurd (omega arith)

pub beside-ok : (p : Placement) (roll : Dice) (legal moves : List Move) (end q : Placement) → IsRoll roll → IsLegal p roll legal end → length legal ≤ length moves → (length moves ≡ 1 → first_die legal ≤ first_die moves)
    → IsSequence p (dice_of roll) moves q → IsLegal p roll moves q
beside-ok p roll legal moves end q right l many die s = record {
  sequence = s;
  longest = λ others e o. omega (arith, many, l.longest others e o);
  higher = λ one apart can. (
      let best_one : length legal ≡ 1 = omega (arith, one, many, l.longest moves q s) in
      let best = l.higher best_one apart can in
      let b = one_move p roll legal end best_one l.sequence in
      let m = one_move p roll moves q one s in
      let high : first_die legal ≡ roll.high = (let e : first_die legal ∷ [] ≡ roll.high ∷ [] = sym b.used ∙ best in cc) in
      let same : first_die moves ≡ roll.high = omega (arith, high, die one, m.die, right.in_order) in
      m.used ∙ ap (λ (x : ℕ). x ∷ []) same);
}

pub beside-err : (p : Placement) (roll : Dice) (legal moves : List Move) (end q : Placement) (fault : BadPlay) → IsRoll roll → IsLegal p roll legal end → IsSequence p (dice_of roll) moves q
    → DiffersBy moves legal fault → IsWholeFault p roll moves fault
beside-err p roll legal moves end q WrongDice right l s h = absurd h
beside-err p roll legal moves end q NoChecker right l s h = absurd h
beside-err p roll legal moves end q BarFirst right l s h = absurd h
beside-err p roll legal moves end q NotHome right l s h = absurd h
beside-err p roll legal moves end q Closed right l s h = absurd h
beside-err p roll legal moves end q HitMark right l s h = h
beside-err p roll legal moves end q TooFew right l s h = record { end = q; sequence = s; others = legal; others_end = end; other = l.sequence; more = h }
beside-err p roll legal moves end q HigherDie right l s h =
    let best_one : length legal ≡ 1 = omega (arith, h.0, h.1, l.longest moves q s) in
    let b = one_move p roll legal end best_one l.sequence in
    let m = one_move p roll moves q h.1 s in
    let high : first_die legal ≡ roll.high = omega (arith, h.2, b.die, m.die, right.in_order) in
    let low : first_die moves ≡ roll.low = omega (arith, h.2, b.die, m.die, right.in_order) in
    record {
      end = q;
      sequence = s;
      longest = λ others e o. omega (arith, h.0, l.longest others e o);
      unequal = omega (arith, high, low, h.2);
      lower = m.used ∙ ap (λ (x : ℕ). x ∷ []) low;
      can = subst (λ (x : ℕ). CanPlay p x) high b.can;
    }

-- ---- move by move

-- what is left of a play from here on decides on all of it
pub record GoesOn (p : Placement) (dice : List ℕ) (moves : List Move) (now : Placement) (left : List ℕ) (rest : List Move) : Type 0 where
  pub dice_from : All (λ die. 1 ≤ die) left
  pub sequence : (end : Placement) → IsSequence now left rest end → IsSequence p dice moves end
  pub wrong : (fault : BadPlay) → IsFirstWrong now left rest fault → IsFirstWrong p dice moves fault

pub All-remove : (xs : List ℕ) (j : ℕ) → All (λ die. 1 ≤ die) xs → All (λ die. 1 ≤ die) (remove xs j)
All-remove xs j all = All-append (λ (die : ℕ). 1 ≤ die) (take j xs) (drop (suc j) xs) (All-take (λ (die : ℕ). 1 ≤ die) j xs all) (All-drop (λ (die : ℕ). 1 ≤ die) (suc j) xs all)

pub dice-from : (roll : Dice) (left : List ℕ) → IsRoll roll → left ≡ dice_of roll → All (λ die. 1 ≤ die) left
dice-from roll left right e =
    subst (λ (x : List ℕ). All (λ die. 1 ≤ die) x) (sym e) (λ k d h. from_roll (get_or (dice_of roll) k d) (of_roll roll (get_or (dice_of roll) k d) (Among-at (dice_of roll) k d h))) where
      from_roll : (die : ℕ) → (die ≡ roll.high) ⊎ (die ≡ roll.low) → 1 ≤ die
      from_roll die h = omega (arith, h, right.from, right.in_order)

pub begins : (p : Placement) (roll : Dice) (left : List ℕ) (moves rest : List Move) → IsRoll roll → left ≡ dice_of roll → rest ≡ moves → GoesOn p (dice_of roll) moves p left rest
begins p roll left moves rest right e f = record {
  dice_from = dice-from roll left right e;
  sequence = λ end s. subst (λ (x : List ℕ). IsSequence p x moves end) e (subst (λ (x : List Move). IsSequence p left x end) f s);
  wrong = λ fault w. subst (λ (x : List ℕ). IsFirstWrong p x moves fault) e (subst (λ (x : List Move). IsFirstWrong p left x fault) f w);
}

pub goes_on : (p : Placement) (dice : List ℕ) (moves : List Move) (now : Placement) (left : List ℕ) (rest : List Move) (move : Move) (more : List Move) (i : ℕ) (next : Placement) (fewer : List ℕ)
    → GoesOn p dice moves now left rest → rest ≡ move ∷ more → slice_get left i ≡ Some move.die → fewer ≡ remove left i → IsMove now move.die move.from next → GoesOn p dice moves next fewer more
goes_on p dice moves now left rest move more i next fewer was e here f made = record {
  dice_from = subst (λ (x : List ℕ). All (λ die. 1 ≤ die) x) (sym f) (All-remove left i was.dice_from);
  sequence = λ end s. was.sequence end (subst (λ (x : List Move). IsSequence now left x end) (sym e) (i, here, next, made, subst (λ (x : List ℕ). IsSequence next x more end) f s));
  wrong = λ fault w. was.wrong fault (subst (λ (x : List Move). IsFirstWrong now left x fault) (sym e) (inr (i, here, next, made, subst (λ (x : List ℕ). IsFirstWrong next x more fault) f w)));
}

pub goes_wrong : (p : Placement) (dice : List ℕ) (moves : List Move) (now : Placement) (left : List ℕ) (rest : List Move) (move : Move) (more : List Move) (fault : BadPlay)
    → GoesOn p dice moves now left rest → rest ≡ move ∷ more → IsFirstFault now left move fault → IsFirstWrong p dice moves fault
goes_wrong p dice moves now left rest move more fault was e h = was.wrong fault (subst (λ (x : List Move). IsFirstWrong now left x fault) (sym e) (inl h))

pub next-of : (moves : List Move) (i : ℕ) (d : Move) → i < length moves → drop i moves ≡ get_or moves i d ∷ drop (i + 1) moves
next-of moves i d h = rw (add-one, drop-cons moves i d)

pub Contains-got : (dice : List ℕ) (i die : ℕ) → slice_get dice i ≡ Some die → Contains dice die
Contains-got [] i die e = absurd (grind arith)
Contains-got (d ∷ dice) zero die e = (0, omega arith, (let same : d ≡ die = cc in same))
Contains-got (d ∷ dice) (suc i) die e = let r = Contains-got dice i die e in (suc r.0, omega (arith, r.1), r.2)
