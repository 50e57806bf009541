-- The dice of written steps, and where they lead.
use Rattle.std.proofs.Common.{◌≡◌, ◌≤◌, ◌<◌, ◌+◌, ◌-◌, ◌∙◌, ℕ, Bool, true, false, IsTrue, List, [], ◌∷◌, ◌++◌, length, drop, get_or, unwrap_or, Option, inl, inr, refl, ap, subst, sym, arith, append_assoc, length-append, add-one, drop-cons}
use Rattle.std.proofs.lemmas.List.{append-nil}
use Rattle.std.specs.Prelude.{◌↔◌}
use mathlib.Core.Bool.{beq}
use Rattle.std.specs.List.{All, remove}
use Rattle.std.specs.Option.{MatchOption}
use Rattle.position_rank.specs.Placement.{Placement, moved, hit}
use Rattle.roll_table.specs.Rolls.{Dice, dice_of}
use Rattle.move_rules.specs.Ends.{next_board}
use Rattle.move_rules.specs.Moves.{IsMove}
use Rattle.move_rules.specs.Sequences.{IsSequence}
use Rattle.move_rules.specs.Written.{AreStepsOf, IsSmallest, IsDieOf, IsStep, IsWritten, Leaves, IsWrongStep, IsWrongWritten}
use Rattle.move_rules.specs.declared.play.Move.{Move}
use Rattle.move_rules.specs.declared.written.Step.{Step}
use Rattle.move_rules.specs.declared.applied.BadPlay.{BadPlay}
use Rattle.move_rules.proofs.EndsExact.{after_move-complete}
use Rattle.move_rules.proofs.FaultLaws.{All-remove}

-- the smallest so far of some dice
abbrev pub SmallestSoFar : List ℕ → ℕ → Option ℕ → Type 0
SmallestSoFar dice from best = MatchOption best (All (λ die. die < from) dice) (IsSmallest dice from)

-- ---- marks

pub mark-wrong : (P : Type 0) (hits mark : Bool) → IsTrue hits ↔ P → beq hits mark ≡ false → IsTrue mark ↔ P → ⊥
mark-wrong P true true a apart b = cc apart
mark-wrong P false false a apart b = cc apart
mark-wrong P true false a apart b = let h : false ≡ true = b.1 (a.0 refl) in cc
mark-wrong P false true a apart b = let h : false ≡ true = a.1 (b.0 refl) in cc

-- ---- step by step

-- what is left of some steps from here on decides on all of them
pub record StepsGoOn (p : Placement) (dice : List ℕ) (steps : List Step) (now : Placement) (left : List ℕ) (rest : List Step) (made : List Move) : Type 0 where
  pub dice_from : All (λ die. 1 ≤ die) left
  pub count : length made + length rest ≡ length steps
  pub written : (moves : List Move) (end : Placement) → IsWritten now left rest moves end → IsWritten p dice steps (made ++ moves) end
  pub wrong : (fault : BadPlay) → IsWrongWritten now left rest fault → IsWrongWritten p dice steps fault

pub step-more : (p : Placement) (dice : List ℕ) (steps : List Step) (now : Placement) (left : List ℕ) (rest : List Step) (made : List Move) (step : Step) (more : List Step) (move : Move) (i : ℕ) (next : Placement) (fewer : List ℕ) (new : List Move)
    → StepsGoOn p dice steps now left rest made → rest ≡ step ∷ more → fewer ≡ remove left i → IsStep now left step move i next → new ≡ made ++ move ∷ [] → StepsGoOn p dice steps next fewer more new
step-more p dice steps now left rest made step more move i next fewer new was e f here g = record {
  dice_from = subst (λ (x : List ℕ). All (λ die. 1 ≤ die) x) (sym f) (All-remove left i was.dice_from);
  count = omega (arith, was.count, ap (λ (x : List Step). length x) e, ap (λ (x : List Move). length x) g, length-append made (move ∷ []));
  written = λ moves end w. subst (λ (x : List Move). IsWritten p dice steps (x ++ moves) end) (sym g)
      (subst (λ (x : List Move). IsWritten p dice steps x end) (sym (append_assoc made (move ∷ []) moves))
      (was.written (move ∷ moves) end (subst (λ (x : List Step). IsWritten now left x (move ∷ moves) end) (sym e) (i, next, here, subst (λ (x : List ℕ). IsWritten next x more moves end) f w))));
  wrong = λ fault w. was.wrong fault (subst (λ (x : List Step). IsWrongWritten now left x fault) (sym e) (inr (move, i, next, here, subst (λ (x : List ℕ). IsWrongWritten next x more fault) f w)));
}

pub step-wrong : (p : Placement) (dice : List ℕ) (steps : List Step) (now : Placement) (left : List ℕ) (rest : List Step) (made : List Move) (step : Step) (more : List Step) (fault : BadPlay)
    → StepsGoOn p dice steps now left rest made → rest ≡ step ∷ more → IsWrongStep now left step fault → IsWrongWritten p dice steps fault
step-wrong p dice steps now left rest made step more fault was e h = was.wrong fault (subst (λ (x : List Step). IsWrongWritten now left x fault) (sym e) (inl h))

pub steps-end : (p : Placement) (dice : List ℕ) (steps : List Step) (now : Placement) (left : List ℕ) (rest : List Step) (made : List Move) → StepsGoOn p dice steps now left rest made → rest ≡ [] → IsWritten p dice steps made now
steps-end p dice steps now left rest made was e =
    subst (λ (x : List Move). IsWritten p dice steps x now) (append-nil made) (was.written [] now (subst (λ (x : List Step). IsWritten now left x [] now) (sym e) refl))

-- ---- of a whole play

pub written-sequence : (p : Placement) (dice : List ℕ) (steps : List Step) (moves : List Move) (q : Placement) → IsWritten p dice steps moves q → IsSequence p dice moves q
written-sequence p dice [] [] q w = w
written-sequence p dice [] (move ∷ moves) q w = absurd w
written-sequence p dice (step ∷ steps) [] q w = absurd w
written-sequence p dice (step ∷ steps) (move ∷ moves) q (i, next, here, w) = (i, here.left, next, here.made, written-sequence next (remove dice i) steps moves q w)

pub next-step : (steps : List Step) (i : ℕ) (step : Step) → i < length steps → step ≡ get_or steps i step → drop i steps ≡ step ∷ drop (i + 1) steps
next-step steps i step h e = subst (λ (x : Step). drop i steps ≡ x ∷ drop (i + 1) steps) (sym e) (rw (add-one, drop-cons steps i step))

-- ---- the end of a written play

pub board-after : (p : Placement) (m : Move) (next : Placement) → IsMove p m.die m.from next → next_board p m ≡ next
board-after p m next move = ap (λ (o : Option Placement). unwrap_or o p) (after_move-complete p m.die m.from next move)

same-run : (p : Placement) (die other from : ℕ) (q r : Placement) → IsMove p die from q → IsMove p other from r → from - die ≡ from - other → q ≡ r
same-run p die other from q r (inl a) (inl b) e =
    let run : ℕ → Placement = λ to. record { mover = moved p.mover from to; other = hit p.other (25 - to) } in
    a.after ∙ (ap run e ∙ sym b.after)
same-run p die other from q r (inl a) (inr b) e = (let on_board = a.on_board in let reaches = b.reaches in absurd (omega arith))
same-run p die other from q r (inr a) (inl b) e = (let on_board = b.on_board in let reaches = a.reaches in absurd (omega arith))
same-run p die other from q r (inr a) (inr b) e = a.after ∙ sym b.after

-- a step goes as far as its move
step-to : (p : Placement) (dice : List ℕ) (step : Step) (m : Move) (i : ℕ) (next : Placement) → IsStep p dice step m i next → step.from - m.die ≡ step.to
step-to p dice step m i next is = by is.die where
  by : IsDieOf p dice step m.die → step.from - m.die ≡ step.to
  by (inl h) = (let falls = step.falls in omega (arith, h.0, h.1, falls))
  by (inr (inl h)) = (let long = h.2.1 in omega (arith, h.0, long))
  by (inr (inr h)) = (let long = h.2.1 in omega (arith, h.0, long))

-- steps lead to one end, by whatever dice
pub steps-lead : (p : Placement) (dice fewer : List ℕ) (steps : List Step) (moves others : List Move) (q r : Placement) → AreStepsOf p moves steps → IsSequence p dice moves q → AreStepsOf p others steps → IsSequence p fewer others r → q ≡ r
steps-lead p dice fewer [] [] [] q r a s b t = s ∙ sym t
steps-lead p dice fewer [] [] (o ∷ others) q r a s b t = absurd b
steps-lead p dice fewer [] (m ∷ moves) others q r a s b t = absurd a
steps-lead p dice fewer (step ∷ steps) [] others q r a s b t = absurd a
steps-lead p dice fewer (step ∷ steps) (m ∷ moves) [] q r a s b t = absurd b
steps-lead p dice fewer (step ∷ steps) (m ∷ moves) (o ∷ others) q r (a, later) (i, e, next, made, rest) (b, after) (j, f, left, made2, rest2) =
    let from : o.from ≡ m.from = sym b.from ∙ a.from in
    let same : next ≡ left = same-run p m.die o.die m.from next left made (subst (λ (n : ℕ). IsMove p o.die n left) from made2) (sym a.to ∙ (b.to ∙ ap (λ (n : ℕ). n - o.die) from)) in
    steps-lead next (remove dice i) (remove fewer j) steps moves others q r
    (subst (λ (x : Placement). AreStepsOf x moves steps) (board-after p m next made) later) rest
    (subst (λ (x : Placement). AreStepsOf x others steps) (board-after p o left made2 ∙ sym same) after) (subst (λ (x : Placement). IsSequence x (remove fewer j) others r) (sym same) rest2)

-- so a right play leaves one position
pub leaves-one : (p : Placement) (roll : Dice) (steps : List Step) (q r : Placement) → Leaves p roll steps q → Leaves p roll steps r → q ≡ r
leaves-one p roll steps q r a b = steps-lead p (dice_of roll) (dice_of roll) steps a.moves b.moves q r a.written a.legal.sequence b.written b.legal.sequence

-- what is written by the dice of its steps is written so
pub steps-of : (p : Placement) (dice : List ℕ) (steps : List Step) (moves : List Move) (q : Placement) → IsWritten p dice steps moves q → AreStepsOf p moves steps
steps-of p dice [] [] q w = tt
steps-of p dice [] (m ∷ moves) q w = absurd w
steps-of p dice (step ∷ steps) [] q w = absurd w
steps-of p dice (step ∷ steps) (m ∷ moves) q (i, next, here, rest) = (
  record { from = sym here.from; to = sym (ap (λ (n : ℕ). n - m.die) here.from ∙ step-to p dice step m i next here); mark = here.mark },
  subst (λ (x : Placement). AreStepsOf x moves steps) (sym (board-after p m next here.made)) (steps-of next (remove dice i) steps moves q rest),
)
