-- Texts that are put one behind another.
use Rattle.std.proofs.Common.{◌≡◌, ◌≤◌, ◌∙◌, ◌+◌, ◌<◌, ◌++◌, ℕ, zero, suc, List, [], ◌∷◌, length, take, drop, slice_index_or, Option, Some, None, Result, Ok, Err, refl, sym, ap, subst, add-one, append_assoc, arith}
use Rattle.std.specs.List.{flat_map}
use Rattle.std.proofs.lemmas.List.{append-nil}
use Rattle.hyper_outside.specs.Causes.{Rose, HasCause}
use Rattle.outside_log.specs.Sink.{Output, Gains, Puts}
use Rattle.hyper_outside.specs.declared.outside.Failed.{Failed}

abbrev pub Answer : Type 0
Answer = Result (Unit {0}) Failed

-- ---- what is told

gains-none : (told : Option (List ℕ)) → Gains {T = Unit {0}} {E = Failed} told told [] (Ok tt)
gains-none None = refl
gains-none (Some bytes) = ap (λ (b : List ℕ). Some b) (sym (append-nil bytes))

gains-both : (a b c : Option (List ℕ)) (s t : List ℕ) (x : Unit {0}) (r : Answer) → Gains {T = Unit {0}} {E = Failed} a b s (Ok x) → Gains b c t r → Gains a c (s ++ t) r
gains-both None b c s t x r first second = subst (λ (told : Option (List ℕ)). Gains told c t r) first second
gains-both (Some a) b c s t x (Ok y) first second =
    let later : Gains {T = Unit {0}} {E = Failed} (Some (a ++ s)) c t (Ok y) = subst (λ (told : Option (List ℕ)). Gains {T = Unit {0}} {E = Failed} told c t (Ok y)) first second in
    later ∙ ap (λ (bytes : List ℕ). Some bytes) (append_assoc a s t)
gains-both (Some a) b c s t x (Err e) first second =
    let later : Gains {T = Unit {0}} {E = Failed} (Some (a ++ s)) c t (Err e) = subst (λ (told : Option (List ℕ)). Gains {T = Unit {0}} {E = Failed} told c t (Err e)) first second in
    (s ++ later.0, later.1, ap (λ (bytes : List ℕ). s ++ bytes) later.2 ∙ sym (append_assoc s later.0 later.1), later.3 ∙ ap (λ (bytes : List ℕ). Some bytes) (append_assoc a s later.0))

gains-front : (a b : Option (List ℕ)) (s t : List ℕ) (e : Failed) → Gains {T = Unit {0}} {E = Failed} a b s (Err e) → Gains {T = Unit {0}} {E = Failed} a b (s ++ t) (Err e)
gains-front None b s t e gains = gains
gains-front (Some a) b s t e gains = (gains.0, gains.1 ++ t, ap (λ (bytes : List ℕ). bytes ++ t) gains.2 ∙ append_assoc gains.0 gains.1 t, gains.3)

-- ---- counts of faults

rose-earlier : (a b c : ℕ) → a ≤ b → Rose b c → Rose a c
rose-earlier a b c h k = omega arith

cause-both : (a b c : ℕ) (x : Unit {0}) (r : Answer) → HasCause {T = Unit {0}} {E = Failed} a b (Ok x) → HasCause b c r → HasCause a c r
cause-both a b c x (Ok y) first second = record { later = omega (arith, first.later, second.later); failed = tt }
cause-both a b c x (Err e) first second =
    record { later = omega (arith, first.later, second.later); failed = rose-earlier a b c first.later second.failed }

-- ---- puts

-- nothing was put yet
pub put-none : (o : Output) → Puts {T = Unit {0}} {E = Failed} o o [] (Ok tt)
put-none o = record { gains = gains-none o.told; cause = record { later = omega arith; failed = tt } }

-- a text was put, and then another one or a front of it
pub put-both : (a b c : Output) (s t : List ℕ) (x : Unit {0}) (r : Answer) → Puts {T = Unit {0}} {E = Failed} a b s (Ok x) → Puts b c t r → Puts a c (s ++ t) r
put-both a b c s t x r first second =
    record { gains = gains-both a.told b.told c.told s t x r first.gains second.gains; cause = cause-both a.faults b.faults c.faults x r first.cause second.cause }

-- a front of a text is one of a longer text too
pub put-front : (a b : Output) (s t : List ℕ) (e : Failed) → Puts {T = Unit {0}} {E = Failed} a b s (Err e) → Puts {T = Unit {0}} {E = Failed} a b (s ++ t) (Err e)
put-front a b s t e put = record { gains = gains-front a.told b.told s t e put.gains; cause = put.cause }

-- ---- texts of lists

-- the text of one item more
pub text-more : {X : Type 0} (f : X → List ℕ) (i : ℕ) (xs : List X) (x : X) → i < length xs → x ≡ slice_index_or xs i x
    → flat_map f (take (i + 1) xs) ≡ flat_map f (take i xs) ++ f x
text-more f i xs x inside is = subst (λ (n : ℕ). flat_map f (take n xs) ≡ flat_map f (take i xs) ++ f x) (sym (add-one i)) (next i xs inside is)
  where
    next : (i : ℕ) (xs : List _) → i < length xs → x ≡ slice_index_or xs i x → flat_map f (take (suc i) xs) ≡ flat_map f (take i xs) ++ f x
    next i [] inside is = absurd (omega (arith, inside))
    next zero (first ∷ rest) inside is = append-nil (f first) ∙ ap f (sym is)
    next (suc i) (first ∷ rest) inside is =
        ap (λ (text : List ℕ). f first ++ text) (next i rest (omega (arith, inside)) is) ∙ sym (append_assoc (f first) (flat_map f (take i rest)) (f x))

-- the text of a list is that of its first items and that of the others
pub text-parts : {X : Type 0} (f : X → List ℕ) (n : ℕ) (xs : List X) → flat_map f xs ≡ flat_map f (take n xs) ++ flat_map f (drop n xs)
text-parts f zero xs = refl
text-parts f (suc n) [] = refl
text-parts f (suc n) (x ∷ xs) = ap (λ (text : List ℕ). f x ++ text) (text-parts f n xs) ∙ sym (append_assoc (f x) (flat_map f (take n xs)) (flat_map f (drop n xs)))
