-- Over a sure source each look-up is answered, and where its floor and its notes give one value, the answer is exact.
use Rattle.std.proofs.Common.{◌≡◌, ◌∙◌, ℕ, ℤ, ◌≤ℤ◌, IsTrue, Result, Ok, Err, ap, refl, subst}
use Rattle.std.specs.Result.{IsOk}
use Rattle.directed_fixed.specs.declared.bounds.End.{End}
use Rattle.directed_fixed.specs.declared.bounds.End.TheVariants.{Lower, Upper}
use Rattle.directed_fixed.specs.Bounds.{Bounds}
use Rattle.hyper_outside.specs.declared.outside.LookStop.{LookStop}
use Rattle.hyper_outside.specs.declared.outside.LookStop.TheVariants.{ReadFault, BadPage, NoMemory}
use Rattle.turn_rule.specs.Turn.{Words}
use Rattle.turn_rule.specs.Looks.{Source, Notes, Damage, States, MayStop, Looked, IsPairOf}
use Rattle.turn_rule.proofs.Found.{look}
use Rattle.turn_rule.proofs.Tight.{tight-both}

-- a pair by its two ends
both_ends : (pair : Bounds) (low high : ℤ) → pair.lower ≡ low → pair.upper ≡ high → pair ≡ record { lower = low; upper = high }
both_ends pair low high h k =
    let with_lower : ℤ → Bounds = λ z. record { lower = z; upper = pair.upper } in
    let with_upper : ℤ → Bounds = λ z. record { lower = low; upper = z } in
    ap with_lower h ∙ ap with_upper k

never_stops : (s : Source) (v : Notes) (a b : ℕ) (meant : Damage → Type 0) (stop : LookStop) → IsTrue s.sure → MayStop s v a b meant stop → ⊥
never_stops s v a b meant ReadFault sure stopped = cc (sure, stopped.0)
never_stops s v a b meant (BadPage fault at) sure stopped = cc (sure, stopped.0)
never_stops s v a b meant NoMemory sure stopped = cc (sure, stopped)

pub sure-answer : {A : Type 0} (s : Source) (u v : Notes) (a b : ℕ) (meant : Damage → Type 0) (right : A → Type 0) (result : Result A LookStop) → IsTrue s.sure → Looked (look s u v a b) meant right result → IsOk result
sure-answer s u v a b meant right (Ok x) sure looked = refl
sure-answer s u v a b meant right (Err stop) sure looked = absurd (never_stops s v a b meant stop sure looked.stop)

pub exact-pair : (s : Source) (noted : Notes) (states : States) (bound : ℤ) (value : End → Words → ℤ) (pair : Bounds) → IsTrue noted.told → ((end : End) → value end s.floor ≡ value end noted.words) → IsPairOf s noted states bound value pair
    → pair ≡ record { lower = value Lower noted.words; upper = value Upper noted.words }
exact-pair s noted states bound value pair told same is =
    both_ends pair _ _
    (tight-both Lower pair.lower (value Lower noted.words) (subst (λ (z : ℤ). z ≤ℤ pair.lower) (same Lower) (is.ends told Lower).no_looser) (is.ends told Lower).no_tighter)
    (tight-both Upper pair.upper (value Upper noted.words) (subst (λ (z : ℤ). pair.upper ≤ℤ z) (same Upper) (is.ends told Upper).no_looser) (is.ends told Upper).no_tighter)
