-- What holds where a `?` answers what a call failed with.
use Rattle.std.proofs.Common.{◌≡◌, Result, Ok, Err, OnErr, IsErrAnd, sym, subst}

pub at-err : {T E : Type 0} (P : Result T E → Type 0) (result : Result T E) (e : E) → IsErrAnd result (λ given. given ≡ e) → P (Err e) → P result
at-err P (Ok done) e is p = absurd is
at-err P (Err given) e is p = subst (λ x. P (Err x)) (sym is) p

pub on-err : {T E X : Type 0} (result : Result T E) → X → OnErr result X
on-err (Ok done) x = tt
on-err (Err e) x = x
