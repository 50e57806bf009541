-- What was put one behind the other.
use Rattle.std.proofs.Common.{◌∙◌, ℕ, List, [], ◌++◌, Option, Some, None, Ok, refl, sym, ap, subst, arith}
use Rattle.std.proofs.lemmas.List.{append-nil, append_assoc}
use Rattle.hyper_outside.specs.declared.outside.Failed.{Failed}
use Rattle.outside_log.specs.Sink.{Gains, Output}
use Rattle.run_endings.specs.Endings.{IsPut}

abbrev HasGained : Option (List ℕ) → Option (List ℕ) → List ℕ → Type 0
HasGained a b text = Gains {T = Unit {0}} {E = Failed} a b text (Ok tt)

gained-both : (a b c : Option (List ℕ)) (first second : List ℕ) → HasGained a b first → HasGained b c second → HasGained a c (first ++ second)
gained-both None b c first second p q = subst (λ (o : Option (List ℕ)). HasGained o c second) p q
gained-both (Some old) b c first second p q =
    subst (λ (o : Option (List ℕ)). HasGained o c second) p q ∙ ap (λ (bytes : List ℕ). Some bytes) (append_assoc old first second)

pub put-both : (old middle new : Output) (first second : List ℕ) → IsPut old middle first → IsPut middle new second → IsPut old new (first ++ second)
put-both old middle new first second p q =
    let earlier = p.cause.later in
    let later = q.cause.later in
    record { gains = gained-both old.told middle.told new.told first second p.gains q.gains; cause = record { later = omega (arith, earlier, later); failed = tt } }

none-gained : (a : Option (List ℕ)) → HasGained a a []
none-gained None = refl
none-gained (Some old) = ap (λ (bytes : List ℕ). Some bytes) (sym (append-nil old))

pub nothing-put : (old : Output) → IsPut old old []
nothing-put old = record { gains = none-gained old.told; cause = record { later = omega arith; failed = tt } }
