-- What a writer took in one call after another.
use Rattle.std.proofs.Common.{ℕ, List, ◌++◌, Option, Some, None, ◌∙◌, ap, append_assoc}
use Rattle.std.specs.Io.KnownBytes.{Appends}

pub Appends-then : (old middle new : Option (List ℕ)) (first second : List ℕ) → Appends old middle first → Appends middle new second → Appends old new (first ++ second)
Appends-then None middle new first second one two = tt
Appends-then (Some xs) None new first second one two = absurd one
Appends-then (Some xs) (Some ys) None first second one two = two
Appends-then (Some xs) (Some ys) (Some zs) first second one two = two ∙ (ap (λ (bs : List ℕ). bs ++ second) one ∙ append_assoc xs first second)
