-- Layers that are distinct.
use Rattle.std.proofs.Common.{◌≡◌, ◌≢◌, ◌<◌, ◌+◌, ◌∙◌, ◌++◌, ℕ, List, [], ◌∷◌, arith}
use Rattle.column_sums.specs.AfterHits.{AreDistinct}

pub distinct-one : (x : List ℕ) → AreDistinct (x ∷ [])
distinct-one x i j h k = absurd (omega (arith, h, k))
