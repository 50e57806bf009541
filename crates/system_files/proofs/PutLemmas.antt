-- The bytes put, once more were.
use Rattle.std.proofs.Common.{◌≡◌, ◌∙◌, ℕ, List, [], ◌∷◌, ◌++◌, take, drop, sym, ap, append-nil, append_assoc}
use Rattle.std.proofs.lemmas.List.{take-append-drop}
use Rattle.outside_log.specs.Log.{Event, Put, put_bytes}

put_bytes-append : (events : List Event) (bytes : List ℕ) → put_bytes (events ++ Put bytes ∷ []) ≡ put_bytes events ++ bytes
put_bytes-append [] bytes = append-nil bytes
put_bytes-append (Put first ∷ events) bytes =
    ap (λ (rest : List ℕ). first ++ rest) (put_bytes-append events bytes) ∙ sym (append_assoc first (put_bytes events) bytes)
put_bytes-append (event ∷ events) bytes = put_bytes-append events bytes

-- these bytes were put
pub one-more-put : (old new : List Event) (bytes : List ℕ) → new ≡ old ++ Put bytes ∷ [] → put_bytes new ≡ put_bytes old ++ bytes
one-more-put old new bytes grown = ap put_bytes grown ∙ put_bytes-append old bytes

-- a front and the rest
pub front-of : (count : ℕ) (bytes : List ℕ) → (rest : List ℕ) × (bytes ≡ take count bytes ++ rest)
front-of count bytes = (drop count bytes, sym (take-append-drop count bytes))
