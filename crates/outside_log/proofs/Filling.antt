-- Reading in several turns.
use Rattle.std.proofs.Common.{◌≡◌, ◌∙◌, ℕ, zero, suc, ◌+◌, ◌<◌, ◌≤◌, List, [], ◌∷◌, ◌++◌, length, take, drop, Option, Some, None, refl, sym, ap, subst, arith, length-take, length-drop}
use Rattle.std.proofs.Math.Seq.{take-append-add, take-add, drop-nil}
use Rattle.std.proofs.lemmas.List.{take-append-le}
use Rattle.outside_log.specs.Files.{bytes_from, Fills}
use Rattle.outside_log.specs.Reading.{AddsRead}

-- a part of a buffer that was read into: what stands before it and behind it stays
pub read-front : (done count : ℕ) (old part post there : List ℕ) → done ≤ length old → count ≤ length part → take count part ≡ take count there
    → take (done + count) (take done old ++ (part ++ post)) ≡ take done old ++ take count there
read-front done count old part post there le fits same =
    let size : done + count ≡ length (take done old) + count = omega (arith, length-take done old) in
    ap (λ n. take n (take done old ++ (part ++ post))) size ∙ take-append-add (take done old) (part ++ post) count
    ∙ ap (λ (xs : List ℕ). take done old ++ xs) (take-append-le count part post fits ∙ same)

drop_more : (n m : ℕ) (xs : List ℕ) → drop n (drop m xs) ≡ drop (m + n) xs
drop_more n zero xs = let none : n ≡ 0 + n = omega arith in ap (λ k. drop k xs) none
drop_more n (suc m) [] = drop-nil n ∙ sym (drop-nil (suc m + n))
drop_more n (suc m) (x ∷ xs) =
    let more : suc (m + n) ≡ suc m + n = omega arith in
    drop_more n m xs ∙ ap (λ k. drop k (x ∷ xs)) more

-- the bytes further on
pub bytes-on : (at done : ℕ) (file : Option (List ℕ)) → drop done (bytes_from at file) ≡ bytes_from (at + done) file
bytes-on at done None = drop-nil done
bytes-on at done (Some bytes) = drop_more done at bytes

-- what was read so far
pub record IsRead (there new : List ℕ) (done : ℕ) : Type 0 where
  pub enough : done ≤ length there
  pub front : take done new ≡ take done there

-- nothing yet
pub read-none : (there buf : List ℕ) → IsRead there buf 0
read-none there buf = record { enough = omega arith; front = refl }

-- and some more
pub read-on : (there old new : List ℕ) (done count : ℕ) → IsRead there old done → AddsRead (drop done there) done old new count → IsRead there new (done + count)
read-on there old new done count so_far more = record {
  enough = omega (arith, so_far.enough, more.enough, length-drop done there);
  front = more.front ∙ ap (λ (xs : List ℕ). xs ++ take count (drop done there)) so_far.front ∙ sym (take-add done count there);
}

-- the end of the file
pub read-end : (file : Option (List ℕ)) (at : ℕ) (start old new : List ℕ) (done : ℕ) → done < length old → length old ≡ length start
    → IsRead (bytes_from at file) old done → AddsRead (drop done (bytes_from at file)) done old new 0 → Fills file at start new done
read-end file at start old new done room same so_far more =
    let there : List ℕ = bytes_from at file in
    let none : length (drop done there) ≤ 0 = at_most (length (drop done there)) (more.some room) in
    let on = read-on there old new done 0 so_far more in
    let zero_more : done + 0 ≡ done = omega arith in
    record {
      count_is = omega (arith, none, length-drop done there, so_far.enough, room, same);
      front = subst (λ k. take k new ≡ take k there) zero_more on.front;
    }
  where
    at_most : (n : ℕ) → (0 < n → 0 < 0) → n ≤ 0
    at_most zero h = omega arith
    at_most (suc n) h = let bad = h (omega arith) in absurd (omega (arith, bad))

-- an empty buffer has no room behind its first part
pub no_room : (buf : List ℕ) (done : ℕ) → buf ≡ [] → done < length buf → ⊥
no_room buf done none room = omega (arith, ap length none, room)
