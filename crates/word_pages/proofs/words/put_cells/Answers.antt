use Rattle.std.proofs.Common.{◌≡◌, ◌∙◌, ℕ, suc, ◌+◌, ◌*◌, ◌++◌, ◌≤◌, List, [], Result, Ok, Err, IsOk, OnOk, length, take, drop, get_or, replicate, flat_map, ap, ap₂, arith, append_assoc, length-append}
use Rattle.std.proofs.Math.Nat.{mul-le-mul_left}
use Rattle.std.proofs.lemmas.Bool.{false≢true}
use Rattle.std.proofs.lemmas.List.{append-nil, drop_all, length-replicate, length-take-le}
use Rattle.byteorder.specs.Endian.{big_bytes}
use Rattle.byteorder.specs.Numbers.{length-bytes_high_first}
use Rattle.word_pages.proofs.Texts.{cells_next, length-cells, times_more}
use Rattle.word_pages.proofs.words.put_cells.Goals as goal

where_ok : {T E : Type 0} {P : Type 0} (r : Result T E) → IsOk r → OnOk r P → P
where_ok (Ok x) ok told = told
where_ok (Err e) wrong told = absurd (false≢true wrong)

pub words-preserved : goal.words-preserved
words-preserved g c =
    let size = g.row.SIZE in
    let i = c.words.word-index in
    let start = c.args.out.now.items in
    let words = c.args.words.now in
    let done = flat_map (big_bytes size) (take i words) in
    let word = get_or words i 0 in
    let nothing : drop size (replicate {A = ℕ} size 0) ≡ [] = drop_all size (replicate size 0) (omega (arith, length-replicate {A = ℕ} size 0)) in
    let cell : c.write_uint.new.buf ≡ big_bytes size word = c.write_uint.ensures ∙ ap (λ (rest : List ℕ). big_bytes size word ++ rest) nothing ∙ append-nil (big_bytes size word) in
    let long : length c.write_uint.new.buf ≡ size = ap (λ (bytes : List ℕ). length bytes) cell ∙ length-bytes_high_first size word in
    let so_far : length c.words.out.items ≡ length start + size * i =
    ap (λ (bytes : List ℕ). length bytes) c.words.invariant
    ∙ length-append start done
    ∙ ap (λ k. length start + k) (length-cells size (take i words) ∙ ap (λ k. size * k) (length-take-le i words (omega (arith, c.words-test.true)))) in
    let more = times_more size i in
    let room : size * suc i ≤ size * length words = mul-le-mul_left size (omega (arith, c.words-test.true)) in
    where_ok c.try_extend_from_slice-added.result (c.try_extend_from_slice-added.ensures.variant.1 (omega (arith, c.requires.room, so_far, long, more, room))) c.try_extend_from_slice-added.ensures.ok
    ∙ ap₂ (λ (before cell : List ℕ). before ++ cell) c.words.invariant cell
    ∙ append_assoc start done (big_bytes size word)
    ∙ ap (λ (bytes : List ℕ). start ++ bytes) (cells_next size i words c.words-test.true)
