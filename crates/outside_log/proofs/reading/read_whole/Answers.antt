use Rattle.std.proofs.Common.{◌≡◌, ◌≤◌, ℕ, List, ◌++◌, Option, Some, None, length, take, refl, sym, ap, subst, ◌∙◌, arith}
use Rattle.std.proofs.lemmas.List.{take_all, take-append-le}
use Rattle.outside_log.specs.Files.{Contents, Fills}
use Rattle.std.specs.Option.{option_map}
use Rattle.std.proofs.lemmas.Result.{err_from_is_err_and}
use Rattle.outside_log.specs.Log.{standing}
use Rattle.outside_log.proofs.Readings.{reads-before, reads-both, reads-same}
use Rattle.outside_log.proofs.reading.read_whole.Goals as goal

-- a file of so many bytes
sized : (file : Option (List ℕ)) (size most : ℕ) → Some size ≡ option_map length file → size ≤ most → (bytes : List ℕ) × (file ≡ Some bytes) × (length bytes ≤ most)
sized None size most is le = cc
sized (Some bytes) size most is le = let same : size ≡ length bytes = cc in (bytes, refl, omega (arith, same, le))

-- all bytes of a file of so many
whole : (file : Option (List ℕ)) (size most count : ℕ) (old new rest bytes : List ℕ) → Some size ≡ option_map length file → size ≤ most → Fills file 0 old new count → length old ≡ size → (len : ℕ) → len ≡ size → bytes ≡ take count (take len (new ++ rest)) → length new ≡ size
    → (file ≡ Some bytes) × (length bytes ≤ most)
whole None size most count old new rest bytes is le fills long len same_len taken kept = cc
whole (Some xs) size most count old new rest bytes is le fills long len same_len taken kept =
    let same : size ≡ length xs = cc in
    let counted = fills.count_is in
    let all : take count xs ≡ xs = take_all count xs (omega (arith, counted, long, same)) in
    let buf : take len (new ++ rest) ≡ new = take-append-le len new rest (omega (arith, kept, same_len)) ∙ take_all len new (omega (arith, kept, same_len)) in
    let is_bytes : bytes ≡ xs = taken ∙ ap (λ (ys : List ℕ). take count ys) buf ∙ fills.front ∙ all in
    (ap (λ (ys : List ℕ). Some ys) (sym is_bytes), omega (arith, ap length is_bytes, same, le))

pub returns-in_err-size-clause-whole : goal.returns-in_err-size-clause-whole
returns-in_err-size-clause-whole g c = let p = err_from_is_err_and c.from_residual.result c.from_residual.ensures.1 in rw (p.1, p.2) (λ told. tt)

pub returns-in_err-bytes-clause-whole : goal.returns-in_err-bytes-clause-whole
returns-in_err-bytes-clause-whole g c =
    let p = err_from_is_err_and c.from_residual-in_err-bytes.result c.from_residual-in_err-bytes.ensures.1 in
    rw (p.1, p.2) (λ all. sized (standing (g.F.Files.log c.args.files.now) c.args.name.now) c.in-Some.size c.args.most (sym c.in-Some.is ∙ c.in_ok-size.ensures.size all) c.if-size-most.false)

pub returns-in_err-bytes-clause-cause : goal.returns-in_err-bytes-clause-cause
returns-in_err-bytes-clause-cause g c =
    let p = err_from_is_err_and c.from_residual-in_err-bytes.result c.from_residual-in_err-bytes.ensures.1 in
    rw (p.1, p.2) (record { later = c.size_of.ensures.cause.later; failed = λ is. cc })

pub returns-in_err-count-clause-whole : goal.returns-in_err-count-clause-whole
returns-in_err-count-clause-whole g c = let p = err_from_is_err_and c.from_residual-in_err-count.result c.from_residual-in_err-count.ensures.1 in rw (p.1, p.2) (λ told. tt)

pub returns-in_err-count-clause-reads : goal.returns-in_err-count-clause-reads
returns-in_err-count-clause-reads g c = reads-both _ _ _ c.size_of.ensures.reads c.fill.ensures.reads

pub returns-clause-reads : goal.returns-clause-reads
returns-clause-reads g c = reads-both _ _ _ c.size_of.ensures.reads c.fill.ensures.reads

pub returns-clause-whole : goal.returns-clause-whole
returns-clause-whole g c all =
    let name = c.args.name.now in
    let held = standing (g.F.Files.log c.args.files.now) in
    let old : List ℕ = c.as_mut_slice.result.now in
    let fills : Fills (held name) 0 old c.fill.new.buf c.in_ok-count.count
    = subst (λ (held : Contents). Fills (held name) 0 old c.fill.new.buf c.in_ok-count.count) (reads-same c.size_of.ensures.reads) (c.in_ok-count.ensures.fills all) in
    let long : length old ≡ c.in-Some.size = omega (arith, c.in_ok-bytes.ensures.len, c.as_mut_slice.ensures.len) in
    whole (held name) c.in-Some.size c.args.most c.in_ok-count.count old c.fill.new.buf _ c.truncate.new.self.items
    (sym c.in-Some.is ∙ c.in_ok-size.ensures.size (reads-before c.fill.ensures.reads all)) c.if-size-most.false
    fills long _ c.in_ok-bytes.ensures.len c.truncate.ensures.items (c.fill.ensures.len ∙ long)
