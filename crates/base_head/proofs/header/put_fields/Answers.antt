use Rattle.std.proofs.Common.{◌≡◌, ◌∙◌, ◌+◌, ◌*◌, ℕ, List, length, take, flat_map, ap, arith, rules, length-append}
use Rattle.std.proofs.lemmas.List.{length-take-le}
use Rattle.word_pages.proofs.Texts.{length-cells}
use Rattle.base_head.specs.Headers.{field}
use Rattle.base_head.proofs.header.put_fields.Goals as goal

pub put_bytes-requires : goal.put_bytes-requires
put_bytes-requires g c =
    let done = take c.fields.number-index c.args.fields.now in
    let so_far : length c.fields.out.items ≡ length c.args.out.now.items + 4 * length done =
    ap (λ (bytes : List ℕ). length bytes) c.fields.invariant
    ∙ length-append c.args.out.now.items (flat_map field done)
    ∙ ap (λ k. length c.args.out.now.items + k) (length-cells 4 done) in
    let count : length done ≡ c.fields.number-index = length-take-le c.fields.number-index c.args.fields.now (omega (arith, c.fields-test.true)) in
    let cell : length c.to_be_bytes.result ≡ 4 = ap (λ (bytes : List ℕ). length bytes) c.to_be_bytes.ensures in
    (search rules, omega (arith, c.requires, so_far, count, cell, c.fields-test.true))
