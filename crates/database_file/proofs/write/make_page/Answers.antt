use Rattle.std.proofs.Common.{◌≤◌, ◌∙◌, ℕ, ◌-◌, ◌*◌, ◌++◌, List, length, take, drop, ap, ap₂, arith}
use Rattle.std.proofs.Math.Nat.{mul-le-mul_left}
use Rattle.std.proofs.lemmas.List.{length-take}
use Rattle.word_pages.specs.Words.{word_size, words_bytes}
use Rattle.word_pages.specs.Sealed.{sealed_under}
use Rattle.word_pages.proofs.Texts.{length-cells}
use Rattle.database_file.proofs.Writing.{part}
use Rattle.database_file.proofs.write.make_page.Goals as goal

pub put_digest_under-requires : goal.put_digest_under-requires
put_digest_under-requires c =
    let from : ℕ = c.args.page * c.args.size in
    let words : List ℕ = take (c.min-to.result - from) (drop from c.args.words.now) in
    let long = ap (λ (bytes : List ℕ). length bytes) (c.put_words.ensures ∙ ap (λ (old : List ℕ). old ++ words_bytes c.args.version words) c.clear.ensures) ∙ length-cells (word_size c.args.version) words in
    let few : length words ≤ c.args.size = omega (arith, length-take (c.min-to.result - from) (drop from c.args.words.now), c.min-to.ensures) in
    let most : word_size c.args.version * length words ≤ word_size c.args.version * c.args.size = mul-le-mul_left (word_size c.args.version) few in
    (omega arith, omega (arith, long, most, c.requires.room))

pub returns : goal.returns
returns c =
    let from : ℕ = c.args.page * c.args.size in
    let binding = c.as_slice.ensures.value ∙ c.binding_of-binding.ensures in
    let words = ap (λ (to : ℕ). take (to - from) (drop from c.args.words.now)) c.min-to.ensures ∙ part from c.args.size c.args.words.now in
    let bytes = c.put_words.ensures ∙ ap (λ (old : List ℕ). old ++ words_bytes c.args.version (take (c.min-to.result - from) (drop from c.args.words.now))) c.clear.ensures in
    c.put_digest_under.ensures ∙ ap₂ sealed_under binding (bytes ∙ ap (λ (words : List ℕ). words_bytes c.args.version words) words)
