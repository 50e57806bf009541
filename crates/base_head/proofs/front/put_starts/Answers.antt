use Rattle.std.proofs.Common.{◌≡◌, ◌∙◌, ◌+◌, ◌*◌, ℕ, List, length, take, ap, arith, rules, length-append}
use Rattle.std.proofs.lemmas.List.{length-take-le}
use Rattle.word_pages.proofs.Texts.{length-cells}
use Rattle.word_pages.specs.Words.{word_size, words_bytes}
use Rattle.base_head.specs.Fronts.{words_of_pairs}
use Rattle.base_head.proofs.WordPairs.{fit-pair, length-words, low-lower, low-upper, room-for}
use Rattle.base_head.proofs.front.put_starts.Goals as goal

pub put_words-requires : goal.put_words-requires
put_words-requires g c =
    let i = c.starts.number in
    let pairs = c.args.starts.now.pairs in
    let size = word_size c.args.version in
    let done = take i pairs in
    let count : length done ≡ i = length-take-le i pairs (omega (arith, c.starts-test.true, c.len-number-end.ensures.pairs)) in
    let long : length c.starts.out.items ≡ length c.args.out.now.items + size * (2 * i) =
    ap (λ (bytes : List ℕ). length bytes) c.starts.invariant
    ∙ length-append c.args.out.now.items (words_bytes c.args.version (words_of_pairs done))
    ∙ ap (λ k. length c.args.out.now.items + k) (length-cells size (words_of_pairs done) ∙ ap (λ k. size * k) (length-words done ∙ ap (λ k. 2 * k) count)) in
    let within = c.pair-pair.ensures.within in (
      search rules,
      (
        room-for c.args.version i (length pairs) _ _ _ (omega (arith, c.starts-test.true, c.len-number-end.ensures.pairs)) c.requires long,
        fit-pair c.args.version _ _ (low-lower _ _ _ within c.lower.ensures.lower c.to_word.ensures) (low-upper _ _ _ within c.upper.ensures.upper c.to_word-in-starts.ensures),
      ),
    )
