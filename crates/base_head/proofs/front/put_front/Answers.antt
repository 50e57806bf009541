use Rattle.std.proofs.Common.{◌≡◌, ◌≤◌, ◌∙◌, ℕ, ◌+◌, ◌*◌, List, [], ◌++◌, length, ap, arith, rules, length-append}
use Rattle.cube_actions.specs.Starts.{StartPairs}
use Rattle.word_pages.proofs.Texts.{length-cells}
use Rattle.word_pages.specs.declared.version.Version.{Version}
use Rattle.word_pages.specs.declared.version.Version.TheVariants.{One, Two, Three}
use Rattle.word_pages.specs.Words.{word_size, words_bytes}
use Rattle.base_head.specs.Fronts.{words_of_pairs}
use Rattle.base_head.specs.Headers.{pair_size, spelled}
use Rattle.base_head.proofs.WordPairs.{length-words}
use Rattle.base_head.proofs.front.put_front.Goals as goal

room : (version : Version) (n len most : ℕ) → len ≡ 64 + word_size version * (2 * n) → 64 + pair_size version * n + 32 ≤ most → len + 32 ≤ most
room One n len most is le = omega (arith, is, le)
room Two n len most is le = omega (arith, is, le)
room Three n len most is le = omega (arith, is, le)

pub put_digest-requires : goal.put_digest-requires
put_digest-requires g c =
    let pairs = c.args.head.now.starts.pairs in
    let words = words_bytes c.args.version (words_of_pairs c.starts.result.now.pairs) in
    let front : c.put.new.out.items ≡ [] ++ spelled c.of.result = c.put.ensures ∙ ap (λ (out : List ℕ). out ++ spelled c.of.result) c.requires.empty in
    let long : length c.put_starts.new.out.items ≡ 64 + word_size c.args.version * (2 * length pairs) =
    ap (λ (bytes : List ℕ). length bytes) (c.put_starts.ensures ∙ ap (λ (bytes : List ℕ). bytes ++ words) front)
    ∙ length-append (spelled c.of.result) words
    ∙ ap (λ (k : ℕ). 64 + k) (length-cells (word_size c.args.version) (words_of_pairs c.starts.result.now.pairs) ∙ ap (λ (k : ℕ). word_size c.args.version * k) (length-words c.starts.result.now.pairs ∙ ap (λ (starts : StartPairs). 2 * length starts.pairs) c.starts.ensures.starts)) in
    (search rules, room c.args.version (length pairs) _ _ long c.requires.room)
