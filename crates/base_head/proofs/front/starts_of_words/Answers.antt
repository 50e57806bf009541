use Rattle.std.proofs.Common.{◌∙◌, ℕ, ◌+◌, ◌*◌, ◌++◌, ◌∷◌, [], List, ℤ, drop, length-append, length, ap, ap₂, arith}
use Rattle.directed_fixed.specs.Bounds.{Bounds}
use Rattle.cube_actions.specs.Starts.{StartPairs}
use Rattle.base_head.specs.Fronts.{pairs_of_words}
use Rattle.base_head.proofs.WordPairs.{all-pairs, lower-units, next-pair, upper-units}
use Rattle.base_head.proofs.front.starts_of_words.Goals as goal

pub of_word-lower-requires : goal.of_word-lower-requires
of_word-lower-requires c =
    let within = c.requires.right c.starts.number (omega (arith, c.starts-test.true)) in
    lower-units _ within

pub of_word-upper-requires : goal.of_word-upper-requires
of_word-upper-requires c =
    let within = c.requires.right c.starts.number (omega (arith, c.starts-test.true)) in
    upper-units _ within

pub new-requires : goal.new-requires
new-requires c =
    let within = c.requires.right c.starts.number (omega (arith, c.starts-test.true)) in
    rw (c.of_word-lower.ensures, c.of_word-upper.ensures) within.in_order

pub add-requires-clause-room : goal.add-requires-clause-room
add-requires-clause-room c = rw c.starts.invariant.same (omega (arith, c.starts.invariant.count, c.requires.room, c.starts-test.true))

pub add-requires-clause-within : goal.add-requires-clause-within
add-requires-clause-within c =
    let within = c.requires.right c.starts.number (omega (arith, c.starts-test.true)) in
    rw (c.new.ensures, c.of_word-lower.ensures, c.of_word-upper.ensures) within

pub starts-preserved : goal.starts-preserved
starts-preserved c =
    let i = c.starts.number in
    let words = c.args.words.now in
    let before = c.starts.starts.pairs in
    let pair = c.new.ensures ∙ ap₂ (λ (l u : ℤ). record { lower = l; upper = u }) c.of_word-lower.ensures c.of_word-upper.ensures in
    record {
      whole =
          ap (λ (starts : StartPairs). starts.pairs ++ pairs_of_words (drop (2 * (i + 1)) words)) c.add.ensures
          ∙ next-pair before c.new.result i words (omega (arith, c.starts-test.true)) pair
          ∙ c.starts.invariant.whole;
      count =
          ap (λ (starts : StartPairs). length starts.pairs) c.add.ensures
          ∙ length-append before (c.new.result ∷ [])
          ∙ ap (λ (k : ℕ). k + 1) c.starts.invariant.count;
      same = ap (λ (starts : StartPairs). starts.match_length) c.add.ensures ∙ c.starts.invariant.same;
    }

pub returns : goal.returns
returns c =
    let pairs = all-pairs c.starts.starts.pairs c.starts.number c.args.words.now (omega (arith, c.starts-test.false)) c.starts.invariant.whole in
    ap₂ (λ (length : ℕ) (list : List Bounds). record { match_length = length; pairs = list }) c.starts.invariant.same pairs
