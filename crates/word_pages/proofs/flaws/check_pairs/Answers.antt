use Rattle.std.proofs.Common.{◌≡◌, ◌∙◌, ◌+◌, ◌*◌, ℕ, suc, None, drop, get_or, sym, ap, ap₂, arith, length-drop}
use Rattle.std.proofs.Math.Nat.{mul-suc}
use Rattle.std.specs.Result.{result_err}
use Rattle.word_pages.specs.Words.{word_size}
use Rattle.word_pages.specs.Flaws.{pair_flaw, pairs_flaw}
use Rattle.word_pages.proofs.Pairs.{no_pair, pairs_on}
use Rattle.word_pages.proofs.flaws.check_pairs.Goals as goal

pub pairs-preserved : goal.pairs-preserved
pairs-preserved c =
    let size = word_size c.args.version in
    let words = c.args.words.now in
    let at = c.args.at + 2 * size * c.pairs.i in
    let right : None ≡ pair_flaw c.args.version c.args.bound at (get_or words (2 * c.pairs.i) 0) (get_or words (2 * c.pairs.i + 1) 0) =
    ap result_err (sym c.in_ok-check_pair.was)
    ∙ c.check_pair.ensures
    ∙ ap (λ (s : ℕ). pair_flaw c.args.version c.args.bound (c.args.at + 2 * s * c.pairs.i) (get_or words (2 * c.pairs.i) 0) (get_or words (2 * c.pairs.i + 1) 0)) c.word_size-size.ensures in
    let next : 2 * c.pairs.i + 2 ≡ 2 * (c.pairs.i + 1) = omega arith in
    let one : c.pairs.i + 1 ≡ suc c.pairs.i = omega arith in
    let more : 2 * size * (c.pairs.i + 1) ≡ 2 * size * c.pairs.i + 2 * size = ap (λ k. 2 * size * k) one ∙ mul-suc (2 * size) c.pairs.i in
    let place : at + 2 * size ≡ c.args.at + 2 * size * (c.pairs.i + 1) = omega (arith, more) in
    c.pairs.invariant
    ∙ pairs_on c.args.version c.args.bound at (2 * c.pairs.i) words (omega (arith, c.pairs-test.true)) right
    ∙ ap₂ (λ (place n : ℕ). pairs_flaw c.args.version c.args.bound place (drop n words)) place next

pub returns : goal.returns
returns c =
    let at = c.args.at + 2 * word_size c.args.version * c.pairs.i in
    sym (c.pairs.invariant ∙ no_pair c.args.version c.args.bound at (drop (2 * c.pairs.i) c.args.words.now) (omega (arith, c.pairs-test.false, length-drop (2 * c.pairs.i) c.args.words.now)))
