use Rattle.std.proofs.Common.{◌≡◌, ◌≤◌, ◌∙◌, ℕ, ◌*◌, ℤ, List, length, take, replicate, Option, Some, None, sym, subst, ap, ap₂, arith}
use Rattle.std.specs.Option.{option_map}
use Rattle.std.proofs.lemmas.List.{length-take-le}
use Rattle.cube_actions.specs.Stakes.{point_units}
use Rattle.cube_actions.specs.Starts.{StartPairs}
use Rattle.word_pages.specs.declared.flaws.Flaw.{Flaw}
use Rattle.word_pages.specs.Flaws.{LieWithin, pairs_flaw}
use Rattle.word_pages.specs.Words.{words_in_bytes}
use Rattle.word_pages.proofs.Within.{none-within}
use Rattle.base_head.specs.Faults.{checked}
use Rattle.base_head.specs.Fronts.{bad_of, pairs_of_words, starts_length}
use Rattle.base_head.proofs.Checked.{err-is}
use Rattle.base_head.proofs.Counts.{header-starts-few}
use Rattle.base_head.proofs.header.Header.starts_of.Goals as goal

cells-long : (n starts : ℕ) → n ≡ starts → starts ≤ 17 → length (take (2 * n) (replicate {A = ℕ} 34 0)) ≡ 2 * starts
cells-long n starts is few = length-take-le (2 * n) (replicate {A = ℕ} 34 0) (omega (arith, is, few)) ∙ ap (λ k. 2 * k) is

pub slice_bounds-cells-end : goal.slice_bounds-cells-end
slice_bounds-cells-end c = omega (arith, c.from.ensures, header-starts-few c.args.self.now c.requires.valid)

pub slice_bounds-words-end : goal.slice_bounds-words-end
slice_bounds-words-end c =
    sym (cells-long c.from.result c.args.self.now.starts c.from.ensures (header-starts-few c.args.self.now c.requires.valid) ∙ ap (λ k. 2 * k) (sym c.from.ensures))

pub returns-in_err-read_pairs : goal.returns-in_err-read_pairs
returns-in_err-read_pairs c =
    let header = c.args.self.now in
    let count = cells-long c.from.result header.starts c.from.ensures (header-starts-few header c.requires.valid) in
    let flaw : pairs_flaw header.version (point_units 1) 64 (words_in_bytes header.version (2 * header.starts) c.args.bytes.now) ≡ Some c.in_err-read_pairs.field-0.0 =
    ap₂ (λ (b : ℤ) (n : ℕ). pairs_flaw header.version b 64 (words_in_bytes header.version n c.args.bytes.now)) (sym c.whole.ensures) (sym count) ∙ sym c.in_err-read_pairs.ensures.flaw in
    err-is _ _ c.from_residual.ensures ∙ sym (ap (λ (o : Option Flaw). checked (option_map bad_of o) (record { match_length = starts_length header.name header.match_length; pairs = pairs_of_words (words_in_bytes header.version (2 * header.starts) c.args.bytes.now) })) flaw)

pub starts_of_words-requires-clause-right : goal.starts_of_words-requires-clause-right
starts_of_words-requires-clause-right c =
    let header = c.args.self.now in
    let count = cells-long c.from.result header.starts c.from.ensures (header-starts-few header c.requires.valid) in
    let none : pairs_flaw header.version (point_units 1) 64 (words_in_bytes header.version (2 * header.starts) c.args.bytes.now) ≡ None =
    ap₂ (λ (b : ℤ) (n : ℕ). pairs_flaw header.version b 64 (words_in_bytes header.version n c.args.bytes.now)) (sym c.whole.ensures) (sym count) ∙ sym c.in_ok-read_pairs.ensures.flaw in
    let words = c.in_ok-read_pairs.ensures.words ∙ ap (λ (n : ℕ). words_in_bytes header.version n c.args.bytes.now) count in
    subst (λ (list : List ℕ). LieWithin (point_units 1) list) (sym words) (none-within header.version (point_units 1) 64 (words_in_bytes header.version (2 * header.starts) c.args.bytes.now) none)

pub returns : goal.returns
returns c =
    let header = c.args.self.now in
    let count = cells-long c.from.result header.starts c.from.ensures (header-starts-few header c.requires.valid) in
    let none : pairs_flaw header.version (point_units 1) 64 (words_in_bytes header.version (2 * header.starts) c.args.bytes.now) ≡ None =
    ap₂ (λ (b : ℤ) (n : ℕ). pairs_flaw header.version b 64 (words_in_bytes header.version n c.args.bytes.now)) (sym c.whole.ensures) (sym count) ∙ sym c.in_ok-read_pairs.ensures.flaw in
    let words = c.in_ok-read_pairs.ensures.words ∙ ap (λ (n : ℕ). words_in_bytes header.version n c.args.bytes.now) count in
    let starts = c.starts_of_words.ensures ∙ ap₂ (λ (length : ℕ) (list : List ℕ). record { match_length = length; pairs = pairs_of_words list }) c.starts_length.ensures words in
    ap₂ (λ (o : Option Flaw) (s : StartPairs). checked (option_map bad_of o) s) (sym none) starts
