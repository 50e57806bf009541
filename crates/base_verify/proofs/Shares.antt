-- The parts of the words, each of neighbouring positions.
use Rattle.std.proofs.Common.{◌≡◌, ◌≤◌, ◌<◌, ◌+◌, ◌*◌, ◌/◌, ◌∙◌, ℕ, Option, Some, None, List, length, get_or, arith, ap, sym, subst}
use Rattle.std.proofs.lemmas.Nat.{le-div}
use Rattle.std.proofs.Math.Nat.{div-le_of_le-mul, div-mul-le_self, mul-div_cancel, mul-le-mul_left}
use Rattle.position_rank.specs.LiveRanks.{live_positions}
use Rattle.interval_words.specs.WordLists.{WordList}
use Rattle.base_verify.specs.declared.finding.Finding.{Finding}
use Rattle.base_verify.specs.Findings.{HoldBetween}
use Rattle.base_verify.specs.Checks.{ArePartsTold, IsFirstBetween, TellsBetween, word_place, start_of}
use Rattle.base_verify.proofs.Parts.{found-before, hold-none, places-rise, tells-after}

pub share-rise : (count parts a b : ℕ) → 0 < parts → a ≤ b → count * a / parts ≤ count * b / parts
share-rise count parts a b some le =
    let down : count * a / parts * parts ≤ count * a = div-mul-le_self (count * a) parts in
    let up : count * a ≤ count * b = mul-le-mul_left count le in
    le-div (count * a / parts) (count * b) parts some (omega (arith, down, up))

pub no-share : (count parts : ℕ) → count * 0 / parts ≡ 0
no-share count parts =
    let small : count * 0 / parts ≤ 0 = div-le_of_le-mul parts (omega arith) in
    omega (arith, small)

module _ (words : WordList) (parts : ℕ) (some : 0 < parts) where
  pub none-yet : HoldBetween words (word_place words 0) (word_place words (start_of words parts 0))
  none-yet =
      subst (λ (n : ℕ). HoldBetween words (word_place words 0) (word_place words n)) (sym (no-share (live_positions words.game.checkers) parts)) (hold-none words (word_place words 0))

  module _ (told : List (Option Finding)) (are : ArePartsTold words parts told) (i : ℕ) (held : HoldBetween words (word_place words 0) (word_place words (start_of words parts i))) where
    tells-more : (found : Option Finding) → i < length told → get_or told i None ≡ found → TellsBetween words (word_place words 0) (word_place words (start_of words parts (i + 1))) found
    tells-more found below is =
        let here : i < parts = omega (arith, are.many, below) in
        let part = subst (TellsBetween words (word_place words (start_of words parts i)) (word_place words (start_of words parts (i + 1)))) is (are.each i here) in
        tells-after words (word_place words 0) (word_place words (start_of words parts i)) (word_place words (start_of words parts (i + 1))) found (places-rise words 0 (start_of words parts i) (omega arith)) held part

    pub part-more : i < length told → get_or told i None ≡ None → HoldBetween words (word_place words 0) (word_place words (start_of words parts (i + 1)))
    part-more below is = tells-more None below is

    pub part-found : (f : Finding) → i < length told → get_or told i None ≡ Some f → IsFirstBetween words (word_place words 0) (word_place words (live_positions words.game.checkers)) f
    part-found f below is =
        let count = live_positions words.game.checkers in
        let here : i + 1 ≤ parts = omega (arith, are.many, below) in
        let inside : start_of words parts (i + 1) ≤ count = subst (λ (n : ℕ). start_of words parts (i + 1) ≤ n) (mul-div_cancel count some) (share-rise count parts (i + 1) parts some here) in
        found-before words (word_place words 0) (word_place words (start_of words parts (i + 1))) (word_place words count) f (places-rise words (start_of words parts (i + 1)) count inside) (tells-more (Some f) below is)

    pub all-parts : i ≡ length told → HoldBetween words (word_place words 0) (word_place words (live_positions words.game.checkers))
    all-parts all =
        let count = live_positions words.game.checkers in
        let end : start_of words parts i ≡ count = ap (λ (n : ℕ). count * n / parts) (all ∙ are.many) ∙ mul-div_cancel count some in
        subst (λ (n : ℕ). HoldBetween words (word_place words 0) (word_place words n)) end held
