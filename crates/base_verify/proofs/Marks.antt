-- The columns that were taken, by their marks.
use Rattle.std.proofs.Common.{◌≡◌, ◌+◌, ◌∙◌, ℕ, Bool, true, false, List, replicate, set, sum, arith, ap, sym, subst, inl, inr}
use Rattle.std.proofs.lemmas.Bool.{cases_eq}
use Rattle.std.proofs.lemmas.List.{get_or-replicate, get_or-set_other, length-replicate, length-set}
use Rattle.position_rank.specs.Ranks.{layouts}
use Rattle.position_rank.proofs.RankLaws.{rank-below}
use Rattle.turn_rule.specs.Truth.{AreConsistent}
use Rattle.interval_words.specs.WordLists.{WordList, words_in_list}
use Rattle.base_verify.specs.Columns.{AreHeld, ColumnsHold}

module _ (words : WordList) where
  pub no-marks : (n : ℕ) → layouts words.game.checkers ≡ n → AreHeld words (replicate n false)
  no-marks n count = record {
    many = length-replicate n false ∙ sym count;
    each = λ other below is. (let clash : false ≡ true = sym (get_or-replicate n other false false (omega (arith, below, length-replicate n false))) ∙ is in cc);
  }

  pub marked : (marks : List Bool) → AreHeld words marks → (i : ℕ) → ColumnsHold words i (i + 1) → AreHeld words (set marks i true)
  marked marks held i holds = record {
    many = length-set marks i true ∙ held.many;
    each = λ other below is. elim (cases_eq other i) [
      | inl same ↦ subst (λ (n : ℕ). ColumnsHold words n (n + 1)) (sym same) holds
      | inr not ↦ held.each other (omega (arith, below, length-set marks i true)) (sym (get_or-set_other marks i other true false not) ∙ is)
    ];
  }

pub all-columns : (words : WordList) → ColumnsHold words 0 (layouts words.game.checkers) → AreConsistent words.game (words_in_list words)
all-columns words held side p k state =
    let other : layouts (sum p.other) ≡ layouts words.game.checkers = ap layouts (sym state.position.same ∙ state.many) in
    held side p k state (omega arith) (omega (arith, other, rank-below p.other state.position.other))
