-- The upper word of a state is found where the lower one holds.
use Rattle.std.proofs.Common.{◌≡◌, ◌∙◌, ℕ, ℤ, ◌≤ℤ◌, ◌<ℤ◌, ap, subst, refl, arith}
use Rattle.std.proofs.lemmas.Int.{ints}
use Rattle.position_rank.specs.Placement.{Placement}
use Rattle.directed_fixed.specs.Bounds.{Bounds}
use Rattle.directed_fixed.specs.declared.bounds.End.TheVariants.{Lower, Upper}
use Rattle.turn_rule.specs.States.{IsState, pair_of}
use Rattle.interval_words.specs.WordLists.{WordList, words_in_list}
use Rattle.base_verify.specs.Findings.{turn_over}
use Rattle.base_verify.specs.Checks.{IsFindingOf}

module _ (words : WordList) (p : Placement) (k : ℕ) (stored turn : Bounds) (s t : ℤ) where
  pub upper-found : IsState words.game p k → stored ≡ pair_of (words_in_list words) p k → turn ≡ pair_of (turn_over words) p k → s ≡ stored.upper → t ≡ turn.upper
      → stored.lower ≤ℤ turn.lower → stored.upper <ℤ turn.upper → IsFindingOf words p k (record { position = p; kind = k; side = Upper; stored = s; computed = t })
  upper-found state is_stored is_turn s_is t_is order less = record {
    found = record {
      state = state;
      stored = s_is ∙ ap (λ (b : Bounds). b.upper) is_stored;
      computed = t_is ∙ ap (λ (b : Bounds). b.upper) is_turn;
      looser = omega (arith, ints, s_is, t_is, less);
    };
    position = refl;
    kind = refl;
    lower = λ _.
        subst (λ (z : ℤ). words_in_list words Lower p k ≤ℤ z) (ap (λ (b : Bounds). b.lower) is_turn)
        (subst (λ (z : ℤ). z ≤ℤ turn.lower) (ap (λ (b : Bounds). b.lower) is_stored) order);
  }
