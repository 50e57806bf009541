-- Every roll has a legal sequence.
use Rattle.std.proofs.Common.{◌≡◌, ◌≢◌, ℕ, Bool, true, false, eqb, cond, List, [], ◌∷◌, Some, ◌⊎◌, inl, inr, refl, sym, ◌∙◌, arith}
use Rattle.std.proofs.lemmas.Bool.{cases_eq}
use Rattle.std.specs.List.{slice_get}
use Rattle.position_rank.specs.Placement.{Placement}
use Rattle.roll_table.specs.Rolls.{Dice}
use Rattle.move_rules.specs.declared.play.Move.{Move}
use Rattle.move_rules.specs.Sequences.{CanPlay, IsLegalEnd}
use Rattle.move_rules.specs.Ends.{all_lines, can_play, longest}
use Rattle.move_rules.proofs.EndsExact.{all_lines-sound, all_lines-complete, longest-bound, longest-reached, can_play-sound, can_play-complete}

first_die : (b : Bool) (high low : ℕ) → slice_get (cond b (high ∷ high ∷ high ∷ high ∷ []) (high ∷ low ∷ [])) 0 ≡ Some high
first_die true high low = refl
first_die false high low = refl

-- the one move by the higher die
by_higher : (p : Placement) (roll : Dice) → CanPlay p roll.high → longest (all_lines p roll) ≡ 1 → (q : Placement) × IsLegalEnd p roll q
by_higher p roll (from, q, move) one =
    let moves : List Move = record { from = from; die = roll.high } ∷ [] in (
      q,
      (
        moves,
        record {
          sequence = (0, first_die (eqb roll.high roll.low) roll.high roll.low, q, move, refl);
          longest = λ others end s. omega (arith, one, longest-bound (others, end) (all_lines p roll) (all_lines-complete p roll others end s));
          higher = λ _ _ _. refl;
        },
      ),
    )

pub some_legal_end : (p : Placement) (roll : Dice) → (q : Placement) × IsLegalEnd p roll q
some_legal_end p roll = choose (can_play p roll.high) refl (cases_eq (longest (all_lines p roll)) 1) where
  any : ((length_one : longest (all_lines p roll) ≡ 1) → CanPlay p roll.high → ⊥) → (q : Placement) × IsLegalEnd p roll q
  any never =
      let best = longest-reached ([], p) (all_lines p roll) (all_lines-complete p roll [] p refl) in (
        best.0.1,
        (
          best.0.0,
          record {
            sequence = all_lines-sound p roll best.0 best.1;
            longest = λ others end s. omega (arith, best.2, longest-bound (others, end) (all_lines p roll) (all_lines-complete p roll others end s));
            higher = λ one apart can. absurd (never (sym best.2 ∙ one) can);
          },
        ),
      )

  choose : (can : Bool) → can_play p roll.high ≡ can → (longest (all_lines p roll) ≡ 1) ⊎ (longest (all_lines p roll) ≢ 1) → (q : Placement) × IsLegalEnd p roll q
  choose true e (inl one) = by_higher p roll (can_play-sound p roll.high e) one
  choose true e (inr more) = any (λ one can. more one)
  choose false e n = any (λ one can. absurd (grind (arith, can_play-complete p roll.high can)))
