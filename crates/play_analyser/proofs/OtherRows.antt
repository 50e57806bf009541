-- The pairs of the plays that leave another position, one row after another.
use Rattle.std.proofs.Common.{◌≡◌, ◌<◌, ◌+◌, ◌++◌, ◌∙◌, ℕ, List, [], ◌∷◌, length, take, get_or, Bool, true, false, if◌then◌else◌, ap, refl, sym}
use Rattle.std.proofs.lemmas.List.{take_more}
use Rattle.position_rank.specs.Placement.{Placement}
use Rattle.directed_fixed.specs.Bounds.{Bounds}
use Rattle.play_analyser.specs.declared.ranking.PlayRow.{PlayRow}
use Rattle.play_analyser.specs.Choices.{same_position}
use Rattle.play_analyser.specs.Rankings.{other_pairs}

module _ (end : Placement) where
  other_pairs-append : (rows : List PlayRow) (row : PlayRow) → other_pairs end (rows ++ row ∷ []) ≡ other_pairs end rows ++ (if same_position row.entry.end end then [] else row.pair ∷ [])
  other_pairs-append [] row = refl
  other_pairs-append (first ∷ rows) row = by_same (same_position first.entry.end end) (other_pairs-append rows row) where
    by_same : (same : Bool) → other_pairs end (rows ++ row ∷ []) ≡ other_pairs end rows ++ (if same_position row.entry.end end then [] else row.pair ∷ [])
        → (if same then other_pairs end (rows ++ row ∷ []) else first.pair ∷ other_pairs end (rows ++ row ∷ [])) ≡ (if same then other_pairs end rows else first.pair ∷ other_pairs end rows) ++ (if same_position row.entry.end end then [] else row.pair ∷ [])
    by_same true rest = rest
    by_same false rest = ap (λ (xs : List Bounds). first.pair ∷ xs) rest

  module _ (rows : List PlayRow) (i : ℕ) (row : PlayRow) (here : i < length rows) (at_i : row ≡ get_or rows i row) where
    one-more : other_pairs end (take (i + 1) rows) ≡ other_pairs end (take i rows) ++ (if same_position row.entry.end end then [] else row.pair ∷ [])
    one-more = ap (other_pairs end) (take_more rows i row here ∙ ap (λ (x : PlayRow). take i rows ++ x ∷ []) (sym at_i)) ∙ other_pairs-append (take i rows) row

    pub another-more : same_position row.entry.end end ≡ false → other_pairs end (take (i + 1) rows) ≡ other_pairs end (take i rows) ++ row.pair ∷ []
    another-more is = one-more ∙ ap (λ (same : Bool). other_pairs end (take i rows) ++ (if same then [] else row.pair ∷ [])) is

    pub same-more : same_position row.entry.end end ≡ true → other_pairs end (take (i + 1) rows) ≡ other_pairs end (take i rows)
    same-more is = one-more ∙ ap (λ (same : Bool). other_pairs end (take i rows) ++ (if same then [] else row.pair ∷ [])) is ∙ none (other_pairs end (take i rows)) where
      none : (xs : List Bounds) → xs ++ [] ≡ xs
      none [] = refl
      none (x ∷ xs) = ap (λ (ys : List Bounds). x ∷ ys) (none xs)
