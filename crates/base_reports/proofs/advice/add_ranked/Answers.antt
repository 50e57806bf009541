use Rattle.std.proofs.Common.{◌≡◌, ◌∙◌, ◌<◌, ◌++◌, ◌+◌, ℕ, zero, suc, List, [], ◌∷◌, length, take, slice_index_or, sym, ap, subst, add-one, append_assoc, arith}
use Rattle.std.proofs.lemmas.List.{append-nil, length-append}
use Rattle.position_rank.specs.Placement.{Placement}
use Rattle.play_analyser.specs.declared.ranking.PlayRow.{PlayRow}
use Rattle.base_reports.specs.Advice.{ranked_text, ranked_texts}
use Rattle.base_reports.proofs.advice.add_ranked.Goals as goal

-- one play more
more : (p : Placement) (n i : ℕ) (rows : List PlayRow) (row : PlayRow) → i < length rows → row ≡ slice_index_or rows i row
    → ranked_texts p n (take (suc i) rows) ≡ ranked_texts p n (take i rows) ++ ranked_text p (i + n) row
more p n i [] row inside is = absurd (omega (arith, inside))
more p n zero (first ∷ rows) row inside is =
    let none : n ≡ 0 + n = omega arith in
    append-nil (ranked_text p n first) ∙ ap (λ (r : PlayRow). ranked_text p n r) (sym is) ∙ ap (λ (m : ℕ). ranked_text p m row) none
more p n (suc i) (first ∷ rows) row inside is =
    let next : i + suc n ≡ suc i + n = omega arith in
    let later = more p (suc n) i rows row (omega (arith, inside)) is in
    ap (λ (text : List ℕ). ranked_text p n first ++ text) (later ∙ ap (λ (m : ℕ). ranked_texts p (suc n) (take i rows) ++ ranked_text p m row) next)
    ∙ sym (append_assoc (ranked_text p n first) (ranked_texts p (suc n) (take i rows)) (ranked_text p (suc i + n) row))

pub rows-preserved : goal.rows-preserved
rows-preserved c = record {
  bytes =
      let p = c.args.position.now in
      let rows = c.args.rows.now in
      let start = c.args.report.now.bytes in
      let added = more p 1 c.rows.i rows c.index-rows-i.result (omega (arith, c.rows-test.true, c.rows.auto.i-end)) c.index-rows-i.is in
      let one : ranked_texts p 1 (take (c.rows.i + 1) rows) ≡ ranked_texts p 1 (take c.rows.i rows) ++ ranked_text p (c.rows.i + 1) c.index-rows-i.result =
      subst (λ (m : ℕ). ranked_texts p 1 (take m rows) ≡ ranked_texts p 1 (take c.rows.i rows) ++ ranked_text p (c.rows.i + 1) c.index-rows-i.result) (sym (add-one c.rows.i)) added in
      c.push_str.ensures.bytes ∙ rw (c.rows.invariant.bytes, c.as_str.ensures.value, c.ranked_line-line.ensures.bytes)
      (append_assoc start (ranked_texts p 1 (take c.rows.i rows)) (ranked_text p (c.rows.i + 1) c.index-rows-i.result) ∙ ap (λ (text : List ℕ). start ++ text) (sym one));
  room =
      let long = ap (λ (text : List ℕ). length text) c.push_str.ensures.bytes ∙ length-append c.rows.report.bytes c.as_str.result.now in
      let line = ap (λ (text : List ℕ). length text) c.as_str.ensures.value in
      omega (arith, c.rows.invariant.room, long, line, c.ranked_line-line.ensures.length);
}
